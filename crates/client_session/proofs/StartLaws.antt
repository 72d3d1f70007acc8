-- What a start says.
use mathlib.Core.Path.{◌≡◌}
use mathlib.Core.Bool.{Bool, true, false}
use mathlib.Core.List.{List, [], ◌∷◌, ◌++◌}
use Prim.Native.Nat.{ℕ, ◌≤◌}
use native.Mathlib.Omega.{arith}
use lib.Dec.{eqb, ltb}
use lib.ListN.{length, length-append}
use borrow.Author.Tests.{ne_eqb, le-ltb, ltb-false}
use Rattle.wire.specs.Answer.{result, unless}
use Rattle.wire.specs.Text.{ascii}
use Rattle.wire.proofs.Cases.{by_test, or_none_lem}
use Rattle.wire.proofs.UnlessLaws.{unless_by}
use Rattle.query.proofs.QueryLaws.{query_short}
use Rattle.client_command.proofs.CommandLaws.{cr_length}
use Rattle.client_session.specs.declared.Command.TheVariants.{Reset, Query, Repeat}
use Rattle.client_session.specs.Session.{Request, Client, is_idle, with_query}
use Rattle.client_session.specs.Call.{sent, ClientSaid, sends}
use Rattle.client_session.specs.Start.{init_says, command_says, repeats, send_query, request, query_says}

-- a query goes out as a bare CR, or in full
pub query_repeated : (c : Client) (q : Request) → repeats c q ≡ true → send_query c q ≡ sends (with_query c q) Repeat (13 ∷ [])
query_repeated c q e = rw e

pub query_in_full : (c : Client) (q : Request) → repeats c q ≡ false → send_query c q ≡ sends (with_query c q) Query (q.text ++ (13 ∷ []))
query_in_full c q e = rw e

pub query-sent : (c : Client) (q : Request) → (send_query c q).answer ≡ result sent
query-sent c q = by_test (repeats c q) (λ e. rw e) (λ e. rw e)

-- nothing is under way, and there is room
module _ (room : ℕ) (c : Client) (free : is_idle c.under ≡ true) (fits : 80 ≤ room) where
  pub init_starts : init_says room c ≡ sends c Reset (ascii "ATZ\r")
  unfolding init_says unless
  init_starts = rw (free, le-ltb room 80 fits)

  -- a query of one to six PIDs
  pub query-starts : (pids : List ℕ) (count : ℕ) (several : Bool) → (length pids ≡ 0 → ⊥) → length pids ≤ 6 →
      query_says room c pids count several ≡ send_query c (request pids count several)
  unfolding query_says unless
  query-starts pids count several some few = rw (free, ne_eqb (length pids) 0 some, le-ltb 6 (length pids) few, le-ltb room 80 fits)

-- ---- the bytes to send fit

module _ (room : ℕ) (c : Client) where
  abbrev Fits : ClientSaid → Type 0
  Fits d = length d.text ≤ room

  query_short_line : (q : Request) → length q.text ≤ 79 → length (send_query c q).text ≤ 80
  query_short_line q h = by_test (repeats c q) (λ e. rw e (omega arith)) (λ e. rw e (omega (arith, length-append q.text (13 ∷ []))))

  pub init_fits : length (init_says room c).text ≤ room
  unfolding init_says
  init_fits = unless_by Fits _ (λ n. omega arith) (λ (_, (f, _)). omega (arith, ltb-false room 80 f))

  pub command_fits : (command : List ℕ) → length (command_says room c command).text ≤ room
  unfolding command_says
  command_fits command =
      unless_by Fits _ (λ n. omega arith) (λ (_, (l, (_, (f, _)))). omega (arith, ltb-false room 80 f, ltb-false 64 (length command) l, cr_length command))

  pub query_fits : (pids : List ℕ) (count : ℕ) (several : Bool) → length (query_says room c pids count several).text ≤ room
  unfolding query_says
  query_fits pids count several =
      unless_by Fits _ (λ n. omega arith)
      (λ (_, (t, (f, _))).
      let six = ltb-false 6 (length pids) (or_none_lem (eqb (length pids) 0) (ltb 6 (length pids)) t).1 in
      omega (arith, ltb-false room 80 f, query_short_line (request pids count several) (omega (arith, query_short pids count six))))
