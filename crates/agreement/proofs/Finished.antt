-- What the bench run's finish of the reply to a query's lines comes to: no number, some values, and where the lines are the demand's those that the vehicle gave.
use mathlib.Core.Path.{◌≡◌, refl, sym, ap, subst, ◌∙◌}
use mathlib.Core.Bool.{Bool, true, false}
use mathlib.Core.List.{List, [], ◌∷◌, map}
use mathlib.Core.Option.{none}
use Prim.Native.Nat.{ℕ, ◌≤◌}
use native.Mathlib.Omega.{arith}
use lib.ListN.{length, take, length-take}
use borrow.Author.Tests.{le-ltb}
use Rattle.group.specs.Format.{Each}
use Rattle.wire.specs.Answer.{result, unless}
use Rattle.wire.specs.Text.{high}
use Rattle.wire.proofs.All.{Bytes}
use Rattle.pid.specs.J1979.{j1979}
use Rattle.line_list.specs.Lines.{Line, Fits}
use Rattle.value.specs.Values.{Value, values_bytes}
use Rattle.value.proofs.RecordLaws.{ValuesFit}
use Rattle.reply.specs.Reply.{reply_text}
use Rattle.reply.proofs.ByteLaws.{reply_low}
use Rattle.reply_lines.specs.Decode.{lines_of_reply}
use Rattle.reply_values.specs.Values.{values_of, answer_order}
use Rattle.reply_values.specs.Learn.{shown_lengths, lengths_after}
use Rattle.reply_values.specs.Read.{Reading}
use Rattle.reply_values.proofs.OrderLaws.{order_size, order_fit}
use Rattle.reply_values.proofs.SizeLaws.{reply_size_lem}
use Rattle.reply_values.proofs.WalkLaws.{values_fit}
use Rattle.reply_values.proofs.ReadLaws.{reply-known}
use Rattle.client_session.specs.declared.Under.TheVariants as under
use Rattle.client_session.specs.Session.{Client, is_complete, with_under, with_server}
use Rattle.client_session.specs.Call as progress
use Rattle.client_session.specs.Call.{ClientSaid, client_saying}
use Rattle.client_session.specs.Piece.{reply_in}
use Rattle.client_session.specs.Finish.{finish_says}
use Rattle.client_session.proofs.FinishLaws.{read_for, finish_low}
use Rattle.bench.specs.Run.{values_room}
use Rattle.line_list.proofs.LineLaws.{AllBytes}
use Rattle.agreement.specs.Vehicle.{given}
use Rattle.agreement.specs.Lines.{GoodLines}
use Rattle.agreement.proofs.ReplyBack.{known, lines_back, reply_back}
use Rattle.agreement.proofs.Given.{given-values}
use Rattle.agreement.proofs.Agree.{Agree, values_agree, EachRight, show_lines, learn_agree}

-- ---- any complete reply

-- the lengths that a session knows after its query was answered by lines
abbrev lengths_then : Client → List Line → List ℕ
lengths_then c ls = lengths_after c.query.several c.query.pids c.server.pid_lengths ls

-- The query of a session c is over, and the next session n keeps what does not depend on the reply.
pub record Over (c n : Client) : Type 0 where
  pub under : n.under ≡ under.Idle
  pub got : n.got ≡ 0
  pub query : n.query ≡ c.query
  pub wanted : n.wanted ≡ c.wanted
  pub framing : n.server.framing ≡ c.server.framing
  pub repeat : n.server.repeat ≡ c.server.repeat
  pub last : n.last ≡ c.last

-- what a finish says of a reply whose values fit
abbrev with_values : Client → Reading → ClientSaid
with_values c r = client_saying (progress.values (length r.values)) (with_under (with_server c r.server) under.Idle 0) (values_bytes r.values)

over_with : (c : Client) (reply : List ℕ) → Over c (with_values c (read_for c reply)).next
over_with c reply = record { under = refl; got = refl; query = refl; wanted = refl; framing = refl; repeat = refl; last = refl }

-- a reply has at most 4,096 bytes below 80 hex, so its values fit, and the finish gets no number
finish_fits : (c : Client) (store : List ℕ) → is_complete c.under ≡ true → 4096 ≤ length store → high (reply_in c store) ≡ false →
    finish_says values_room c store ≡ with_values c (read_for c (reply_in c store))
unfolding unless
finish_fits c store turn size low =
    let reply = reply_in c store in
    let ls = lines_of_reply c.server.framing reply in
    let short : length reply ≤ 4096 = omega (arith, length-take c.got (take 4096 store), length-take 4096 store) in
    let vs = values_of (lengths_then c ls) ls in
    let fits = reply_size_lem (lengths_then c ls) c.server.framing reply short in
    finish_low values_room c store turn size low ∙
    rw (le-ltb values_room (length (values_bytes (answer_order vs))) (omega (arith, order_size vs)))

-- ---- the reply to a run's lines

known_good : (L : ℕ → ℕ) (ls : List Line) → GoodLines L ls → GoodLines L (map known ls)
known_good L [] g = g
known_good L (l ∷ ls) g = (g.0, known_good L ls g.1)

known_bytes : (ls : List Line) → AllBytes ls → AllBytes (map known ls)
known_bytes [] b = b
known_bytes (l ∷ ls) b = (b.0, known_bytes ls b.1)

module _ (L : ℕ → ℕ) where
  -- what the client reads back shows no length but the run's: NO DATA shows none
  show_back : (p : ℕ) (ls : List Line) → GoodLines L ls → j1979 p ≡ none → EachRight L p (shown_lengths p (lines_back ls))
  show_back p [] g h = tt
  show_back p (l ∷ ls) g h = show_lines L p h (map known (l ∷ ls)) (known_good L (l ∷ ls) g)

  -- so the lengths learned from it agree with the run's
  after_agree : (several : Bool) (pids lengths : List ℕ) (ls : List Line) → Bytes pids → Agree L lengths → GoodLines L ls → Agree L (lengths_after several pids lengths (lines_back ls))
  after_agree true pids lengths ls b a g = a
  after_agree false [] lengths ls b a g = a
  after_agree false (p ∷ ps) lengths ls b a g = learn_agree L lengths p (lines_back ls) b.0 a (show_back p ls g)

  -- and its values are what the vehicle gave: none for NO DATA
  values_back : (lengths : List ℕ) → Agree L lengths → (ls : List Line) → AllBytes ls → GoodLines L ls → values_of lengths (lines_back ls) ≡ given ls
  values_back lengths a [] b g = refl
  values_back lengths a (l ∷ ls) b g =
      values_agree L lengths a (map known (l ∷ ls)) (known_good L (l ∷ ls) g) (known_bytes (l ∷ ls) b) ∙ sym (given-values (l ∷ ls) b)

-- A finish f of the query of a session c, whose reply is that to some lines: it gives values that fit a record. In a run with the lengths L, and lines that keep to them,
-- they are what the vehicle gave, in the order of an answer, and the session's lengths agree with the run's as before.
pub record Finishes (c : Client) (ls : List Line) (f : ClientSaid) : Type 0 where
  pub values : List Value
  pub answer : f.answer ≡ result (progress.values (length values))
  pub text : f.text ≡ values_bytes values
  pub fit : ValuesFit values
  pub over : Over c f.next
  pub gave : (L : ℕ → ℕ) → Agree L c.server.pid_lengths → GoodLines L ls → (values ≡ answer_order (given ls)) × Agree L f.next.server.pid_lengths

module _ (c : Client) (store : List ℕ) (ls : List Line) (turn : is_complete c.under ≡ true) (size : 4096 ≤ length store) (framed : c.server.framing ≡ true)
    (r : reply_in c store ≡ reply_text false false true ls) (fit : Each Fits ls) (bytes : AllBytes ls) (pids : Bytes c.query.pids) where
  abbrev found : List Value
  found = let back = lines_of_reply c.server.framing (reply_in c store) in values_of (lengths_then c back) back

  back : lines_of_reply c.server.framing (reply_in c store) ≡ lines_back ls
  back = (λ i. lines_of_reply (framed i) (r i)) ∙ reply_back ls fit bytes

  agrees : (L : ℕ → ℕ) → Agree L c.server.pid_lengths → GoodLines L ls → Agree L (lengths_then c (lines_back ls))
  agrees L a g = after_agree L c.query.several c.query.pids c.server.pid_lengths ls pids a g

  pub finish_lines : Finishes c ls (finish_says values_room c store)
  finish_lines =
      let lines = lines_of_reply c.server.framing (reply_in c store) in
      rw (finish_fits c store turn size (ap high r ∙ reply_low false false true ls))
      (record {
        values = answer_order found;
        answer = refl;
        text = refl;
        fit = order_fit found (values_fit (lengths_then c lines) lines (reply-known c.server.framing (reply_in c store)));
        over = over_with c (reply_in c store);
        gave = λ L a g. (
          ap (λ ls. answer_order (values_of (lengths_then c ls) ls)) back ∙ ap answer_order (values_back L (lengths_then c (lines_back ls)) (agrees L a g) ls bytes g),
          subst (λ ls. Agree L (lengths_then c ls)) (sym back) (agrees L a g),
        );
      })
