-- A query that waits for its reply, and what the reply does: it completes the query, or gets 8 where it has over 4,096 bytes.
use mathlib.Core.Path.{◌≡◌, refl, sym, ap, subst, ◌∙◌}
use mathlib.Core.Bool.{Bool, true, false, not}
use mathlib.Core.List.{List, [], ◌∷◌}
use Prim.Native.Nat.{ℕ, ◌≤◌, ◌<◌}
use native.Mathlib.Omega.{arith}
use lib.Dec.{eqb}
use lib.ListN.{length}
use lib.Seq.{sets, length-sets}
use Rattle.wire.specs.Answer.{result, refused}
use Rattle.line_list.specs.Lines.{Line, lines_bytes}
use Rattle.reply.specs.Reply.{reply_text}
use Rattle.reply.proofs.ByteLaws.{reply_body, reply_prompt}
use Rattle.query.specs.Query.{text_of_query}
use Rattle.server_state.specs.declared.FeatureSupport.TheVariants as support
use Rattle.server_state.specs.State.{decided, with_repeat}
use Rattle.client_session.specs.declared.Command.{Command}
use Rattle.client_session.specs.declared.Command.TheVariants as command
use Rattle.client_session.specs.declared.Under.TheVariants as under
use Rattle.client_session.specs.Session.{Client, is_idle, with_under, with_query, with_server, with_last_query}
use Rattle.client_session.specs.Call.{complete}
use Rattle.client_session.specs.Start.{request, send_query}
use Rattle.client_session.specs.Piece.{is_reset, reply_in}
use Rattle.client_session.proofs.StartLaws.{query-starts}
use Rattle.client_session.proofs.PiecesLaws.{Awaiting, prompted}
use Rattle.bench.specs.Exchange.{Exchanged, exchanged}
use Rattle.bench.specs.Steps.{delivered}
use Rattle.bench.specs.Run.{send_room, reply_room, Bench, round, start_says}
use Rattle.agreement.proofs.Heard.{quiet}
use Rattle.agreement.proofs.Arrive.{TooLong, reply_stands, plainly, no_question, reply-overflows}
use Rattle.agreement.proofs.Started.{settled, settles}

-- a query of several PIDs
abbrev pub several : List ℕ → Bool
several pids = not (eqb (length pids) 1)

pub starts : (c : Client) (pids : List ℕ) (count : ℕ) → is_idle c.under ≡ true → 0 < length pids → length pids ≤ 6 →
    start_says c pids count ≡ send_query c (request pids count (several pids))
starts c pids count free some few = query-starts send_room c free (omega arith) pids count (several pids) (λ e. omega arith) few

-- a reply is awaited
pub waits : (k : Command) (c : Client) (store : List ℕ) → c.under ≡ under.Awaiting k → is_reset k ≡ false → c.got ≡ 0 → 4096 ≤ length store →
    Awaiting send_room k c store []
waits k c store a r g size = record { turn = a; reply = r; out = omega arith; size = size; got = g; front = refl }

module _ (pids : List ℕ) (count : ℕ) (ls : List Line) where
  abbrev pub text : List ℕ
  text = text_of_query pids count

  abbrev pub reply : List ℕ
  reply = reply_text false false true ls

  abbrev pub body : List ℕ
  body = reply_body false false true ls

  -- the client c waits for the reply to the query, sent by the command k
  abbrev pub asks : Client → Command → Client
  asks c k = with_under (with_query c (request pids count (several pids))) (under.Awaiting k) 0

  -- the session when the reply is complete, of a query in full and of a repeat
  abbrev pub fully : Client → Client
  fully c = with_under (with_last_query (asks c command.Query) text) under.Complete (length (prompted body))

  abbrev pub again : Client → Client
  again c = with_under (with_server (asks c command.Repeat) (with_repeat c.server (decided c.server.repeat support.Yes))) under.Complete (length (prompted body))

  module _ (c : Client) (k : Command) (store ks server command : List ℕ) where
    abbrev pub bench : Bench
    bench = record { client = asks c k; store = store; server = quiet server; lengths = ks }

    -- the server replies with the lines
    module _ (x : Exchanged) (e : exchanged reply_room (quiet server) command (lines_bytes ls) ≡ x) (q : x.text ≡ reply) (w : Awaiting send_room k (asks c k) store []) where
      pub reply_fails : 4096 < length reply → ((round bench command (lines_bytes ls)).answer ≡ refused 8) × ((round bench command (lines_bytes ls)).text ≡ [])
      unfolding delivered
      reply_fails h =
          let same = ap (λ (x : Exchanged). x.text) e ∙ q in
          subst (λ r. TooLong (delivered send_room (asks c k) store ks r).said) (sym same) (reply-overflows k (asks c k) store ks w ls h)

      pub reply_comes : length reply ≤ 4096 → round bench command (lines_bytes ls) ≡ settled k bench command (lines_bytes ls) x body
      reply_comes h = settles k bench command (lines_bytes ls) x body e (q ∙ reply_prompt false false true ls) w (plainly ls h)

  module _ (store : List ℕ) (size : 4096 ≤ length store) where
    -- the reply stands in the store
    pub stands : (d : Client) → d.got ≡ length (prompted body) → length reply ≤ 4096 → reply_in d (sets store 0 (prompted body)) ≡ reply
    stands d n h =
        let e = reply_prompt false false true ls in
        let short : length (prompted body) ≤ 4096 = rw (← e) h in
        reply_stands d store (prompted body) n short size ∙ sym e

    pub still_size : 4096 ≤ length (sets store 0 (prompted body))
    still_size = omega (arith, size, length-sets store 0 (prompted body))

  -- no `?` stands in it, so a repeat is complete with it
  pub repeat_complete : (c : Client) (store ks server : List ℕ) (x : Exchanged) →
      settled command.Repeat (bench c command.Repeat store ks server (13 ∷ [])) (13 ∷ []) (lines_bytes ls) x body ≡
      record {
        answer = result complete;
        text = [];
        bench = record { client = again c; store = sets store 0 (prompted body); server = x.next; lengths = (delivered send_room (asks c command.Repeat) store ks (prompted body)).lengths };
        handed = x.handed;
      }
  repeat_complete c store ks server x = rw (← reply_prompt false false true ls, no_question ls)
