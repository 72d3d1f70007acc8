-- The initialisation of fresh sessions: ATZ, whose echo and answer arrive as one piece, and then the other commands.
use mathlib.Core.Path.{◌≡◌, refl, sym, ap, ◌∙◌}
use mathlib.Core.Bool.{Bool, true}
use mathlib.Core.List.{List, []}
use Prim.Native.Nat.{ℕ, ◌≤◌}
use native.Mathlib.Omega.{arith}
use lib.ListN.{length, take}
use Rattle.server_session.specs.declared.ServerSession.{ServerSession}
use Rattle.server_session.specs.Session.{session, fresh_session}
use Rattle.client_session.specs.declared.ClientSession.{ClientSession}
use Rattle.client_session.specs.declared.ClientStep.{ClientStep}
use Rattle.client_session.specs.Session.{client, fresh_client}
use Rattle.client_session.specs.Call.{ClientSaid, ClientServed, client_lent, client_answer, client_step}
use Rattle.client_session.specs.Start.{init_says}
use Rattle.client_session.specs.Piece.{piece_says, store_after}
use Rattle.client_session.proofs.StartLaws.{init_starts, init_fits}
use Rattle.client_session.proofs.PieceLaws.{piece_fits}
use Rattle.bench.specs.declared.ExchangeStep.{ExchangeStep}
use Rattle.bench.specs.Exchange.{Exchanged, exchanged}
use Rattle.bench.specs.Run.{send_room, reply_room, fresh_store, onward, initialised}
use Rattle.std.specs.Borrow.{Bor}
use Rattle.bench.specs.declared.Work.{Work}
use Rattle.bench.specs.Steps.{RoundStep, exchange_step, exchange_lent, round_of, reset_fresh, RoundDoes, Comes}
use Rattle.bench.proofs.RoundLaws.{lent_text, lent_inside, reply-text, reply-next}
use Rattle.bench.proofs.AskLaws.{start_text, start_size, start_inside}
use Rattle.bench.proofs.OnwardLaws.{held_then, does_held, onward-held}

-- ATZ of a fresh client goes out
module _ (repeat : Bool) (out out₁ : List ℕ) (fresh : ClientSession) (i : ClientStep) (size : length out ≡ send_room) (new : client fresh ≡ fresh_client true repeat)
    (started : client_step i out₁ ≡ client_lent (init_says (length out) (client fresh)) out) where
  abbrev starts : ClientSaid
  starts = init_says send_room (fresh_client true repeat)

  sends : client_step i out₁ ≡ client_lent starts out
  sends = started ∙ (λ j. client_lent (init_says (size j) (new j)) out)

  start_fits : length starts.text ≤ send_room
  start_fits = init_fits send_room (fresh_client true repeat)

  command : take i.written out₁ ≡ starts.text
  command = start_text starts i out out₁ size start_fits sends

  same_size : length out₁ ≡ send_room
  same_size = start_size starts i out out₁ size start_fits sends

  pub init_inside : i.written ≤ send_room
  init_inside = omega (arith, same_size, start_inside starts i out out₁ size start_fits sends)

  next : client i.session ≡ starts.next
  next = ap (λ (v : ClientServed). v.next) sends

  -- the echo and the answer of a fresh server are one piece
  module _ (reply reply₁ store out₂ store₁ : List ℕ) (server : ServerSession) (x : ExchangeStep) (step : ClientStep) (large : length reply ≡ reply_room) (empty : store ≡ fresh_store)
      (ready : session server ≡ fresh_session)
      (heard : exchange_step x reply₁ ≡ exchange_lent (exchanged (length reply) (session server) (take i.written out₁) []) reply)
      (given : client_step step out₂ ≡ client_lent (piece_says (length out₁) (client i.session) (take x.written reply₁) store) out₁)
      (kept : store₁ ≡ store_after (client i.session) (client_answer step.answer) (take x.written reply₁) store) where
    abbrev exchanges : Exchanged
    exchanges = exchanged reply_room fresh_session starts.text []

    exchanges_is : exchanged (length reply) (session server) (take i.written out₁) [] ≡ exchanges
    exchanges_is = λ j. exchanged (large j) (ready j) (command j) []

    sent : take x.written reply₁ ≡ exchanges.text
    sent = reply-text (session server) (take i.written out₁) [] reply reply₁ x heard ∙ ap (λ (v : Exchanged). v.text) exchanges_is

    abbrev takes : ClientSaid
    takes = piece_says send_room starts.next exchanges.text fresh_store

    served : client_step step out₂ ≡ client_lent takes out₁
    served = given ∙ (λ j. client_lent (piece_says (same_size j) (next j) (sent j) (empty j)) out₁)

    stored : store₁ ≡ store_after starts.next takes.answer exchanges.text fresh_store
    stored = let answer = ap (λ (v : ClientServed). v.answer) served in kept ∙ (λ j. store_after (next j) (answer j) (sent j) (empty j))

    takes_fits : length takes.text ≤ length out₁
    takes_fits =
        let none : starts.next.query.text ≡ [] = ap (λ (v : ClientSaid). v.next.query.text) (init_starts send_room (fresh_client true repeat) refl (omega arith)) in
        omega (arith, same_size, piece_fits starts.next send_room exchanges.text fresh_store (omega (arith, ap length none)))

    pub reset_does : (lengths : Bor (List ℕ)) → RoundDoes (reset_fresh repeat lengths.now)
        (record { answer = step.answer; written = step.written; bench = record { client = step.session; server = x.session; lengths = lengths } })
        (record { out = out₂; reply = reply₁; store = store₁ })
    reset_does lengths =
        let s = reply-next (session server) (take i.written out₁) [] reply reply₁ x heard ∙ ap (λ (v : Exchanged). v.next) exchanges_is in
        record {
          answer = ap (λ (v : ClientServed). v.answer) served;
          text = lent_text takes out₁ _ served takes_fits;
          bench = λ j. record { client = (served j).next; store = stored j; server = s j; lengths = lengths.now };
          inside = lent_inside takes out₁ _ served takes_fits;
        }

-- and then the other commands
pub initialised_does : (repeat : Bool) (first r : RoundStep) (w w₁ : Work) (lengths : List ℕ) → RoundDoes (reset_fresh repeat lengths) first w →
    RoundDoes (onward 5 (round_of first w) []) r w₁ → Comes (initialised repeat lengths) r w₁
unfolding initialised
initialised_does repeat first r w w₁ lengths a b =
    let h = held_then (onward-held 5 [] (does_held a)) (does_held b) in
    record { answer = sym h.answer; bench = sym h.bench }
