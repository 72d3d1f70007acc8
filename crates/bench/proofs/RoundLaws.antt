-- What an exchange and a delivery come to together, and further commands after it.
use mathlib.Core.Path.{◌≡◌, refl, ap, ◌∙◌}
use mathlib.Core.List.{List}
use Prim.Native.Nat.{ℕ, ◌≤◌}
use native.Mathlib.Omega.{arith}
use lib.ListN.{length, take}
use lib.Seq.{sets, take_all, length-sets}
use Rattle.wire.specs.Put.{Put}
use Rattle.wire.proofs.PutLaws.{put_front}
use Rattle.wire.proofs.BytesLaws.{held_short}
use Rattle.server_session.specs.Session.{Session, session}
use Rattle.client_session.specs.Session.{client}
use Rattle.client_session.specs.Call.{ClientSaid, ClientServed, client_lent}
use Rattle.bench.specs.declared.ExchangeStep.{ExchangeStep}
use Rattle.bench.specs.Exchange.{Exchanged, exchanged}
use Rattle.bench.proofs.ExchangeLaws.{exchanged_fits, exchange_written}
use Rattle.bench.proofs.DeliverLaws.{delivered_fits}
use Rattle.bench.specs.declared.Bench as code
use Rattle.bench.specs.Run.{send_room, reply_room, round}
use Rattle.bench.specs.Steps.{RoundStep, ExchangeServed, exchange_step, exchange_lent, DeliveryServed, Delivered, delivered, delivery_step, delivery_lent, bench_of, RoundDoes}

-- a text that fits stands at the front of a buffer
pub front : (buffer text : List ℕ) → length text ≤ length buffer → take (length text) (sets buffer 0 text) ≡ text
front buffer text h =
    let put : Put buffer 0 text (length text) (sets buffer 0 text) = record { next = omega arith; bytes = refl } in
    put_front put ∙ take_all (length buffer) text h

-- so does what a call on the client says
module _ (d : ClientSaid) (out : List ℕ) (v : ClientServed) (e : v ≡ client_lent d out) where
  pub lent_length : length v.out ≡ length out
  lent_length = ap (λ (x : ClientServed). length x.out) e ∙ length-sets out 0 d.text

  module _ (fits : length d.text ≤ length out) where
    pub lent_text : take v.written v.out ≡ d.text
    lent_text = (λ i. take (e i).written (e i).out) ∙ front out d.text fits

    pub lent_inside : v.written ≤ length v.out
    lent_inside = let w : v.written ≡ length d.text = ap (λ (x : ClientServed). x.written) e in omega (arith, fits, lent_length)

-- what the server sent stands in its buffer
module _ (s : Session) (command list reply reply₁ : List ℕ) (x : ExchangeStep) (e : exchange_step x reply₁ ≡ exchange_lent (exchanged (length reply) s command list) reply) where
  pub reply-text : take x.written reply₁ ≡ (exchanged (length reply) s command list).text
  reply-text =
      (λ i. take (e i).written (e i).out) ∙ front reply (exchanged (length reply) s command list).text (exchanged_fits (length reply) s command list)

  pub reply-next : session x.session ≡ (exchanged (length reply) s command list).next
  reply-next = ap (λ (v : ExchangeServed). v.next) e

  pub reply_inside : length reply ≡ reply_room → x.written ≤ reply_room
  reply_inside large = omega (arith, exchange_written s command list reply reply₁ x e)

-- the client's bytes go to the server, and what it sends comes back in pieces
module _ (b : code.Bench) (command list reply store out out₁ reply₁ store₁ : List ℕ) (x : ExchangeStep) (r : RoundStep)
    (short : length b.client.query.text.bytes ≡ 18) (small : length out ≡ send_room) (large : length reply ≡ reply_room)
    (heard : exchange_step x reply₁ ≡ exchange_lent (exchanged (length reply) (session b.server) command list) reply)
    (given : delivery_step r store₁ out₁ ≡ delivery_lent (delivered (length out) (client b.client) store b.lengths.now (take x.written reply₁)) out)
    (waits : r.bench.server ≡ x.session) where
  abbrev exchanges : Exchanged
  exchanges = exchanged reply_room (session b.server) command list

  abbrev delivers : Delivered
  delivers = delivered send_room (client b.client) store b.lengths.now exchanges.text

  does : delivery_step r store₁ out₁ ≡ delivery_lent delivers out
  does =
      let sent = reply-text (session b.server) command list reply reply₁ x heard ∙ ap (λ n. (exchanged n (session b.server) command list).text) large in
      given ∙ (λ i. delivery_lent (delivered (small i) (client b.client) store b.lengths.now (sent i)) out)

  told : (delivery_step r store₁ out₁).served ≡ client_lent delivers.said out
  told = ap (λ (v : DeliveryServed). v.served) does

  fits : length delivers.said.text ≤ length out
  fits = omega (arith, small, delivered_fits send_room (client b.client) store b.lengths.now exchanges.text (omega (arith, held_short b.client.query.text short)))

  pub round_does : RoundDoes (round (bench_of b store) command list) r (record { out = out₁; reply = reply₁; store = store₁ })
  unfolding delivered
  round_does =
      let s : session r.bench.server ≡ exchanges.next =
      ap session waits ∙
      reply-next (session b.server) command list reply reply₁ x heard ∙ ap (λ n. (exchanged n (session b.server) command list).next) large in
      record {
        answer = ap (λ (v : DeliveryServed). v.served.answer) does;
        text = lent_text delivers.said out _ told fits;
        bench = λ i. record { client = (does i).served.next; store = (does i).store; server = s i; lengths = (does i).lengths };
        inside = lent_inside delivers.said out _ told fits;
      }
