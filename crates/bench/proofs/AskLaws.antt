-- Laws of one query: its start, and its end by what its reply said.
use mathlib.Core.Path.{◌≡◌, sym, ap, subst, ◌∙◌}
use mathlib.Core.Bool.{not}
use mathlib.Core.List.{List}
use Prim.Native.Nat.{ℕ, ◌≤◌}
use native.Mathlib.Omega.{arith}
use lib.Dec.{eqb}
use lib.ListN.{length, take, length-take}
use borrow.Author.Tests.{ltb-false, le-ltb}
use Rattle.wire.specs.declared.Refusal.{Refusal}
use Rattle.std.specs.Prelude.{Result, Ok}
use Rattle.wire.specs.Answer.{unless}
use Rattle.wire.proofs.UnlessLaws.{unless_by}
use Rattle.value.specs.Values.{values_bytes}
use Rattle.reply_lines.specs.Decode.{lines_of_reply}
use Rattle.reply_values.specs.Values.{values_of, answer_order}
use Rattle.reply_values.specs.Learn.{lengths_after}
use Rattle.reply_values.proofs.OrderLaws.{order_size}
use Rattle.reply_values.proofs.SizeLaws.{reply_size_lem}
use Rattle.server_session.specs.Session.{session}
use Rattle.client_session.specs.declared.ClientStep.{ClientStep}
use Rattle.client_session.specs.Session.{Client, client}
use Rattle.client_session.specs.declared.ClientAnswer.{ClientAnswer}
use Rattle.client_session.specs.Call.{ClientSaid, ClientServed, client_lent, client_answer, client_step}
use Rattle.client_session.specs.Piece.{reply_in}
use Rattle.client_session.specs.Finish.{gives_values, finish_says}
use Rattle.client_session.proofs.StartLaws.{query_fits}
use Rattle.client_session.proofs.FinishLaws.{read_for}
use Rattle.bench.specs.declared.Bench as code
use Rattle.bench.specs.declared.Work.{Work}
use Rattle.bench.specs.Run.{Round, round, onward, send_room, reply_room, values_room, start_says, with_client, asking, part_of, finished}
use Rattle.bench.specs.Steps.{RoundStep, bench_of, round_of, RoundDoes, Comes, part_text, PartDoes}
use Rattle.bench.proofs.RoundLaws.{lent_length, lent_text, lent_inside}
use Rattle.bench.proofs.OnwardLaws.{held_then, does_held, onward-held}

-- ---- the start

pub start_fits : (c : Client) (count : ℕ) (pids : List ℕ) → length (start_says c pids count).text ≤ send_room
start_fits c count pids = query_fits send_room c pids count (not (eqb (length pids) 1))

-- ---- the end

-- the values fit
pub finish_fits : (room : ℕ) (c : Client) (store : List ℕ) → length (finish_says room c store).text ≤ room
unfolding finish_says
finish_fits room c store =
    let Fits : ClientSaid → Type 0 = λ d. length d.text ≤ room in
    unless_by Fits _ (λ n. omega arith)
    (λ _. unless_by Fits _ (λ n. omega arith) (λ _. unless_by Fits _ (λ n. omega arith) (λ (f, _). ltb-false room _ f)))

-- a reply has at most 4,096 bytes, so more room than its values can take makes no difference
reply_room_lem : (c : Client) (reply : List ℕ) → length reply ≤ 4096 →
    gives_values reply_room c (read_for c reply) ≡ gives_values values_room c (read_for c reply)
unfolding unless
reply_room_lem c reply short =
    let ls = lines_of_reply c.server.framing reply in
    let lengths = lengths_after c.query.several c.query.pids c.server.pid_lengths ls in
    let vs = values_of lengths ls in
    let few = reply_size_lem lengths c.server.framing reply short in
    let text = values_bytes (answer_order vs) in
    rw (le-ltb reply_room (length text) (omega (arith, order_size vs)), le-ltb values_room (length text) (omega (arith, order_size vs)))

finish_room : (c : Client) (store : List ℕ) → finish_says reply_room c store ≡ finish_says values_room c store
unfolding finish_says
finish_room c store =
    rw (reply_room_lem c (reply_in c store) (omega (arith, length-take c.got (take 4096 store), length-take 4096 store)))

-- the reply got no number, and the query is finished by the step s
module _ (asked : RoundStep) (w : Work) (a : ClientAnswer) (is : asked.answer ≡ Ok a) (size : length w.reply ≡ reply_room) (s : ClientStep) (left : List ℕ)
    (e : client_step s left ≡ client_lent (finish_says (length w.reply) (client asked.bench.client) w.store) w.reply) where
  abbrev says : ClientSaid
  says = finish_says values_room (client asked.bench.client) w.store

  does : client_step s left ≡ client_lent says w.reply
  does =
      e ∙ ap (λ room. client_lent (finish_says room (client asked.bench.client) w.store) w.reply) size ∙
      ap (λ (f : ClientSaid). client_lent f w.reply) (finish_room (client asked.bench.client) w.store)

  few : length says.text ≤ length w.reply
  few = omega (arith, size, finish_fits values_room (client asked.bench.client) w.store)

  pub finish_does : (told : Result ℕ Refusal) → ((text : List ℕ) → part_text told text ≡ part_of (client_answer s.answer) text) →
      PartDoes (finished (round_of asked w))
      (record { answer = told; written = s.written; bench = record { client = s.session; server = asked.bench.server; lengths = asked.bench.lengths } })
      (record { out = w.out; reply = left; store = w.store })
  finish_does told tells =
      let c = ap (λ (x : ClientServed). x.next) does in
      let text : take s.written left ≡ says.text = lent_text says w.reply _ does few in
      let answer = ap (λ (x : ClientServed). x.answer) does in
      rw is
      (record {
        answer = tells (take s.written left) ∙ (λ i. part_of (answer i) (text i));
        bench = λ i. record { client = c i; store = w.store; server = session asked.bench.server; lengths = asked.bench.lengths.now };
        inside = omega (arith, size, lent_length says w.reply _ does, lent_inside says w.reply _ does few);
      })

-- ---- the query is asked

-- what a start wrote
module _ (s : ClientSaid) (begun : ClientStep) (out out₁ : List ℕ) (size : length out ≡ send_room) (few : length s.text ≤ send_room)
    (e : client_step begun out₁ ≡ client_lent s out) where
  pub start_text : take begun.written out₁ ≡ s.text
  start_text = lent_text s out (client_step begun out₁) e (omega arith)

  pub start_size : length out₁ ≡ send_room
  start_size = lent_length s out (client_step begun out₁) e ∙ size

  pub start_inside : begun.written ≤ length out₁
  start_inside = lent_inside s out (client_step begun out₁) e (omega arith)

  -- the client after it
  abbrev waiting : code.Bench → code.Bench
  waiting b = record { client = begun.session; server = b.server; lengths = b.lengths }

  -- the command of the query, and then at most one more
  pub ask_does : (b : code.Bench) {first r : RoundStep} {w w₁ : Work} (list store : List ℕ) →
      RoundDoes (round (bench_of (waiting b) store) (take begun.written out₁) list) first w → RoundDoes (onward 1 (round_of first w) list) r w₁ →
      Comes (asking (bench_of b store) s list) r w₁
  ask_does b {first} {r} {w} list store d₁ d₂ =
      let next : client begun.session ≡ s.next = ap (λ (v : ClientServed). v.next) e in
      let same : round (bench_of (waiting b) store) (take begun.written out₁) list ≡ round (with_client (bench_of b store) s.next) s.text list =
      λ i. round (record { client = next i; store = store; server = session b.server; lengths = b.lengths.now }) (start_text i) list in
      let one = subst (λ (t : Round). RoundDoes t first w) same d₁ in
      let h = held_then (onward-held 1 list (does_held one)) (does_held d₂) in
      record { answer = sym h.answer; bench = sym h.bench }
