-- What the private steps of the code do. No public contract cites these.
use Rattle.std.specs.Prelude.{◌≡◌, Bool, true, cond, List, [], ◌∷◌, ◌++◌, ℕ, ◌+◌, ◌-◌, ◌≤◌, ltb, length, take, drop}
use Rattle.std.proofs.Math.Option.{Option}
use Rattle.std.proofs.lemmas.List.Edits.{sets}
use Rattle.wire.specs.Answer.{Answer, result, refused, if_result, answer_as, option_as, count_answer}
use Rattle.wire.specs.declared.Refusal.{Refusal}
use Rattle.std.specs.Prelude as rust
use Rattle.wire.specs.Text.{joined}
use Rattle.group.specs.Group.{group_bytes}
use Rattle.group.specs.Format.{step_of, read_row, answer_of}
use Rattle.line_list.specs.Lines.{lines_bytes, line_format}
use Rattle.server_session.specs.Session.{Session, session, fresh_session}
use Rattle.client_session.specs.declared.ClientAnswer.{ClientAnswer}
use Rattle.client_session.specs.declared.ClientError.{ClientError}
use Rattle.client_session.specs.Session.{Client, client, fresh_client}
use Rattle.client_session.specs.Call.{ClientSaid, ClientServed, client_lent, client_answer}
use Rattle.client_session.specs.Start.{init_says}
use Rattle.client_session.specs.Pieces.{fed}
use Rattle.bench.specs.declared.ExchangeStep.{ExchangeStep}
use Rattle.bench.specs.Exchange.{Exchanged, exchanged}
use Rattle.bench.specs.Deliver.{pieces}
use Rattle.bench.specs.Script.{Query, query_format, script}
use Rattle.bench.specs.declared.QueryPlace as code-place
use Rattle.bench.specs.declared.Bench as code
use Rattle.bench.specs.declared.Step.{Step}
use Rattle.bench.specs.declared.Work.{Work}
use Rattle.bench.specs.Run.{Bench, Round, Part, Run, Recorded, send_room, reply_room, reset, ended, after}

-- An exchange as the code has it: how many bytes stand in the lent out buffer, the next session, and the buffer.
pub record ExchangeServed : Type 0 where
  pub written : ℕ
  pub next : Session
  pub out : List ℕ

abbrev pub exchange_step : ExchangeStep → List ℕ → ExchangeServed
exchange_step r out = record { written = r.written; next = session r.session; out = out }

abbrev pub exchange_lent : Exchanged → List ℕ → ExchangeServed
exchange_lent x out = record { written = length x.text; next = x.next; out = sets out 0 x.text }

-- What a delivery comes to: what the last piece that was given says, the client's reply store, and the piece lengths that are left.
pub record Delivered : Type 0 where
  pub said : ClientSaid
  pub store : List ℕ
  pub lengths : List ℕ

-- each piece that is given uses up a length; nothing is given past the piece that completes the reply or gets a number
unfoldable pub delivered : ℕ → Client → List ℕ → List ℕ → List ℕ → Delivered
delivered room c store ks r =
    let f = fed room c store (pieces ks r) in
    record { said = f.said; store = f.store; lengths = drop (length (pieces ks r) - length f.left) ks }

-- A delivery as the code has it.
pub record DeliveryServed : Type 0 where
  pub served : ClientServed
  pub store : List ℕ
  pub lengths : List ℕ

-- the run after a command, and after a query, as the code has it
abbrev pub RoundStep : Type 0
RoundStep = Step (rust.Result ClientAnswer ClientError)

abbrev pub PartStep : Type 0
PartStep = Step (rust.Result ℕ Refusal)

abbrev pub delivery_step : RoundStep → List ℕ → List ℕ → DeliveryServed
delivery_step r store out = record {
  served = record { answer = client_answer r.answer; written = r.written; next = client r.bench.client; out = out };
  store = store;
  lengths = r.bench.lengths.now;
}

abbrev pub delivery_lent : Delivered → List ℕ → DeliveryServed
delivery_lent d out = record { served = client_lent d.said out; store = d.store; lengths = d.lengths }

-- both sessions as the code holds them
abbrev pub bench_of : code.Bench → List ℕ → Bench
bench_of b store = record { client = client b.client; store = store; server = session b.server; lengths = b.lengths.now }

-- a round as the code holds it; it keeps no list of the commands handed out
abbrev pub round_of : RoundStep → Work → Round
round_of r w = record { answer = client_answer r.answer; text = take r.written w.out; bench = bench_of r.bench w.store; handed = [] }

-- a fresh client and a fresh server after ATZ
abbrev pub reset_fresh : Bool → List ℕ → Round
reset_fresh repeat lengths =
    let i = init_says send_room (fresh_client true repeat) in
    reset i (exchanged reply_room fresh_session i.text []) lengths

-- A round does what is said.
pub record RoundDoes (t : Round) (r : RoundStep) (w : Work) : Type 0 where
  pub answer : client_answer r.answer ≡ t.answer
  pub text : take r.written w.out ≡ t.text
  pub bench : bench_of r.bench w.store ≡ t.bench
  pub inside : r.written ≤ length w.out

-- The same where nothing more is to be sent.
pub record Comes (t : Round) (r : RoundStep) (w : Work) : Type 0 where
  pub answer : client_answer r.answer ≡ t.answer
  pub bench : bench_of r.bench w.store ≡ t.bench

-- a query's part as the code holds it: the count and the values apart
abbrev pub part_text : rust.Result ℕ Refusal → List ℕ → Answer (List ℕ)
part_text a text = if_result (count_answer a) refused λ n. result (group_bytes n ++ text)

-- A query does what is said, and its values stand where the reply stood.
pub record PartDoes (p : Part) (r : PartStep) (w : Work) : Type 0 where
  pub answer : part_text r.answer (take r.written w.reply) ≡ p.answer
  pub bench : bench_of r.bench w.store ≡ p.bench
  pub inside : r.written ≤ reply_room

-- the script is well formed, and its queries
abbrev pub IsScript : List ℕ → Type 0
IsScript s = (qs : List Query) × (script s ≡ result qs)

abbrev pub or_none : Answer (List Query) → List Query
or_none a = if_result a (λ n. []) λ qs. qs

abbrev pub queries_of : List ℕ → List Query
queries_of s = or_none (script s)

-- a part in the record's room, and the others after it
abbrev pub standing : ℕ → Answer (List ℕ) → List (List ℕ) → (List ℕ → Run) → Run
standing room a handed others =
    if_result a (λ n. ended n handed) λ bytes. cond (ltb room (length bytes)) (ended 6 handed) (after (bytes ∷ []) handed (others bytes))

-- a query's part in what is left of the record's room, as if no other followed
abbrev pub added : ℕ → Answer (List ℕ) → Run
added room a = standing room a [] (λ bytes. record { answer = result tt; parts = []; handed = [] })

-- the parts of a run that stand from position at on
abbrev pub lent_from : ℕ → Run → List ℕ → Recorded
lent_from at d out = record { answer = d.answer; written = at + length (joined d.parts); out = sets out at (joined d.parts) }

-- ---- scripts: the query at a position, or none at the end, or 5; how many queries a whole script has, or 3 or 5

-- A query in its script: where its PIDs start and how many they are, its ECU count+1, where the line list of its lines starts, and where the next query does.
pub record QueryPlace : Type 0 where
  pub pids : ℕ
  pub few : ℕ
  pub count : ℕ
  pub list : ℕ
  pub next : ℕ

abbrev pub query_place : code-place.QueryPlace → QueryPlace
query_place q = record { pids = q.pids; few = q.few; count = q.count; list = q.list; next = q.next.at }

abbrev pub query_step : rust.Result (rust.Option code-place.QueryPlace) Refusal → Answer (Option QueryPlace)
query_step r = answer_as (option_as query_place) r

-- a query at a position, of which so much of n bytes is left: its PIDs stand after their count, and its lines before what is left
abbrev pub query_in : ℕ → ℕ → Query → List ℕ → QueryPlace
query_in n at q rest = record {
  pids = at + length (group_bytes (length q.pids));
  few = length q.pids;
  count = q.count;
  list = n - length rest - length (lines_bytes q.lines);
  next = n - length rest;
}

unfoldable pub query_at : List ℕ → ℕ → Answer (Option QueryPlace)
query_at s at = step_of query_format (query_in (length s) at) (drop at s)

abbrev pub how_many : Answer (List Query) → Answer ℕ
how_many a = if_result a refused λ qs. result (length qs)

unfoldable pub queries_in : List ℕ → Answer ℕ
queries_in s = how_many (script s)

-- the position after n lines
unfoldable pub lines_after : ℕ → List ℕ → ℕ → Answer ℕ
lines_after n s at = answer_of (λ ls rest. length s - length rest) (read_row line_format n (drop at s))
