-- The bench run, as a composition of what the calls on the two sessions say. Document 01, "The bench run": "A fresh client (framing on, repeat on or off as told,
-- one PID through `query_pid`, more through `query_pids`) is joined to a fresh server with identity `ELM327 v1.5` and `ELM327`; a command handed out is given the
-- lines of the query under way." "The hire record has, per query, the number of values as a group number and the values. 3 and 5 come before anything runs; 8, or 6
-- when a query's part overruns the record buffer, ends the run there, and the answer holds the number and the length of the earlier parts, which stand written."
-- (Hire record is document 01's term.)
use Rattle.std.specs.Prelude.{Bool, true, not, cond, List, [], ◌∷◌, ◌++◌, ℕ, zero, suc, ◌-◌, eqb, ltb, length, drop, replicate, Result}
use Rattle.std.proofs.lemmas.List.Edits.{sets}
use Rattle.wire.specs.Answer.{Answer, result, refused, if_result, answer_as}
use Rattle.wire.specs.Text.{joined}
use Rattle.group.specs.Group.{group_bytes}
use Rattle.line_list.specs.Lines.{lines_bytes}
use Rattle.server_session.specs.Session.{Session, fresh_session}
use Rattle.client_session.specs.Session.{Client, fresh_client}
use Rattle.client_session.specs.Call.{Progress, value_count, ClientSaid}
use Rattle.client_session.specs.Start.{init_says, query_says}
use Rattle.client_session.specs.Piece.{piece_says, store_after}
use Rattle.client_session.specs.Pieces.{fed}
use Rattle.client_session.specs.Finish.{finish_says}
use Rattle.bench.specs.Script.{Query, script}
use Rattle.bench.specs.Exchange.{Exchanged, exchanged}
use Rattle.bench.specs.Deliver.{pieces}
use Rattle.wire.specs.declared.Refusal.{Refusal}
use Rattle.bench.specs.declared.BenchRun.{BenchRun}

-- ---- the buffers of the run, large enough for all that a script can ask for

-- the client's bytes to send
abbrev pub send_room : ℕ
send_room = 80

-- a reply of 64 lines of 255 bytes, each with its header and a CR, then CR and the prompt: 64 * (5 + 2 * 255 + 1) + 2
abbrev pub reply_room : ℕ
reply_room = 33026

-- the client's reply store
abbrev pub fresh_store : List ℕ
fresh_store = replicate 4096 0

-- the values of a reply of 4,096 bytes: three for each of its bytes (a PID of learned length 0 takes two digits, and its value six bytes), and three for a last
-- line without CR
abbrev pub values_room : ℕ
values_room = 12291

-- ---- one command

-- Both sessions, the client's reply store, and the piece lengths that are left.
pub record Bench : Type 0 where
  pub client : Client
  pub store : List ℕ
  pub server : Session
  pub lengths : List ℕ

-- Where the run stands after a command: what its reply said to the client, the bytes that the client sends next, and the OBD commands handed out.
pub record Round : Type 0 where
  pub answer : Answer Progress
  pub text : List ℕ
  pub bench : Bench
  pub handed : List (List ℕ)

-- what was said to the client, its store and the lengths that are left, after an exchange
abbrev pub round_with : ClientSaid → List ℕ → List ℕ → Exchanged → Round
round_with d store ks x =
    record { answer = d.answer; text = d.text; bench = record { client = d.next; store = store; server = x.next; lengths = ks }; handed = x.handed }

-- The client's bytes go to the server, and all that it sends for them comes back in pieces; list is the line list of the query under way. Each piece that is given
-- uses up a length; nothing is given past the piece that completes the reply or gets a number.
abbrev pub round : Bench → List ℕ → List ℕ → Round
round b command list =
    let x = exchanged reply_room b.server command list in
    let ps = pieces b.lengths x.text in
    let f = fed send_room b.client b.store ps in
    round_with f.said f.store (drop (length ps - length f.left) b.lengths) x

-- the same with some commands handed out before
abbrev pub later : List (List ℕ) → Round → Round
later handed t = record { answer = t.answer; text = t.text; bench = t.bench; handed = handed ++ t.handed }

-- at most n further commands of the client are taken to the server: it has one where there are bytes to send
abbrev pub onward : ℕ → Round → List ℕ → Round
onward zero t list = t
onward (suc n) t list = cond (ltb 0 (length t.text)) (later t.handed (onward n (round t.bench t.text list) list)) t

-- ---- the initialisation

-- "the ATZ echo and answer arriving as one piece" (demand 3)
abbrev pub reset : ClientSaid → Exchanged → List ℕ → Round
reset i x lengths = let d = piece_says send_room i.next x.text fresh_store in round_with d (store_after i.next d.answer x.text fresh_store) lengths x

-- ATZ, and then ATE0, ATL0, ATS0, ATSP0 and ATH1
unfoldable pub initialised : Bool → List ℕ → Round
initialised repeat lengths =
    let i = init_says send_room (fresh_client true repeat) in
    onward 5 (reset i (exchanged reply_room fresh_session i.text []) lengths) []

-- ---- a query

-- "one PID through `query_pid`, more through `query_pids`"
abbrev pub start_says : Client → List ℕ → ℕ → ClientSaid
start_says c pids count = query_says send_room c pids count (not (eqb (length pids) 1))

abbrev pub with_client : Bench → Client → Bench
with_client b c = record { client = c; store = b.store; server = b.server; lengths = b.lengths }

-- the query is started; a repeat that meets `?` is followed by the query in full
abbrev pub asking : Bench → ClientSaid → List ℕ → Round
asking b s list = onward 1 (round (with_client b s.next) s.text list) list

-- A query's part of the record or the number that ends the run, where the run then stands, and the OBD commands handed out.
pub record Part : Type 0 where
  pub answer : Answer (List ℕ)
  pub bench : Bench
  pub handed : List (List ℕ)

-- "the number of values as a group number and the values"
abbrev pub part_of : Answer Progress → List ℕ → Answer (List ℕ)
part_of a text = if_result a refused λ p. result (group_bytes (value_count p) ++ text)

-- the query is finished, unless its reply got a number
abbrev pub finished : Round → Part
finished t =
    let f = finish_says values_room t.bench.client t.bench.store in
    if_result t.answer (λ n. record { answer = refused n; bench = t.bench; handed = t.handed }) λ p.
    record { answer = part_of f.answer f.text; bench = with_client t.bench f.next; handed = t.handed }

unfoldable pub part : Bench → Query → Part
part b q = finished (asking b (start_says b.client q.pids q.count) (lines_bytes q.lines))

-- ---- the list of queries

-- What a run comes to: its answer, the parts that stand in the record, one for each query, and the OBD commands handed out, in order.
pub record Run : Type 0 where
  pub answer : Answer (Unit {0})
  pub parts : List (List ℕ)
  pub handed : List (List ℕ)

-- a number ends the run
abbrev pub ended : ℕ → List (List ℕ) → Run
ended n handed = record { answer = refused n; parts = []; handed = handed }

-- the same with some parts and some commands before it
abbrev pub after : List (List ℕ) → List (List ℕ) → Run → Run
after parts handed r = record { answer = r.answer; parts = parts ++ r.parts; handed = handed ++ r.handed }

-- queries one after the other, with the record's room that is left: a part stands if there is room for it, and then the others follow
abbrev pub asked : ℕ → Bench → List Query → Run
asked room b [] = record { answer = result tt; parts = []; handed = [] }
asked room b (q ∷ qs) =
    let p = part b q in
    if_result p.answer (λ n. ended n p.handed) λ bytes.
    cond (ltb room (length bytes)) (ended 6 p.handed) (after (bytes ∷ []) p.handed (asked (room - length bytes) p.bench qs))

-- ---- the run

-- a run of a script, with repeat on or off, the lent piece lengths, and a record buffer of room bytes
unfoldable pub run_says : Bool → List ℕ → ℕ → List ℕ → Run
run_says repeat lengths room s =
    let t = initialised repeat lengths in
    if_result (script s) (λ n. ended n []) λ qs.
    if_result t.answer (λ n. ended n t.handed) λ p. after [] t.handed (asked room t.bench qs)

-- the cases of a run's answer
abbrev pub run_answer : Result (Unit {0}) Refusal → Answer (Unit {0})
run_answer r = answer_as (λ u. u) r

-- A run as the host sees it: its answer, how many bytes of the record stand, and the record buffer.
pub record Recorded : Type 0 where
  pub answer : Answer (Unit {0})
  pub written : ℕ
  pub out : List ℕ

abbrev pub recorded : BenchRun → List ℕ → Recorded
recorded r out = record { answer = run_answer r.answer; written = r.written; out = out }

-- the parts stand at the front of the lent buffer, and past them it keeps what it held
abbrev pub run_lent : Run → List ℕ → Recorded
run_lent d out = record { answer = d.answer; written = length (joined d.parts); out = sets out 0 (joined d.parts) }
