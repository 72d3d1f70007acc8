-- What a call on a client session says, and what the host then sees of it. Document 01: "Every session call is by turn: bytes to send are written to a lent out
-- buffer, bytes received are handed in."
use Rattle.std.specs.Prelude.{◌≡◌, Bool, true, false, cond, ◌&&◌, List, [], ℕ, ◌≤◌, length, Result, Ok, Err}
use Rattle.std.proofs.lemmas.List.Edits.{sets}
use Rattle.wire.specs.declared.Refusal.{Refusal}
use Rattle.wire.specs.Answer.{Answer, result, refused, number}
use Rattle.server_state.specs.declared.FeatureSupport.TheVariants as support
use Rattle.server_state.specs.State.{decided, with_multi}
use Rattle.client_session.specs.declared.Command.{Command}
use Rattle.client_session.specs.declared.Command.TheVariants.{Reset, Setup, Raw, Query, Repeat}
use Rattle.client_session.specs.declared.Under.{Under}
use Rattle.client_session.specs.declared.Under.TheVariants.{Idle, Awaiting}
use Rattle.client_session.specs.declared.ClientSession.{ClientSession}
use Rattle.client_session.specs.declared.ClientAnswer.{ClientAnswer}
use Rattle.client_session.specs.declared.ClientAnswer.TheVariants as answer
use Rattle.client_session.specs.declared.ClientError.{ClientError}
use Rattle.client_session.specs.declared.ClientError.TheVariants as error
use Rattle.client_session.specs.declared.ClientStep.{ClientStep}
use Rattle.client_session.specs.Session.{Client, client, when_awaiting, is_complete, with_under, with_server, with_last_query}

-- How far a command has come.
pub data Progress : Type 0 where
  -- it goes out, and its reply is awaited
  sent : Progress
  -- more of its reply is awaited
  awaited : Progress
  -- the initialisation or the raw command is over
  over : Progress
  -- a query's reply is complete
  complete : Progress
  -- a query is finished, with so many values
  values : ℕ → Progress

-- how many values a result tells of
abbrev pub value_count : Progress → ℕ
value_count sent = 0
value_count awaited = 0
value_count over = 0
value_count complete = 0
value_count (values n) = n

-- What a call says: its result or number, the next session, and the bytes for the lent out buffer.
pub record ClientSaid : Type 0 where
  pub answer : Answer Progress
  pub next : Client
  pub text : List ℕ

abbrev pub client_saying : Progress → Client → List ℕ → ClientSaid
client_saying p c text = record { answer = result p; next = c; text = text }

-- a command goes out, and its reply is awaited
abbrev pub sends : Client → Command → List ℕ → ClientSaid
sends c k text = client_saying sent (with_under c (Awaiting k) 0) text

-- "Unless said otherwise a numbered answer leaves session and buffers untouched."
abbrev pub client_refusing : Client → ℕ → ClientSaid
client_refusing c n = record { answer = refused n; next = c; text = [] }

-- a command is a query; a query's reply is awaited, or complete
abbrev pub is_query : Command → Bool
is_query Reset = false
is_query (Setup k) = false
is_query (Raw e) = false
is_query Query = true
is_query Repeat = true

abbrev pub in_query : Under → Bool
in_query u = when_awaiting u (is_complete u) is_query

-- 7, 8 and 9 "end the query or command, forget the last command, leave buffers untouched, and mark untested multi-PID support No in a multi-PID query"
abbrev pub failed_client : Client → Client
failed_client c =
    let s = c.server in
    let marked = cond (in_query c.under && c.query.several) (with_multi s (decided s.multi_pid support.No)) s in
    with_under (with_last_query (with_server c marked) []) Idle 0

abbrev pub client_failing : Client → ℕ → ClientSaid
client_failing c n = record { answer = refused n; next = failed_client c; text = [] }

-- A call as the host sees it: the answer, how many bytes stand in the lent out buffer, the next session, and the buffer.
pub record ClientServed : Type 0 where
  pub answer : Answer Progress
  pub written : ℕ
  pub next : Client
  pub out : List ℕ

-- the bytes stand at the front of the lent buffer, and past them it keeps what it held
abbrev pub client_lent : ClientSaid → List ℕ → ClientServed
client_lent d out = record { answer = d.answer; written = length d.text; next = d.next; out = sets out 0 d.text }

-- the cases of ClientAnswer
abbrev pub progress : ClientAnswer → Progress
progress answer.Sent = sent
progress answer.Awaited = awaited
progress answer.Over = over
progress answer.Complete = complete
progress (answer.Values n) = values n

-- the refusal that an error tells of
abbrev pub refusal_of : ClientError → Refusal
refusal_of (error.Refused q) = q
refusal_of (error.Failed q) = q

-- the cases of a step's answer
abbrev pub client_answer : Result ClientAnswer ClientError → Answer Progress
client_answer (Ok a) = result (progress a)
client_answer (Err e) = refused (number (refusal_of e))

abbrev pub client_step : ClientStep → List ℕ → ClientServed
client_step r out = record { answer = client_answer r.answer; written = r.written; next = client r.session; out = out }

-- Refused is 1 to 6, with the session itself as it was; Failed is one of the others
abbrev pub RefusedOrFailed : ClientStep → ClientSession → Type 0
RefusedOrFailed r before =
    ((q : Refusal) → r.answer ≡ Err (error.Refused q) → (number q ≤ 6) × (r.session ≡ before)) ×
    ((q : Refusal) → r.answer ≡ Err (error.Failed q) → 7 ≤ number q)
