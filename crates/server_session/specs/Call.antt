-- What a call on a session says, and what the host then sees of it. Document 01: "Every session call is by turn: bytes to send are written to a lent out buffer,
-- bytes received are handed in."
use Rattle.std.specs.Prelude.{List, [], ℕ, length, Result}
use Rattle.std.proofs.lemmas.List.Edits.{sets}
use Rattle.wire.specs.declared.Refusal.{Refusal}
use Rattle.wire.specs.Answer.{Answer, result, refused, answer_as}
use Rattle.server_session.specs.declared.Phase.{Phase}
use Rattle.server_session.specs.declared.ServerStep.{ServerStep}
use Rattle.server_session.specs.Session.{Session, session}

-- What a call says: its result, which is the phase that the session is then in, or a number; how many bytes of the input are taken; the next session; and the
-- bytes to send.
pub record ServerSaid : Type 0 where
  pub answer : Answer Phase
  pub taken : ℕ
  pub next : Session
  pub text : List ℕ

abbrev pub server_saying : ℕ → Session → List ℕ → ServerSaid
server_saying n s text = record { answer = result s.phase; taken = n; next = s; text = text }

-- "Unless said otherwise a numbered answer leaves session and buffers untouched."
abbrev pub server_refusing : Session → ℕ → ServerSaid
server_refusing s n = record { answer = refused n; taken = 0; next = s; text = [] }

-- A call as the host sees it: the answer, how many bytes were taken, how many stand in the lent out buffer, the next session, and the buffer.
pub record ServerServed : Type 0 where
  pub answer : Answer Phase
  pub taken : ℕ
  pub written : ℕ
  pub next : Session
  pub out : List ℕ

-- the bytes to send stand at the front of the lent buffer, and past them it keeps what it held
abbrev pub server_lent : ServerSaid → List ℕ → ServerServed
server_lent d out = record { answer = d.answer; taken = d.taken; written = length d.text; next = d.next; out = sets out 0 d.text }

-- the cases of a step's answer
abbrev pub server_answer : Result Phase Refusal → Answer Phase
server_answer r = answer_as (λ p. p) r

abbrev pub server_step : ServerStep → List ℕ → ServerServed
server_step r out = record { answer = server_answer r.answer; taken = r.taken; written = r.written; next = session r.session; out = out }
