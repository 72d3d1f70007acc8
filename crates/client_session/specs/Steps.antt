-- What the private steps of the code do. No public contract cites these.
use Rattle.std.specs.Prelude.{◌≡◌, List, ℕ, ◌≤◌, length, Result, Ok, Err}
use Rattle.wire.specs.declared.Refusal.{Refusal}
use Rattle.wire.specs.Answer.{number}
use Rattle.wire.specs.Put.{Put}
use Rattle.client_session.specs.declared.ClientSession.{ClientSession}
use Rattle.client_session.specs.declared.ClientAnswer.{ClientAnswer}
use Rattle.client_session.specs.declared.ClientError.{ClientError}
use Rattle.client_session.specs.declared.ClientError.TheVariants as error
use Rattle.client_session.specs.declared.ClientStep.{ClientStep}
use Rattle.client_session.specs.Session.{Client, client}
use Rattle.client_session.specs.Call.{ClientSaid, ClientServed}

-- A call does what is said, and writes from the front of the out buffer on as far as it reaches.
pub record Does (d : ClientSaid) (out : List ℕ) (s : ClientServed) : Type 0 where
  pub answer : s.answer ≡ d.answer
  pub next : s.next ≡ d.next
  pub text : Put out 0 d.text s.written s.out

-- A call gives an answer, sends so many bytes, and leaves this session.
pub record Stepped (c : Client) (a : Result ClientAnswer ClientError) (n : ℕ) (r : ClientStep) : Type 0 where
  pub answer : r.answer ≡ a
  pub written : r.written ≡ n
  pub next : client r.session ≡ c

-- a call that is refused, and leaves the session
abbrev pub unchanged : ClientSession → Refusal → ClientStep
unchanged s q = record { answer = Err (error.Refused q); written = 0; session = s }

-- a verdict has one of the caller's numbers, and one of the far side's, if any
abbrev pub Early : Result (Unit {0}) Refusal → Type 0
Early (Ok u) = Unit {0}
Early (Err q) = number q ≤ 6

abbrev pub Late : Result (Unit {0}) Refusal → Type 0
Late (Ok u) = Unit {0}
Late (Err q) = 7 ≤ number q

-- A piece of a reply that gets none of the caller's numbers.
pub record Joining (piece store : List ℕ) : Type 0 where
  pub short : length piece ≤ 128
  pub room : 4096 ≤ length store
