-- Document 01, "Which form goes where": "Where an answer is an enum, a definition gives this paper's number and values for each of its cases."
-- `number` gives the number of each refusal, `answer_as` the cases of a result that may be refused; what else a call answers has a definition beside the rule that it
-- answers. Contracts go through these.
-- A `Result` with a `Refusal` means an Answer, and an `Option` an Option.
use Rattle.std.specs.Prelude.{Bool, cond, List, [], ◌∷◌, ℕ, Result, Ok, Err}
use Rattle.std.specs.Prelude as rust
use Rattle.std.proofs.Math.Option.{Option, none, some}
use Rattle.wire.specs.declared.Refusal.{Refusal}
use Rattle.wire.specs.declared.Refusal.TheVariants.{OutOfTurn, PidCount, TooLong, NotAscii, Malformed, SmallBuffer, Disconnected, ReplyTooLong, ReplyNotAscii, LineFull, ByteNotAscii}

-- What a call answers: its result, or a number of document 01.
pub data Answer (A : Type 0) : Type 0 where
  result : A → Answer A
  refused : ℕ → Answer A

-- an answer, by whether it has a number
abbrev pub if_result : {A X : Type 0} → Answer A → (ℕ → X) → (A → X) → X
if_result (result a) refuse say = say a
if_result (refused n) refuse say = refuse n

-- document 01, "Numbers by who causes them"
abbrev pub number : Refusal → ℕ
number OutOfTurn = 1
number PidCount = 2
number TooLong = 3
number NotAscii = 4
number Malformed = 5
number SmallBuffer = 6
number Disconnected = 7
number ReplyTooLong = 8
number ReplyNotAscii = 9
number LineFull = 10
number ByteNotAscii = 11

-- the cases of a result that may be refused
abbrev pub answer_as : {A B : Type 0} → (A → B) → Result A Refusal → Answer B
answer_as say (Ok a) = result (say a)
answer_as say (Err r) = refused (number r)

-- the same of one that says how many
abbrev pub count_answer : Result ℕ Refusal → Answer ℕ
count_answer r = answer_as (λ n. n) r

-- the cases of an answer that says whether there is something
abbrev pub option_as : {A B : Type 0} → (A → B) → rust.Option A → Option B
option_as say (rust.Some a) = some (say a)
option_as say rust.None = none

-- the same of one that says whether there is a number
abbrev pub number_of : rust.Option ℕ → Option ℕ
number_of o = option_as (λ n. n) o

-- "The first that applies": the number of the first row whose test is met, and with none what is said.
unfoldable pub unless : {X : Type 0} → List (Bool × ℕ) → (ℕ → X) → X → X
unless [] refuse say = say
unless ((test, n) ∷ rows) refuse say = cond test (refuse n) (unless rows refuse say)
