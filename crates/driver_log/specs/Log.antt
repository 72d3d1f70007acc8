-- What a log holds. compare/README.md has the same in words.
use Rattle.std.specs.Prelude.{Bool, cond, List, [], ◌∷◌, ◌++◌, ℕ, ◌+◌, ◌-◌, ◌/◌, ◌%◌, min, length, take}
use Rattle.std.proofs.lemmas.List.Edits.{sets}

-- a number in two bytes, the lower first; of a larger one what is left by 65,536
abbrev pub number_bytes : ℕ → List ℕ
number_bytes n = (n % 256) ∷ (n / 256 % 256) ∷ []

-- a text after its length
abbrev pub text_entry : List ℕ → List ℕ
text_entry text = number_bytes (length text) ++ text

-- a call: the answer's code, a count that belongs to it, and the bytes to send
abbrev pub call_entry : ℕ → ℕ → List ℕ → List ℕ
call_entry code count sent = (code ∷ []) ++ (number_bytes count ++ text_entry sent)

abbrev pub flag_byte : Bool → ℕ
flag_byte on = cond on 1 0

-- A session of kind S with the out buffer lent to it, and the log with the position after what is written.
pub record Turn (S : Type 0) : Type 0 where
  pub session : S
  pub at : ℕ
  pub out : List ℕ
  pub log : List ℕ

abbrev pub turn_at : {S : Type 0} → S → ℕ → List ℕ → List ℕ → Turn S
turn_at s at out log = record { session = s; at = at; out = out; log = log }

-- an entry is written, as far as the log reaches
abbrev pub noted : {S : Type 0} → S → ℕ → List ℕ → List ℕ → List ℕ → Turn S
noted s at out log entry = record { session = s; at = at + min (length entry) (length log - at); out = out; log = sets log at entry }

-- a call is noted: its answer's code and count, and the first bytes of the out buffer that it left, as many as it said are to be sent
abbrev pub answered : {S : Type 0} → ℕ → List ℕ → ℕ → ℕ → ℕ → S → List ℕ → Turn S
answered at log code count written next out = noted next at out log (call_entry code count (take written out))

-- What a program sees of a run: the length of the log, the out buffer and the log.
pub record Logged : Type 0 where
  pub written : ℕ
  pub out : List ℕ
  pub log : List ℕ

abbrev pub logged_of : {S : Type 0} → Turn S → Logged
logged_of t = record { written = t.at; out = t.out; log = t.log }

abbrev pub logged_as : ℕ → List ℕ → List ℕ → Logged
logged_as written out log = record { written = written; out = out; log = log }
