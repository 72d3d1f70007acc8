-- Formats: how a thing is written as bytes, how it is read from the front of some bytes, and which things the form has room for.
-- A format is made of the formats of its parts, so that its writer and its reader cannot part ways.
use Rattle.std.specs.Prelude.{◌≡◌, Bool, true, cond, List, [], ◌∷◌, ◌++◌, ℕ, zero, suc, ◌≤◌, leb, length, take, drop}
use Rattle.std.proofs.Math.Option.{Option, none, some}
use Rattle.wire.specs.Answer.{Answer, result, refused}
use Rattle.group.specs.Group.{Read, got, failed, malformed, group_bytes, read_number, and_then}

pub record Format (A : Type 0) : Type 1 where
  pub Fits : A → Type 0
  pub write : A → List ℕ
  pub read : List ℕ → Read A

-- Single things

abbrev pub read_byte : List ℕ → Read ℕ
read_byte [] = malformed
read_byte (b ∷ s) = got b s

abbrev pub byte : Format ℕ
byte = record { Fits = λ b. Unit {0}; write = λ b. b ∷ []; read = read_byte }

-- a group number
abbrev pub any_group : Format ℕ
any_group = record { Fits = λ n. Unit {0}; write = group_bytes; read = read_number }

-- n bytes as they stand
abbrev pub bytes_of : ℕ → Format (List ℕ)
bytes_of n = record { Fits = λ d. length d ≡ n; write = λ d. d; read = λ s. cond (leb n (length s)) (got (take n s) (drop n s)) malformed }

-- One thing after another

-- A thing of which a part is written first: the form of what follows may depend on that part.
abbrev pub field : {A B : Type 0} → (A → B) → Format B → (B → Format A) → Format A
field part f rest = record {
  Fits = λ a. f.Fits (part a) × (rest (part a)).Fits a;
  write = λ a. f.write (part a) ++ (rest (part a)).write a;
  read = λ s. and_then (f.read s) (λ b s. (rest b).read s);
}

-- A thing of which all that is left is one part: it is made of that.
abbrev pub last : {A B : Type 0} → (A → B) → Format B → (B → A) → Format A
last part f make = record {
  Fits = λ a. f.Fits (part a) × (make (part a) ≡ a);
  write = λ a. f.write (part a);
  read = λ s. and_then (f.read s) (λ b s. got (make b) s);
}

-- A thing that passes a test.
abbrev pub having : {A : Type 0} → Format A → (A → Bool) → Format A
having f test = record {
  Fits = λ a. f.Fits a × (test a ≡ true);
  write = f.write;
  read = λ s. and_then (f.read s) (λ a s. cond (test a) (got a s) malformed);
}

-- The same form, with its limits said in other words.
abbrev pub limited_to : {A : Type 0} → (A → Type 0) → Format A → Format A
limited_to P f = record { Fits = P; write = f.write; read = f.read }

-- a group number of at most a limit
abbrev pub group : ℕ → Format ℕ
group limit = limited_to (λ n. n ≤ limit) (having any_group (λ n. leb n limit))

-- Rows

abbrev pub Each : {A : Type 0} → (A → Type 0) → List A → Type 0
Each P [] = Unit {0}
Each P (x ∷ xs) = P x × Each P xs

abbrev pub write_row : {A : Type 0} → Format A → List A → List ℕ
write_row f [] = []
write_row f (x ∷ xs) = f.write x ++ write_row f xs

-- n things, with what follows them
abbrev pub read_row : {A : Type 0} → Format A → ℕ → List ℕ → Read (List A)
read_row f zero s = got [] s
read_row f (suc n) s = and_then (f.read s) (λ x s. and_then (read_row f n s) (λ xs s. got (x ∷ xs) s))

abbrev pub row_of : {A : Type 0} → Format A → ℕ → Format (List A)
row_of f n = record { Fits = λ xs. (length xs ≡ n) × Each f.Fits xs; write = write_row f; read = read_row f n }

-- how many, and then so many
abbrev pub counted : {A : Type 0} → Format ℕ → (ℕ → Format (List A)) → Format (List A)
counted f row = field length f row

-- at most n things, to the end of the bytes
abbrev pub read_all : {A : Type 0} → Format A → ℕ → List ℕ → Read (List A)
read_all f zero [] = got [] []
read_all f (suc n) [] = got [] []
read_all f zero (b ∷ s) = malformed
read_all f (suc n) (b ∷ s) = and_then (f.read (b ∷ s)) (λ x s. and_then (read_all f n s) (λ xs s. got (x ∷ xs) s))

-- What a reading comes to: the place of what was read, or the number
abbrev pub answer_of : {A P : Type 0} → (A → List ℕ → P) → Read A → Answer P
answer_of place (failed j) = refused j
answer_of place (got x rest) = result (place x rest)

-- the same of the next thing of a row, and none at its end
abbrev pub step_of : {A P : Type 0} → Format A → (A → List ℕ → P) → List ℕ → Answer (Option P)
step_of f place [] = result none
step_of f place (b ∷ s) = answer_of (λ x rest. some (place x rest)) (f.read (b ∷ s))
