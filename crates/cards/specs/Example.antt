-- Examples with what is expected of them from outside: documents 01 and 02, the Rust, the ELM327 datasheet or SAE J1979, and never this library.
use Rattle.std.specs.Prelude.{List, [], ◌∷◌, ◌≡◌}
use Prim.Native.String.{String}

-- A name, what a definition gives, and what is expected.
pub record Example : Type 1 where
  pub name : String
  pub Kind : Type 0
  pub given : Kind
  pub expected : Kind

abbrev pub example : {A : Type 0} → String → A → A → Example
example {A} name g e = record { name = name; Kind = A; given = g; expected = e }

-- each example is as expected
abbrev pub AsExpected : List Example → Type 0
AsExpected [] = Unit {0}
AsExpected (x ∷ xs) = (x.given ≡ x.expected) × AsExpected xs
