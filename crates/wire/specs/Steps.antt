-- What private functions of other crates cite; no public contract does.
use Rattle.std.specs.Prelude.{ℕ}
use Rattle.std.specs.Prelude.{Result, Ok, Err}
use Rattle.wire.specs.declared.Refusal.{Refusal}
use Rattle.wire.specs.Answer.{number}

-- what a verdict comes to: its number, or else what is said
abbrev pub settled : {X : Type 0} → Result (Unit {0}) Refusal → (ℕ → X) → X → X
settled (Ok u) refuse say = say
settled (Err r) refuse say = refuse (number r)
