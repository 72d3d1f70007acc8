-- What the private functions do. No public contract cites these.
use Rattle.std.specs.Prelude.{◌≡◌, List, [], ◌∷◌, ◌++◌, ℕ, ◌≤◌, ◌<◌, length, drop}
use Rattle.group.specs.Group.{got}
use Rattle.value.specs.Values.{Value, part_format}

-- bytes that are read as one part, whatever follows them
abbrev pub IsPart : List ℕ → Type 0
IsPart p = (rest : List ℕ) → (vs : List Value) × (part_format.read (p ++ rest) ≡ got vs rest)

abbrev pub AreParts : List (List ℕ) → Type 0
AreParts [] = Unit {0}
AreParts (p ∷ ps) = IsPart p × AreParts ps

-- Inside s, past its start; and where a part stands at the start, its end.
pub record PartEnd (s : List ℕ) (r : ℕ) : Type 0 where
  pub forward : 0 < length s → 0 < r
  pub inside : r ≤ length s
  pub ends : (vs : List Value) (rest : List ℕ) → part_format.read s ≡ got vs rest → drop r s ≡ rest
