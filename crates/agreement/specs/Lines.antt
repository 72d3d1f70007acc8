-- Demand 3: "A line is 41 and one or more PID values of the table's length; a PID outside the table stands alone on its line, with one length throughout its run."
use Rattle.std.specs.Prelude.{List, [], ◌∷◌, ◌++◌, ◌≡◌, ℕ, length}
use Rattle.std.proofs.Math.Option.{none, some}
use Rattle.pid.specs.J1979.{j1979}
use Rattle.line_list.specs.Lines.{Line}

-- PID values of the table's length, one after the other
pub data PidValues : List ℕ → Type 0 where
  end : PidValues []
  next : (p : ℕ) (d s r : List ℕ) → j1979 p ≡ some (length d) → r ≡ d ++ s → PidValues s → PidValues (p ∷ r)

-- what follows 41, in a run in which a PID p outside the table has the length L p
pub data LineData (L : ℕ → ℕ) : List ℕ → Type 0 where
  alone : (p : ℕ) (d : List ℕ) → j1979 p ≡ none → length d ≡ L p → LineData L (p ∷ d)
  table : (p : ℕ) (r : List ℕ) → PidValues (p ∷ r) → LineData L (p ∷ r)

abbrev pub GoodLine : (ℕ → ℕ) → Line → Type 0
GoodLine L l = (s : List ℕ) × (l.bytes ≡ 0x41 ∷ s) × LineData L s

abbrev pub GoodLines : (ℕ → ℕ) → List Line → Type 0
GoodLines L [] = Unit {0}
GoodLines L (l ∷ ls) = GoodLine L l × GoodLines L ls
