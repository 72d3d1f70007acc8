-- What the private functions of this crate say; no public contract rests on it.
use Rattle.std.specs.Prelude.{Bool, cond, ◌||◌, List, [], ◌∷◌, ℕ, suc, eqb}

-- how many characters stand before the first CR
unfoldable pub to_cr : List ℕ → ℕ
to_cr [] = 0
to_cr (c ∷ s) = cond (eqb c 13) 0 (suc (to_cr s))

-- what is skipped inside a line: 00 and 20
abbrev pub is_skipped : ℕ → Bool
is_skipped c = eqb c 0 || eqb c 32
