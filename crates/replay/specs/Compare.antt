-- When a log is the stored one, and where else they differ first.
use Rattle.std.specs.Prelude.{cond, List, [], ◌∷◌, ℕ, suc, ◌+◌, eqb, Option, Some, None}
use Rattle.wire.specs.Text.{same}
use Rattle.replay.specs.declared.Difference.{Difference}
use Rattle.replay.specs.declared.Tally.{Tally}

-- in how many bytes two logs agree from their start
abbrev pub agreeing : List ℕ → List ℕ → ℕ
agreeing [] t = 0
agreeing (a ∷ s) [] = 0
agreeing (a ∷ s) (b ∷ t) = cond (eqb a b) (suc (agreeing s t)) 0

-- where a log differs from the stored one, if it does
abbrev pub judged : List ℕ → List ℕ → Option ℕ
judged ours stored = cond (same ours stored) None (Some (agreeing ours stored))

-- the first that differs stays the first
abbrev pub first_of : Option Difference → Option ℕ → ℕ → Option Difference
first_of (Some d) differs case = Some d
first_of None (Some place) case = Some (record { case = case; place = place })
first_of None None case = None

-- one more case
abbrev pub tallied : Tally → Option ℕ → Tally
tallied t differs = record { cases = t.cases + 1; first = first_of t.first differs (t.cases + 1) }
