-- A law of how far two logs agree: as far as their pairs of bytes are of equal ones.
use mathlib.Core.Path.{◌≡◌, refl, ap, ◌∙◌}
use mathlib.Core.List.{List, [], ◌∷◌}
use mathlib.Core.Bool.{cond}
use Prim.Native.Nat.{ℕ, suc, ◌+◌}
use native.Mathlib.Omega.{arith}
use lib.Dec.{eqb}
use lib.ListN.{length, take}
use Rattle.std.specs.List.{prefix_len, zip}
use Rattle.std.proofs.lemmas.List.Folds.{length-prefix_len}
use Rattle.replay.specs.Compare.{agreeing}

agreeing_zip : (s t : List ℕ) → prefix_len (λ p. eqb p.0 p.1) (zip s t) ≡ agreeing s t
agreeing_zip [] t = refl
agreeing_zip (a ∷ s) [] = refl
agreeing_zip (a ∷ s) (b ∷ t) = let one : 1 + prefix_len (λ p. eqb p.0 p.1) (zip s t) ≡ suc (agreeing s t) = omega (arith, agreeing_zip s t) in ap (λ n. cond (eqb a b) n 0) one

pub agreeing_pairs : (s t : List ℕ) → length (take (prefix_len (λ p. eqb p.0 p.1) (zip s t)) (zip s t)) ≡ agreeing s t
agreeing_pairs s t = length-prefix_len (λ p. eqb p.0 p.1) (zip s t) ∙ agreeing_zip s t
