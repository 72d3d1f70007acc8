-- The letter after AT decides which texts a command can be.
use mathlib.Core.Path.{◌≡◌, ap, ◌∙◌}
use mathlib.Core.Logic.{◌≢◌}
use mathlib.Core.Bool.{true, false}
use mathlib.Core.List.{List, [], ◌∷◌}
use Prim.Native.Nat.{ℕ, ◌≤◌, ◌<◌}
use native.Mathlib.Omega.{arith}
use lib.ListN.{length, drop, get_or, length-drop, drop_of_length-le}
use lib.Seq.{drop-cons}
use borrow.Author.Tests.{ne_eqb}
use Rattle.wire.specs.Text.{ascii, same, begins}
use Rattle.wire.proofs.TextLaws.{begins-front, same-long}
use Rattle.at_command.specs.Dialect.{at_kind}
use Rattle.at_command.specs.declared.AtKind.TheVariants.{Unknown}

-- not one byte after AT and a letter is no digit
pub digit_none : (c : List ℕ) (x : ℕ) → length c ≢ 4 → same (drop 3 c) (x ∷ []) ≡ false
digit_none c x h = same-long (drop 3 c) (x ∷ []) (λ k. h (omega (arith, length-drop 3 c)))

module _ (c : List ℕ) (e : begins c (ascii "AT") ≡ true) where
  -- AT alone
  pub kind_bare : length c < 3 → at_kind c ≡ Unknown
  unfolding at_kind
  kind_bare h = let p : c ≡ 65 ∷ 84 ∷ [] = begins-front c (ascii "AT") e ∙ ap (λ l. 65 ∷ 84 ∷ l) (drop_of_length-le c {i = 2} (omega arith)) in rw p

  pub after_at : (x : ℕ) → 3 ≤ length c → get_or c 2 0 ≡ x → c ≡ 65 ∷ 84 ∷ x ∷ drop 3 c
  after_at x h k = begins-front c (ascii "AT") e ∙ ap (λ l. 65 ∷ 84 ∷ l) (drop-cons c 2 0 h ∙ ap (λ y. y ∷ drop 3 c) k)

-- a letter that no text of the dialect has after AT
abbrev NoLetter : ℕ → Type 0
NoLetter x = (((((((((Unit {0} × (x ≡ 90 → ⊥)) × (x ≡ 69 → ⊥)) × (x ≡ 76 → ⊥)) × (x ≡ 83 → ⊥)) × (x ≡ 72 → ⊥)) × (x ≡ 82 → ⊥)) × (x ≡ 68 → ⊥)) × (x ≡ 65 → ⊥)) × (x ≡ 73 → ⊥)) × (x ≡ 64 → ⊥)

pub no_letter : (x : ℕ) (c : List ℕ) → NoLetter x → at_kind (65 ∷ 84 ∷ x ∷ c) ≡ Unknown
unfolding at_kind
no_letter x c n =
    let ((((((((((u, z), e), l), s), h), r), d), a), i), one) = n in
    simp (ne_eqb x 90 z, ne_eqb x 69 e, ne_eqb x 76 l, ne_eqb x 83 s, ne_eqb x 72 h, ne_eqb x 82 r, ne_eqb x 68 d, ne_eqb x 65 a, ne_eqb x 73 i, ne_eqb x 64 one)
