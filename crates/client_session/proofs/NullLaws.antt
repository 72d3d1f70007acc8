-- Laws of 00 in a piece.
use mathlib.Core.Path.{◌≡◌, refl, ap, ◌∙◌}
use mathlib.Core.Bool.{true, false, not, cond, ◌||◌}
use mathlib.Core.List.{List, [], ◌∷◌, ◌++◌, append-nil}
use Prim.Native.Nat.{ℕ, suc, ◌+◌, ◌≤◌, ◌<◌}
use native.Mathlib.Omega.{arith}
use lib.Dec.{eqb, ltb}
use lib.ListN.{length, take, get_or}
use borrow.Author.Tests.{eqb-true, ne_eqb, lt-ltb}
use Rattle.std.specs.List.{filter, list_all, count_by}
use Rattle.std.proofs.lemmas.List.Elements.{filter_more}
use Rattle.std.proofs.lemmas.List.Sums.{length-filter}
use Rattle.wire.specs.Text.{has, high, without_nulls}
use Rattle.wire.proofs.Cases.{by_test, and_both}
use Rattle.wire.proofs.PassingLaws.{passing-length, nulls_none, nulls-high}
use Rattle.wire.proofs.TextLaws.{high-append}
use Rattle.client_session.specs.Piece.{nulls_alone}

-- what is left of a piece, in the words of std
pub left-filter : (s : List ℕ) → without_nulls s ≡ filter (λ b. not (eqb b 0)) s
left-filter [] = refl
left-filter (b ∷ s) = by_test (eqb b 0) (λ e. rw e (left-filter s)) (λ e. rw e (ap (λ t. b ∷ t) (left-filter s)))

pub left-count : (s : List ℕ) → length (without_nulls s) ≡ count_by (λ b. not (eqb b 0)) s
left-count s = ap length (left-filter s) ∙ length-filter (λ b. not (eqb b 0)) s

-- nothing is left where each byte is 00
pub none_left : (s : List ℕ) → eqb (length (without_nulls s)) 0 ≡ list_all (λ b. eqb b 0) s
none_left [] = refl
none_left (b ∷ s) = by_test (eqb b 0) (λ e. rw (e, none_left s)) (λ e. rw (e, ne_eqb (suc (length (without_nulls s))) 0 (λ z. omega arith)))

-- the turns of a loop that passes 00 by
module _ (s : List ℕ) (i : ℕ) (h : i < length s) where
  more : without_nulls (take (i + 1) s) ≡ without_nulls (take i s) ++ cond (not (eqb (get_or s i 0) 0)) (get_or s i 0 ∷ []) []
  more = rw (left-filter (take (i + 1) s), left-filter (take i s)) (filter_more (λ b. not (eqb b 0)) s i 0 h)

  pub null_next : get_or s i 0 ≡ 0 → without_nulls (take (i + 1) s) ≡ without_nulls (take i s)
  null_next e = more ∙ rw (e, append-nil)

  pub byte_next : (get_or s i 0 ≡ 0 → ⊥) → without_nulls (take (i + 1) s) ≡ without_nulls (take i s) ++ (get_or s i 0 ∷ [])
  byte_next ne = more ∙ rw (ne_eqb (get_or s i 0) 0 ne)

-- no more bytes are left than there are
pub left_few : (s : List ℕ) → length (without_nulls s) ≤ length s
left_few s = passing-length (λ b. not (eqb b 0)) s

-- as many bytes are left as there are: all
pub all_left : (s : List ℕ) → length s ≤ length (without_nulls s) → without_nulls s ≡ s
all_left [] h = refl
all_left (b ∷ s) h =
    by_test (eqb b 0)
    (λ e. let k : suc (length s) ≤ length (without_nulls s) = rw e at h in absurd (omega (arith, left_few s)))
    (λ e. let k : suc (length s) ≤ suc (length (without_nulls s)) = rw e at h in rw e (ap (λ t. b ∷ t) (all_left s (omega arith))))

-- nothing is left of a piece of 00 alone
none_of : (s : List ℕ) → length s ≡ 0 → s ≡ []
none_of [] h = refl
none_of (b ∷ s) h = absurd (omega arith)

pub alone_nothing : (s : List ℕ) → nulls_alone s ≡ true → without_nulls s ≡ []
alone_nothing s e = none_of (without_nulls s) (eqb-true (length (without_nulls s)) 0 (and_both (ltb 0 (length s)) (eqb (length (without_nulls s)) 0) e).1)

-- a piece without 00 has not 00 alone
pub none_alone : (s : List ℕ) → 0 < length s → has 0 s ≡ false → nulls_alone s ≡ false
none_alone s h n = rw (nulls_none s n, lt-ltb 0 (length s) h, ne_eqb (length s) 0 (λ z. omega arith))

-- a byte of 80 or more stands in a text and what is left of a piece where it stands in the one or in the other
pub high_joined : (s t : List ℕ) → high (s ++ without_nulls t) ≡ (high s || high t)
high_joined s t = rw (high-append s (without_nulls t), nulls-high t)
