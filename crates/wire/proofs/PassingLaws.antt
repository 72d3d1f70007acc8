-- Laws of the elements that pass a test, and of a text without its 00.
use mathlib.Core.Path.{◌≡◌, refl, sym, ap, ◌∙◌}
use mathlib.Core.Bool.{Bool, true, false, not, ◌||◌}
use mathlib.Core.List.{List, [], ◌∷◌, ◌++◌, reverse_aux, reverse}
use Prim.Native.Nat.{ℕ, ◌≤◌}
use native.Mathlib.Omega.{arith}
use lib.Dec.{eqb, leb}
use lib.ListN.{length}
use borrow.Author.Tests.{eqb-true, ne_eqb, not-false}
use Rattle.wire.specs.Text.{any, has, high, passing, without_nulls}
use Rattle.wire.proofs.All.{All}
use Rattle.wire.proofs.Cases.{by_test, or_none_lem}

module _ (f : ℕ → Bool) where
  pub passing-length : (s : List ℕ) → length (passing f s) ≤ length s
  passing-length [] = omega arith
  passing-length (c ∷ s) = let h = passing-length s in by_test (f c) (λ e. rw e (omega arith)) (λ e. rw e (omega arith))

  pub passing-append : (s t : List ℕ) → passing f (s ++ t) ≡ passing f s ++ passing f t
  passing-append [] t = refl
  passing-append (c ∷ s) t = by_test (f c) (λ e. rw e (ap (λ r. c ∷ r) (passing-append s t))) (λ e. rw e (passing-append s t))

  -- what has passed passes again
  pub passing_again : (s : List ℕ) → passing f (passing f s) ≡ passing f s
  passing_again [] = refl
  passing_again (c ∷ s) = by_test (f c) (λ e. rw (e, e) (ap (λ r. c ∷ r) (passing_again s))) (λ e. rw e (passing_again s))

  -- where each passes all are left
  pub passing_all : (s : List ℕ) → All (λ c. f c ≡ true) s → passing f s ≡ s
  passing_all [] a = refl
  passing_all (c ∷ s) a = rw a.0 (ap (λ r. c ∷ r) (passing_all s a.1))

  passing_aux : (s t : List ℕ) → passing f (reverse_aux s t) ≡ reverse_aux (passing f s) (passing f t)
  passing_aux [] t = refl
  passing_aux (c ∷ s) t = passing_aux s (c ∷ t) ∙ by_test (f c) (λ e. rw e) (λ e. rw e)

  pub passing-reverse : (s : List ℕ) → passing f (reverse s) ≡ reverse (passing f s)
  passing-reverse s = passing_aux s []

  -- what holds of each holds of those that pass
  pub all_passing : (P : ℕ → Type 0) (s : List ℕ) → All P s → All P (passing f s)
  all_passing P [] a = tt
  all_passing P (c ∷ s) a = by_test (f c) (λ e. rw e (a.0, all_passing P s a.1)) (λ e. rw e (all_passing P s a.1))

  -- a second test that only what passes the first can pass
  pub any-passing : (g : ℕ → Bool) → ((c : ℕ) → f c ≡ false → g c ≡ false) → (s : List ℕ) → any g (passing f s) ≡ any g s
  any-passing g h [] = refl
  any-passing g h (c ∷ s) = by_test (f c) (λ e. rw e (ap (λ b. g c || b) (any-passing g h s))) (λ e. rw (e, h c e) (any-passing g h s))

-- ---- without 00

is_null : (c : ℕ) → not (eqb c 0) ≡ false → c ≡ 0
is_null c e = eqb-true c 0 (not-false (eqb c 0) e)

-- no 00 is left
pub no_null_left : (s : List ℕ) → has 0 (without_nulls s) ≡ false
unfolding has
no_null_left [] = refl
no_null_left (c ∷ s) = by_test (eqb c 0) (λ e. rw e (no_null_left s)) (λ e. rw (e, e) (no_null_left s))

-- where there is none all is left
pub nulls_none : (s : List ℕ) → has 0 s ≡ false → without_nulls s ≡ s
unfolding has
nulls_none [] h = refl
nulls_none (c ∷ s) h = let o = or_none_lem (eqb c 0) (has 0 s) h in rw o.0 (ap (λ t. c ∷ t) (nulls_none s o.1))

-- another byte stands in a text where it stands in the text without its 00, and so does a byte of 80 or more
pub nulls-has : (x : ℕ) → (x ≡ 0 → ⊥) → (s : List ℕ) → has x (without_nulls s) ≡ has x s
unfolding has
nulls-has x h s = any-passing (λ c. not (eqb c 0)) (λ c. eqb c x) (λ c e. ne_eqb c x (λ q. h (sym q ∙ is_null c e))) s

pub nulls-high : (s : List ℕ) → high (without_nulls s) ≡ high s
unfolding high
nulls-high s = any-passing (λ c. not (eqb c 0)) (leb 128) (λ c e. rw (is_null c e)) s
