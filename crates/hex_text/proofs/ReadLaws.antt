-- Laws of the digits read: how large a number of so many characters can be, and what a plus makes of one.
use mathlib.Core.Path.{◌≡◌, refl, ap, ◌∙◌}
use mathlib.Core.Bool.{true, false, cond}
use mathlib.Core.List.{List, [], ◌∷◌, ◌++◌}
use mathlib.Core.Option.{Option, none, some}
use Prim.Native.Nat.{ℕ, ◌+◌, ◌-◌, ◌*◌, ◌^◌, ◌≤◌, ◌<◌}
use native.Mathlib.Nat.{pow-suc, mul_assoc, one-mul}
use native.Mathlib.Omega.{arith}
use lib.Dec.{leb}
use lib.ListN.{length}
use borrow.Author.Tests.{le-leb, lt-leb, leb-true}
use Rattle.wire.proofs.Cases.{by_test}
use Rattle.wire.proofs.All.{All}
use Rattle.hex_text.specs.Read.{within, digit, shifted, digits_after, hex_number, kept, pair_bytes}

-- ---- a number is small: of w characters it is below 16 ^ w

-- a number below k, or none
abbrev pub Below : ℕ → Option ℕ → Type 0
Below k none = Unit {0}
Below k (some n) = n < k

-- what that says of the number
pub below_at : (k : ℕ) {o : Option ℕ} {n : ℕ} → Below k o → o ≡ some n → n < k
below_at k b e = rw e at b

-- a digit
pub digit_small : (c : ℕ) → Below 16 (digit c)
unfolding digit
digit_small c =
    in_range 48 57 48 _ (λ h k. omega arith)
    (in_range 65 70 55 _ (λ h k. omega arith)
    (in_range 97 102 87 none (λ h k. omega arith) tt))
  where
    in_range : (lo hi base : ℕ) (o : Option ℕ) → (lo ≤ c → c ≤ hi → c - base < 16) → Below 16 o → Below 16 (cond (within lo hi c) (some (c - base)) o)
    in_range lo hi base o h b =
        by_test (leb lo c)
        (λ e. by_test (leb c hi) (λ f. rw (e, f) (h (leb-true lo c e) (leb-true c hi f))) (λ f. rw (e, f) b))
        (λ e. rw e b)

-- each digit more is a factor of 16
shifted_small : (k : ℕ) (o d : Option ℕ) → Below k o → Below 16 d → Below (16 * k) (shifted o d)
shifted_small k none d b s = tt
shifted_small k (some n) none b s = tt
shifted_small k (some n) (some d) b s = omega arith

after_small : (k : ℕ) (o : Option ℕ) (s : List ℕ) → Below k o → Below (16 ^ length s * k) (digits_after o s)
after_small k o [] b = rw one-mul b
after_small k o (c ∷ s) b =
    rw (pow-suc, mul_assoc) (after_small (16 * k) (shifted o (digit c)) s (shifted_small k o (digit c) b (digit_small c)))

-- so a pair is below 256 and an id below 4096
pub number_small : (s : List ℕ) → Below (16 ^ length s) (hex_number s)
number_small [] = tt
number_small (c ∷ s) = rw pow-suc (after_small 16 (digit c) s (digit_small c))

-- ---- a bad character, and document 02 §4: "Pairs and ids with a plus now count as bad hex: the pair is skipped"

after_none : (s : List ℕ) → digits_after none s ≡ none
after_none [] = refl
after_none (c ∷ s) = after_none s

shifted_none : (o : Option ℕ) → shifted o none ≡ none
shifted_none none = refl
shifted_none (some n) = refl

after_bad : (c : ℕ) → digit c ≡ none → (o : Option ℕ) (s t : List ℕ) → digits_after o (s ++ (c ∷ t)) ≡ none
after_bad c e o [] t = ap (λ n. digits_after n t) (ap (shifted o) e ∙ shifted_none o) ∙ after_none t
after_bad c e o (x ∷ s) t = after_bad c e (shifted o (digit x)) s t

-- a pair or an id with a bad character is bad, wherever it stands in them
pub number_bad : (c : ℕ) → digit c ≡ none → (s t : List ℕ) → hex_number (s ++ (c ∷ t)) ≡ none
number_bad c e [] t = rw e (after_none t)
number_bad c e (x ∷ s) t = after_bad c e (digit x) s t

-- and one without is a number
abbrev pub IsNumber : Option ℕ → Type 0
IsNumber none = ⊥
IsNumber (some n) = Unit {0}

shifted-number : (o d : Option ℕ) → IsNumber o → IsNumber d → IsNumber (shifted o d)
shifted-number none d g h = g
shifted-number (some n) none g h = h
shifted-number (some n) (some d) g h = tt

after-number : (o : Option ℕ) (s : List ℕ) → IsNumber o → All (λ c. IsNumber (digit c)) s → IsNumber (digits_after o s)
after-number o [] g a = g
after-number o (c ∷ s) g a = after-number (shifted o (digit c)) s (shifted-number o (digit c) g a.0) a.1

pub number_of_digits : (c : ℕ) (s : List ℕ) → All (λ c. IsNumber (digit c)) (c ∷ s) → IsNumber (hex_number (c ∷ s))
number_of_digits c s a = after-number (digit c) s a.0 a.1

-- a plus is a bad one
pub plus_bad : (s t : List ℕ) → hex_number (s ++ (43 ∷ t)) ≡ none
unfolding digit
plus_bad s t = number_bad 43 refl s t

-- a bad pair is skipped where it stands: the pairs before and after it are read as they are
skip_pair : (n : ℕ) (u : List ℕ) (a b : ℕ) (s : List ℕ) → length u ≡ 2 * n → hex_number (a ∷ b ∷ []) ≡ none → pair_bytes (u ++ (a ∷ b ∷ s)) ≡ pair_bytes (u ++ s)
skip_pair n [] a b s h e = rw e
skip_pair n (x ∷ []) a b s h e = absurd (omega arith)
skip_pair n (x ∷ y ∷ u) a b s h e = ap (λ t. kept (hex_number (x ∷ y ∷ [])) ++ t) (skip_pair (n - 1) u a b s (omega arith) e)

-- so is one that starts or ends with a plus
pub plus_skipped : (n : ℕ) (u p q s : List ℕ) → length u ≡ 2 * n → length p + length q ≡ 1 → pair_bytes (u ++ (p ++ (43 ∷ (q ++ s)))) ≡ pair_bytes (u ++ s)
plus_skipped n u [] [] s h k = absurd (omega arith)
plus_skipped n u [] (b ∷ []) s h k = skip_pair n u 43 b s h (plus_bad [] (b ∷ []))
plus_skipped n u [] (b ∷ c ∷ q) s h k = absurd (omega arith)
plus_skipped n u (a ∷ []) [] s h k = skip_pair n u a 43 s h (plus_bad (a ∷ []) [])
plus_skipped n u (a ∷ []) (b ∷ q) s h k = absurd (omega arith)
plus_skipped n u (a ∷ b ∷ p) q s h k = absurd (omega arith)
