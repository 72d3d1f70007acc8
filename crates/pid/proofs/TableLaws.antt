-- Laws of the table of lengths: what it has at each PID, by one computed test over all of them.
use mathlib.Core.Path.{◌≡◌, refl, ap, ◌∙◌}
use mathlib.Core.Bool.{Bool, true, false, ◌||◌}
use mathlib.Core.Logic.{◌⊎◌, inl, inr, ⊎_elim}
use mathlib.Core.Option
use mathlib.Core.Option.{Option, none, some}
use Prim.Native.Nat.{ℕ, zero, suc, ◌+◌, ◌≤◌, ◌<◌}
use native.Mathlib.Nat.{add-zero, add-suc, suc-add}
use native.Mathlib.Omega.{arith}
use lib.Dec.{T, eqb, ltb, eqb→eq}
use lib.ListN.{length, get_or}
use borrow.Author.Tests.{lt-ltb, eqb-true}
use Rattle.wire.specs.Text.{passing}
use Rattle.wire.proofs.Cases.{by_test, at_below}
use Rattle.pid.specs.J1979.{j1979}
use Rattle.pid.specs.Lengths.{unknown, entry_length, entries, mode01_lengths, length_in, listed}

module _ (f : ℕ → ℕ) where
  entries-length : (i n : ℕ) → length (entries f i n) ≡ n
  entries-length i zero = refl
  entries-length i (suc n) = ap suc (entries-length (suc i) n)

  entries_at : (i n p : ℕ) → p < n → get_or (entries f i n) p 0 ≡ f (i + p)
  entries_at i zero p h = absurd (omega arith)
  entries_at i (suc n) zero h = rw add-zero
  entries_at i (suc n) (suc p) h = rw (add-suc, ← suc-add) (entries_at (suc i) n p (omega arith))

-- an entry for each PID
pub table_length : length mode01_lengths ≡ 256
unfolding mode01_lengths
table_length = entries-length (λ p. Option.get_or (j1979 p) unknown) 0 256

pub table_entry : (p : ℕ) → p < 256 → get_or mode01_lengths p 0 ≡ Option.get_or (j1979 p) unknown
unfolding mode01_lengths
table_entry p h = entries_at (λ p. Option.get_or (j1979 p) unknown) 0 256 p h ∙ ap (λ p. Option.get_or (j1979 p) unknown) (omega arith)

-- the test: a listed PID has 1, 2, 4 or 5 bytes, and any other none that is known
abbrev sized : ℕ → Bool
sized n = eqb n 1 || (eqb n 2 || (eqb n 4 || eqb n 5))

abbrev right : Bool → Option ℕ → Bool
right true none = false
right true (some n) = sized n
right false none = true
right false (some n) = false

rule : (p : ℕ) → p < 256 → T (right (listed p) (j1979 p))
unfolding j1979
rule = at_below 256 (λ p. right (listed p) (j1979 p)) tt

sized_of : (k : Bool) (n : ℕ) → T (right k (some n)) → (n ≡ 1) ⊎ ((n ≡ 2) ⊎ ((n ≡ 4) ⊎ (n ≡ 5)))
sized_of false n t = absurd t
sized_of true n t =
    by_test (eqb n 1) (λ a. inl (eqb-true n 1 a)) (λ a.
    by_test (eqb n 2) (λ b. inr (inl (eqb-true n 2 b))) (λ b.
    by_test (eqb n 4) (λ c. inr (inr (inl (eqb-true n 4 c)))) (λ c.
    inr (inr (inr (eqb→eq n 5 (rw (a, b, c) at t)))))))

-- each known length is 1, 2, 4 or 5
pub known-sized : (p n : ℕ) → p < 256 → j1979 p ≡ some n → (n ≡ 1) ⊎ ((n ≡ 2) ⊎ ((n ≡ 4) ⊎ (n ≡ 5)))
known-sized p n h e = sized_of (listed p) n (rw e at (rule p h))

-- so it is one byte at least and five at most
pub known_small : (p n : ℕ) → p < 256 → j1979 p ≡ some n → (1 ≤ n) × (n ≤ 5)
known_small p n h e =
    ⊎_elim (λ s. omega arith) (⊎_elim (λ s. omega arith) (⊎_elim (λ s. omega arith) (λ s. omega arith))) (known-sized p n h e)

known_of : (k : Bool) (o : Option ℕ) → T (right k o) → ltb (Option.get_or o unknown) unknown ≡ k
known_of true none t = absurd t
known_of true (some n) t = lt-ltb n unknown (⊎_elim (λ s. omega arith) (⊎_elim (λ s. omega arith) (⊎_elim (λ s. omega arith) (λ s. omega arith))) (sized_of true n t))
known_of false none t = refl
known_of false (some n) t = absurd t

-- the known set: 00 to 65, 80, A0, C0
pub known-listed : (p : ℕ) → p < 256 → ltb (get_or mode01_lengths p 0) unknown ≡ listed p
known-listed p h = rw (table_entry p h) (known_of (listed p) (j1979 p) (rule p h))

-- 105 are known
pub known_105 : length (passing (λ n. ltb n unknown) mode01_lengths) ≡ 105
unfolding mode01_lengths j1979
known_105 = refl

marked_back : (o : Option ℕ) → ((n : ℕ) → o ≡ some n → n < unknown) → entry_length (Option.get_or o unknown) ≡ o
marked_back none h = refl
marked_back (some n) h = rw (lt-ltb n unknown (h n refl))

-- a PID's length in the table is that of its row
pub table_right : (p : ℕ) → p < 256 → length_in mode01_lengths p ≡ j1979 p
table_right p h = rw (table_entry p h) (marked_back (j1979 p) (λ n e. omega (arith, known_small p n h e)))
