-- Laws of the scan for a CR: one for each way through the loop.
use mathlib.Core.Path.{◌≡◌, ap, ◌∙◌}
use mathlib.Core.List.{List}
use Prim.Native.Nat.{ℕ, suc, ◌+◌, ◌-◌, ◌≤◌, ◌<◌}
use native.Mathlib.Numerals.{add-one}
use native.Mathlib.Omega.{arith}
use lib.ListN.{length, take, drop, get_or, length-drop, drop_of_length-le}
use lib.Seq.{drop-cons, take_all}
use borrow.Author.Tests.{eq-eqb, ne_eqb}
use Rattle.reply_lines.specs.Steps.{to_cr}

-- ---- from position i on

module _ (s : List ℕ) (i : ℕ) (h : i < length s) where
  pub cr_here : get_or s i 0 ≡ 13 → to_cr (drop i s) ≡ 0
  unfolding to_cr
  cr_here e = rw (drop-cons s i 0 h, eq-eqb (get_or s i 0) 13 e)

  pub cr_next : (get_or s i 0 ≡ 13 → ⊥) → to_cr (drop i s) ≡ suc (to_cr (drop (i + 1) s))
  unfolding to_cr
  cr_next n = rw (add-one, drop-cons s i 0 h, ne_eqb (get_or s i 0) 13 n)

pub cr_end : (s : List ℕ) (i : ℕ) → length s ≤ i → to_cr (drop i s) ≡ 0
unfolding to_cr
cr_end s i h = rw (drop_of_length-le s h)

-- a part to the end of a slice
pub part_all : (s : List ℕ) (i : ℕ) → take (length s - i) (drop i s) ≡ drop i s
part_all s i = take_all (length s - i) (drop i s) (omega (arith, length-drop i s))

-- where the CR stands that is counted to from a position
pub cr_place : (s : List ℕ) (at n : ℕ) → n ≡ to_cr (take (length s - at) (drop at s)) → at + n ≡ at + to_cr (drop at s)
cr_place s at n e = ap (λ k. at + k) (e ∙ ap to_cr (part_all s at))
