-- Laws of scripts: a loop that makes the call at a position and goes on behind its argument.
use mathlib.Core.Path.{◌≡◌, refl, sym, ap, ◌∙◌}
use mathlib.Core.List.{List, [], ◌∷◌}
use Prim.Native.Nat.{ℕ, zero, suc, ◌+◌, ◌-◌, ◌≤◌, ◌<◌, min}
use native.Mathlib.Omega.{arith}
use lib.Dec.{leb}
use lib.ListN.{length, take, drop, get_or, length-drop, drop_of_length-le}
use borrow.Author.Tests.{leb-true, leb-false}
use Rattle.std.proofs.lemmas.List.{take_all}
use Rattle.wire.proofs.Cases.{by_test}
use Rattle.driver_log.specs.Script.{argument_length, calls_within, calls, rounds}
use Rattle.driver_log.proofs.LogLaws.{take_within}

-- what is left behind a front that is no longer than there are elements
drop-within : (n m : ℕ) (s : List ℕ) → m ≡ min n (length s) → drop m s ≡ drop n s
drop-within n m s e =
    by_test (leb n (length s))
    (λ t. let h = leb-true n (length s) t in let k : m ≡ n = omega arith in ap (λ i. drop i s) k)
    (λ t.
    let h = leb-false n (length s) t in
    let k : length s ≤ m = omega arith in
    let l : length s ≤ n = omega arith in
    drop_of_length-le s k ∙ sym (drop_of_length-le s l))

module _ {T : Type 0} (call : T → ℕ → List ℕ → T) where
  -- as many calls as there are bytes are enough
  enough : (m n : ℕ) (t : T) (s : List ℕ) → length s ≤ m → length s ≤ n → calls_within call m t s ≡ calls_within call n t s
  enough zero zero t s h i = refl
  enough zero (suc n) t [] h i = refl
  enough zero (suc n) t (k ∷ s) h i = absurd (omega arith)
  enough (suc m) zero t [] h i = refl
  enough (suc m) zero t (k ∷ s) h i = absurd (omega arith)
  enough (suc m) (suc n) t [] h i = refl
  enough (suc m) (suc n) t (k ∷ []) h i = refl
  enough (suc m) (suc n) t (k ∷ low ∷ []) h i = refl
  enough (suc m) (suc n) t (k ∷ low ∷ high ∷ s) h i =
      let a = argument_length low high in
      enough m n (call t k (take a s)) (drop a s) (omega (arith, length-drop a s)) (omega (arith, length-drop a s))

  calls-cons : (t : T) (k low high : ℕ) (s : List ℕ) →
      calls call t (k ∷ low ∷ high ∷ s) ≡ calls call (call t k (take (argument_length low high) s)) (drop (argument_length low high) s)
  unfolding calls
  calls-cons t k low high s =
      let a = argument_length low high in
      enough (suc (suc (length s))) (length (drop a s)) (call t k (take a s)) (drop a s) (omega (arith, length-drop a s)) (omega arith)

  -- the script's first call, and then the others: after are the bytes behind the three of its kind and its argument's length
  pub calls_turn : (t u : T) (s after front back : List ℕ) (size : ℕ) → 3 ≤ length s → after ≡ take (length s - 3) (drop 3 s) →
      size ≡ min (argument_length (get_or s 1 0) (get_or s 2 0)) (length after) → front ≡ take size after → back ≡ drop size after →
      u ≡ call t (get_or s 0 0) front → calls call u back ≡ calls call t s
  calls_turn t u [] after front back size h a e f b w = absurd (omega arith)
  calls_turn t u (k ∷ []) after front back size h a e f b w = absurd (omega arith)
  calls_turn t u (k ∷ low ∷ []) after front back size h a e f b w = absurd (omega arith)
  calls_turn t u (k ∷ low ∷ high ∷ r) after front back size h a e f b w =
      let n = argument_length low high in
      let all : after ≡ r = a ∙ take_all (suc (suc (suc (length r))) - 3) r (omega arith) in
      let m : size ≡ min n (length r) = e ∙ ap (λ x. min n (length x)) all in
      let g : front ≡ take n r = f ∙ ap (take size) all ∙ take_within n size r m in
      let l : back ≡ drop n r = b ∙ ap (drop size) all ∙ drop-within n size r m in
      ap (λ x. calls call x back) w ∙ ap (λ x. calls call (call t k x) back) g ∙ ap (calls call (call t k (take n r))) l ∙ sym (calls-cons t k low high r)

  -- no call is left
  pub calls_end : (t : T) (s : List ℕ) → length s < 3 → calls call t s ≡ t
  unfolding calls
  calls_end t [] h = refl
  calls_end t (k ∷ []) h = refl
  calls_end t (k ∷ low ∷ []) h = refl
  calls_end t (k ∷ low ∷ high ∷ s) h = absurd (omega arith)

-- one more of so many rounds
pub rounds_turn : {T : Type 0} (once : T → T) (n round : ℕ) (t : T) → round < n → rounds once (n - (round + 1)) (once t) ≡ rounds once (n - round) t
rounds_turn once n round t h =
    let e : n - round ≡ suc (n - (round + 1)) = omega arith in
    sym (ap (λ k. rounds once k t) e)

-- one of those that are left
pub rounds_left : {T : Type 0} (once : T → T) (left : ℕ) (t : T) → (left ≡ 0 → ⊥) → rounds once (left - 1) (once t) ≡ rounds once left t
rounds_left once left t h =
    let e : left - 0 ≡ left = omega arith in
    rounds_turn once left 0 t (omega (arith, h)) ∙ ap (λ k. rounds once k t) e
