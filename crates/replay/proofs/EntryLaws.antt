-- Laws of an entry: its texts stand one after the other behind its nine bytes.
use mathlib.Core.Path.{◌≡◌, ap, ◌∙◌}
use mathlib.Core.List.{List, ◌++◌}
use Prim.Native.Nat.{ℕ, ◌+◌, ◌<◌}
use native.Mathlib.Omega.{arith}
use lib.ListN.{length, drop, length-append, length-drop}
use lib.Seq.{drop-drop}

-- the numbers are read one after the other: the kind, and four of two bytes
pub numbers_read : (list a b c d e : List ℕ) → a ≡ drop 1 list → b ≡ drop 2 a → c ≡ drop 2 b → d ≡ drop 2 c → e ≡ drop 2 d → e ≡ drop 9 list
numbers_read list a b c d e p q r s t =
    t ∙ ap (drop 2) (s ∙ ap (drop 2) (r ∙ ap (drop 2) (q ∙ ap (drop 2) p ∙ drop-drop 2 1 list) ∙ drop-drop 2 3 list) ∙ drop-drop 2 5 list) ∙ drop-drop 2 7 list

pub entry_texts : (list e pieces script stored f g rest : List ℕ) → e ≡ drop 9 list → pieces ++ f ≡ e → script ++ g ≡ f → stored ++ rest ≡ g →
    pieces ++ (script ++ (stored ++ rest)) ≡ drop 9 list
entry_texts list e pieces script stored f g rest t u v w = ap (λ x. pieces ++ (script ++ x)) w ∙ ap (λ x. pieces ++ x) v ∙ u ∙ t

pub entry_shorter : (list pieces script stored rest : List ℕ) → 0 < length list → pieces ++ (script ++ (stored ++ rest)) ≡ drop 9 list → length rest < length list
entry_shorter list pieces script stored rest h e =
    let all : length (pieces ++ (script ++ (stored ++ rest))) ≡ length (drop 9 list) = ap length e in
    omega (arith, all, length-drop 9 list, length-append pieces (script ++ (stored ++ rest)), length-append script (stored ++ rest), length-append stored rest)
