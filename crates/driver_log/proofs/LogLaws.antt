-- Laws of the writing of a log.
use mathlib.Core.Path.{◌≡◌, refl, sym, ap, ◌∙◌}
use mathlib.Core.List.{List, [], ◌∷◌}
use Prim.Native.Nat.{ℕ, ◌≤◌, min}
use lib.ListN.{length, take}
use lib.Seq.{take-length}
use Rattle.wire.specs.Put.{Put}
use Rattle.wire.proofs.PutLaws.{put_none, put_full, put_then}
use Rattle.wire.proofs.ListLaws.{take_min}

-- nothing is written past the end
pub put_past : (out : List ℕ) (at : ℕ) (t : List ℕ) → length out ≤ at → Put out at t at out
put_past out at [] h = put_none out at
put_past out at (x ∷ t) h = put_then (put_full out at x h) (put_past out at t h)

-- the same text by another name
pub put_as : {out left t u : List ℕ} {at r : ℕ} → t ≡ u → Put out at t r left → Put out at u r left
put_as e p = rw (← e) p

-- a front that is no longer than there are elements
pub take_within : (n m : ℕ) (s : List ℕ) → m ≡ min n (length s) → take m s ≡ take n s
take_within n m s e = ap (λ k. take k s) e ∙ sym (take_min n (length s) s) ∙ ap (take n) (take-length s)
