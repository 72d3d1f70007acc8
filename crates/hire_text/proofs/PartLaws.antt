-- Laws of the parts in a record's bytes: what the search for a part's end and the writer of the lines go by.
use mathlib.Core.Path.{◌≡◌, ap, ◌∙◌}
use mathlib.Core.List.{List, [], ◌∷◌}
use Prim.Native.Nat.{ℕ, zero, suc, ◌-◌, ◌≤◌, ◌<◌}
use native.Mathlib.Omega.{arith}
use lib.ListN.{length, take, drop, length-append, length-drop, drop_of_length-le}
use lib.Seq.{take-append_seam}
use borrow.Author.Tests.{le-leb}
use Rattle.wire.specs.Put.{Put}
use Rattle.wire.specs.Text.{joined}
use Rattle.wire.proofs.PutLaws.{put_rest, put_nil}
use Rattle.wire.proofs.Cases.{from_no}
use Rattle.group.specs.Group.{got, failed, malformed, read_number}
use Rattle.group.specs.Format.{read_row}
use Rattle.group.proofs.GroupLaws.{read_group, group_got, read_rest, then_got}
use Rattle.group.proofs.AtLaws.{NumberAt}
use Rattle.value.specs.Values.{Value, value_format, part_format}
use Rattle.value.proofs.ValueLaws.{value_some}
use Rattle.value.proofs.StepLaws.{ValueHere}
use Rattle.hire_text.specs.Hire.{hex_line}
use Rattle.hire_text.specs.Steps.{IsPart, AreParts, PartEnd}
use Rattle.hire_text.proofs.LineLaws.{hex_lines}

-- ---- the search for the end of the part at the start of s

-- a value takes a byte at least, so there are no more values than bytes
values_many : (n : ℕ) (s : List ℕ) (vs : List Value) (rest : List ℕ) → read_row value_format n s ≡ got vs rest → n ≤ length s
values_many zero s vs rest q = omega arith
values_many (suc n) s vs rest q =
    let (v, t, g₁, q₁) = then_got (value_format.read s) _ vs rest q in
    let (ws, u, g₂, q₂) = then_got (read_row value_format n t) _ vs rest q₁ in
    omega (arith, value_some s v t g₁, values_many n t ws u g₂)

-- where there is no part, the end of all the bytes will do
no_part : (s : List ℕ) → ((vs : List Value) (rest : List ℕ) → part_format.read s ≡ got vs rest → ⊥) → PartEnd s (length s)
no_part s none = record { forward = λ h. h; inside = omega arith; ends = λ vs rest q. absurd (none vs rest q) }

-- so where no number is read, up to that of the bytes
pub no_number : (s : List ℕ) → read_group (length s) s ≡ malformed → PartEnd s (length s)
no_number s none =
    no_part s (λ vs rest q.
    let (n, t, g, q₁) = then_got (read_number s) (read_row value_format) vs rest q in
    let few = le-leb n (length s) (omega (arith, values_many n t vs rest q₁, (read_rest s n t g).0)) in
    let e = rw (g, few) at none in
    from_no cc)

-- So many values are left of the part at the start, from n on.
pub record ValuesLeft (s : List ℕ) (n left : ℕ) : Type 0 where
  pub forward : 0 < n
  pub inside : n ≤ length s
  pub more : (vs : List Value) (rest : List ℕ) → part_format.read s ≡ got vs rest → (ws : List Value) × (read_row value_format left (drop n s) ≡ got ws rest)

pub left_start : {s : List ℕ} {v n : ℕ} → NumberAt (length s) s 0 v n → ValuesLeft s n v
left_start {s} {v} {n} w = record {
  forward = w.after;
  inside = w.inside;
  more = λ vs rest q. (vs, rw (group_got (length s) v s (drop n s) w.reads).1 at q);
}

-- a value and then the others, of those that are left
next-value : (left : ℕ) (s : List ℕ) (v : Value) (t : List ℕ) (vs : List Value) (rest : List ℕ) → 0 < left → value_format.read s ≡ got v t →
    read_row value_format left s ≡ got vs rest → (ws : List Value) × (read_row value_format (left - 1) t ≡ got ws rest)
next-value zero s v t vs rest h e q = absurd (omega arith)
next-value (suc k) s v t vs rest h e q =
    let (ws, u, g, q₁) = then_got (read_row value_format k t) _ vs rest (rw e at q) in
    let one : suc k - 1 ≡ k = omega arith in
    let end : u ≡ rest = cc in
    (ws, ap (λ n. read_row value_format n t) one ∙ g ∙ ap (λ r. got ws r) end)

no_value : (left : ℕ) (s : List ℕ) (vs : List Value) (rest : List ℕ) {j : ℕ} → 0 < left → value_format.read s ≡ failed j → read_row value_format left s ≡ got vs rest → ⊥
no_value zero s vs rest h e q = absurd (omega arith)
no_value (suc k) s vs rest h e q = let none = rw e at q in from_no cc

last-value : (left : ℕ) (s : List ℕ) (vs : List Value) (rest : List ℕ) → left ≤ 0 → read_row value_format left s ≡ got vs rest → s ≡ rest
last-value zero s vs rest h q = cc
last-value (suc k) s vs rest h q = absurd (omega arith)

module _ {s : List ℕ} {n left : ℕ} (k : ValuesLeft s n left) where
  pub left-value : {p e a m : ℕ} → 0 < left → ValueHere s n p e a m → ValuesLeft s m (left - 1)
  left-value h w = record {
    forward = omega (arith, k.forward, w.here.after, w.ordered);
    inside = w.here.inside;
    more = λ vs rest q. next-value left (drop n s) _ _ _ rest h w.here.reads (k.more vs rest q).1;
  }

  pub left_none : {j : ℕ} → 0 < left → value_format.read (drop n s) ≡ failed j → PartEnd s (length s)
  left_none h e = no_part s (λ vs rest q. no_value left (drop n s) _ rest h e (k.more vs rest q).1)

  pub left-past : 0 < left → length s ≤ n → PartEnd s (length s)
  unfolding value_format
  left-past h i = left_none {j = 5} h (rw (drop_of_length-le s i))

  pub left_end : left ≤ 0 → PartEnd s n
  left_end h = record {
    forward = λ i. k.forward;
    inside = k.inside;
    ends = λ vs rest q. last-value left (drop n s) _ rest h (k.more vs rest q).1;
  }

-- ---- the lines of the parts of a record

-- The lines of the parts of s are left to be written.
pub record LinesLeft (s out : List ℕ) (at r : ℕ) (left : List ℕ) : Type 0 where
  pub parts : List (List ℕ)
  pub are : AreParts parts
  pub bytes : s ≡ joined parts
  pub lines : Put out at (hex_lines parts) r left

-- a part has a byte
part_some : (p : List ℕ) → IsPart p → 0 < length p
part_some [] h = let q = (h []).1 in from_no cc
part_some (b ∷ p) h = omega arith

module _ (s : List ℕ) {out left : List ℕ} {at r : ℕ} where
  first-line : {end a₁ : ℕ} {o₁ : List ℕ} (parts : List (List ℕ)) → AreParts parts → s ≡ joined parts → Put out at (hex_lines parts) r left → 0 < length s →
      PartEnd s end → Put out at (hex_line (take end s)) a₁ o₁ → LinesLeft (drop end s) o₁ a₁ r left
  first-line [] a e p h w l = absurd (omega (arith, ap length e))
  first-line {end} (q ∷ qs) a e p h w l =
      let (vs, reads) = a.0 (joined qs) in
      let after : drop end s ≡ joined qs = w.ends vs (joined qs) (rw e reads) in
      let own : end ≡ length q = omega (arith, w.inside, ap length e, ap length after, length-append q (joined qs), length-drop end s) in
      let line : take end s ≡ q = rw (own, e) (take-append_seam q (joined qs)) in
      record { parts = qs; are = a.1; bytes = after; lines = put_rest p (rw line at l) }

  last_line : (parts : List (List ℕ)) → AreParts parts → s ≡ joined parts → Put out at (hex_lines parts) r left → length s ≤ 0 → (r ≡ at) × (left ≡ out)
  last_line [] a e p h = put_nil p
  last_line (q ∷ qs) a e p h = absurd (omega (arith, part_some q a.0, ap length e, length-append q (joined qs)))

module _ {s out left : List ℕ} {at r : ℕ} (k : LinesLeft s out at r left) where
  pub lines_next : {end a₁ : ℕ} {o₁ : List ℕ} → 0 < length s → PartEnd s end → Put out at (hex_line (take end s)) a₁ o₁ → LinesLeft (drop end s) o₁ a₁ r left
  lines_next h w l = first-line s k.parts k.are k.bytes k.lines h w l

  pub lines_end : length s ≤ 0 → (r ≡ at) × (left ≡ out)
  lines_end h = last_line s k.parts k.are k.bytes k.lines h
