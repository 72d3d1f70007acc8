-- How many bytes the values of a reply take: at most three for each of its characters and one more.
use mathlib.Core.Path.{◌≡◌, refl}
use mathlib.Core.Bool.{Bool, true, false}
use mathlib.Core.List.{List, [], ◌∷◌, map}
use mathlib.Core.Option.{get_or}
use Prim.Native.Nat.{ℕ, zero, suc, ◌+◌, ◌-◌, ◌*◌, ◌≤◌}
use native.Mathlib.Nat.{mul-suc, mul-le-mul}
use native.Mathlib.Omega.{arith}
use lib.Dec.{eqb, ltb}
use lib.ListN.{length, take, drop, length-append, length-drop}
use lib.Seq.{length-take-le}
use borrow.Author.Tests.{ltb-true, ltb-false}
use Rattle.wire.specs.Text.{passing}
use Rattle.wire.proofs.Cases.{by_test, from_no}
use Rattle.hex_text.specs.Read.{hex_number, pair_bytes}
use Rattle.pid.specs.Lengths.{length_in}
use Rattle.group.specs.Group.{group_bytes}
use Rattle.group.proofs.GroupLaws.{group_bytes_small, group_bytes_two}
use Rattle.value.specs.Values.{Value, value, value_format, values_bytes}
use Rattle.value.proofs.ValueLaws.{value-length}
use Rattle.reply_lines.specs.Lines.{onto, split_cr, trimmed, stays, text_lines, characters}
use Rattle.reply_lines.specs.Decode.{text_line, lines_of_reply}
use Rattle.reply_lines.proofs.DecodeLaws.{characters-length, pairs_half, line_ecu}
use Rattle.reply_lines.proofs.TurnLaws.{trimmed_fits}
use Rattle.reply_values.specs.Values.{span_of, walk, walked, line_values, values_of}
use Rattle.reply_values.proofs.WalkLaws.{span_within, bytes_append}

-- Values

-- beside ECU+1 a value has at most four bytes for its PID and for each byte of its data
value_size_lem : (v : Value) → length v.bytes ≤ 4096 → length (value_format.write v) ≤ 4 * suc (length v.bytes) + length (group_bytes v.ecu)
value_size_lem v h = omega (arith, value-length v, number (length v.bytes) h) where
  number : (n : ℕ) → n ≤ 4096 → length (group_bytes (2 + n)) ≤ 1 + 3 * n
  number n h =
      by_test (ltb (2 + n) 128)
      (λ t. rw (group_bytes_small (2 + n) (ltb-true (2 + n) 128 t)) (omega arith))
      (λ t. omega (arith, group_bytes_two (2 + n) (omega arith), ltb-false (2 + n) 128 t))

walk-few : (f : ℕ) (lengths : List ℕ) (e : ℕ) (s : List ℕ) → length (walk f lengths e s) ≤ length s
walk-few zero lengths e s = omega arith
walk-few (suc f) lengths e [] = omega arith
walk-few (suc f) lengths e (p ∷ s) = let n = span_of (length_in lengths p) (length s) in omega (arith, walk-few f lengths e (drop n s), length-drop n s)

walk_size : (f : ℕ) (lengths : List ℕ) (e : ℕ) (s : List ℕ) → length s ≤ 4096 →
    length (values_bytes (walk f lengths e s)) ≤ 4 * length s + length (group_bytes e) * length (walk f lengths e s)
walk_size zero lengths e s h = omega arith
walk_size (suc f) lengths e [] h = omega arith
walk_size (suc f) lengths e (p ∷ s) h =
    let n = span_of (length_in lengths p) (length s) in
    let v = value p e (take n s) in
    let rest = walk f lengths e (drop n s) in
    let fits = span_within (length_in lengths p) (length s) in
    let size = length-take-le n s fits in
    let left = length-drop n s in
    let first = value_size_lem v (omega arith) in
    let others = walk_size f lengths e (drop n s) (omega arith) in
    omega (arith, length-append (value_format.write v) (values_bytes rest), mul-suc (length (group_bytes e)) (length rest))

-- Lines

-- nothing is written of 41, and a value has a byte at least
line_size_lem : (lengths : List ℕ) (e : ℕ) (l : List ℕ) (g : ℕ) → length l ≤ 4096 → length (group_bytes e) ≤ g →
    length (values_bytes (line_values lengths e l)) ≤ 4 * (length l - 1) + g * (length l - 1)
unfolding walked
line_size_lem lengths e [] g h k = omega arith
line_size_lem lengths e (m ∷ s) g h k =
    let one : suc (length s) - 1 ≡ length s = omega arith in
    rw one
    (by_test (eqb m 0x41)
    (λ t. rw t (omega (arith, walk_size (length s) lengths e s (omega arith), mul-le-mul k (walk-few (length s) lengths e s))))
    (λ t. rw t (omega arith)))

-- a line gives three bytes for each of its characters, and three for its CR
text_size : (lengths : List ℕ) (framing : Bool) (s : List ℕ) → length s ≤ 4096 →
    let l = text_line framing s in length (values_bytes (line_values lengths l.ecu l.bytes)) ≤ 3 * suc (length s)
unfolding text_line
text_size lengths false s h =
    let chars = characters s in
    let few = characters-length s in
    let half = pairs_half chars in
    omega (arith, line_size_lem lengths 0 (pair_bytes chars) 1 (omega arith) (rw (group_bytes_small 0 (omega arith)) (omega arith)))
text_size lengths true s h =
    let chars = characters s in
    let few = characters-length s in
    by_test (ltb (length chars) 5)
    (λ t.
    let short = ltb-true (length chars) 5 t in
    rw t (omega (arith, line_size_lem lengths 0 chars 1 (omega arith) (rw (group_bytes_small 0 (omega arith)) (omega arith)))))
    (λ t.
    let ecu = suc (get_or (hex_number (take 3 chars)) 0) in
    let known : ecu ≤ 4096 = rw t at (line_ecu true s) in
    let half = pairs_half (drop 5 chars) in
    let left = length-drop 5 chars in
    rw t (omega (arith, line_size_lem lengths ecu (pair_bytes (drop 5 chars)) 2 (omega arith) (group_bytes_two ecu (omega arith)))))

-- Replies

-- texts, each with a CR
abbrev sizes : List (List ℕ) → ℕ
sizes [] = 0
sizes (s ∷ ss) = suc (length s) + sizes ss

texts_size : (lengths : List ℕ) (framing : Bool) (ss : List (List ℕ)) → sizes ss ≤ 4097 →
    length (values_bytes (values_of lengths (map (text_line framing) ss))) ≤ 3 * sizes ss
texts_size lengths framing [] h = omega arith
texts_size lengths framing (s ∷ ss) h =
    let l = text_line framing s in
    let first = line_values lengths l.ecu l.bytes in
    let others = values_of lengths (map (text_line framing) ss) in
    rw (bytes_append first others)
    (omega (arith, length-append (values_bytes first) (values_bytes others), text_size lengths framing s (omega arith), texts_size lengths framing ss (omega arith)))

-- the lines between CRs have a reply's characters, and those that stay have no more
split_some : (s : List ℕ) → split_cr s ≡ [] → ⊥
split_some [] q = from_no cc
split_some (c ∷ s) q =
    by_test (eqb c 13)
    (λ t. let q₁ = rw t at q in from_no cc)
    (λ t. some (split_cr s) (rw t at q))
  where
    some : (ss : List (List ℕ)) → onto c ss ≡ [] → ⊥
    some [] q = from_no cc
    some (l ∷ ss) q = from_no cc

onto_size : (c : ℕ) (ss : List (List ℕ)) → (ss ≡ [] → ⊥) → sizes (onto c ss) ≡ suc (sizes ss)
onto_size c [] h = absurd (h refl)
onto_size c (s ∷ ss) h = omega arith

split_size : (s : List ℕ) → sizes (split_cr s) ≡ suc (length s)
split_size [] = refl
split_size (c ∷ s) =
    by_test (eqb c 13)
    (λ t. rw t (omega (arith, split_size s)))
    (λ t. rw t (omega (arith, onto_size c (split_cr s) (split_some s), split_size s)))

staying_size : (ss : List (List ℕ)) → sizes (passing stays (map trimmed ss)) ≤ sizes ss
staying_size [] = omega arith
staying_size (s ∷ ss) =
    by_test (stays (trimmed s))
    (λ t. rw t (omega (arith, staying_size ss, trimmed_fits s)))
    (λ t. rw t (omega (arith, staying_size ss)))

-- the values of a reply
pub reply_size_lem : (lengths : List ℕ) (framing : Bool) (reply : List ℕ) → length reply ≤ 4096 →
    length (values_bytes (values_of lengths (lines_of_reply framing reply))) ≤ 3 * suc (length reply)
unfolding lines_of_reply text_lines
reply_size_lem lengths framing reply h =
    let few = staying_size (split_cr reply) in
    let all = split_size reply in
    omega (arith, texts_size lengths framing (passing stays (map trimmed (split_cr reply))) (omega arith))
