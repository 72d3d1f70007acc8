-- Lengths that were learned in a run agree with the run's own, so the client's walk finds what the table alone would.
use mathlib.Core.Path.{◌≡◌, refl, sym, ap, ◌∙◌}
use mathlib.Core.Bool.{not}
use mathlib.Core.List.{List, [], ◌∷◌, ◌++◌}
use mathlib.Core.Option.{Option, none, some}
use Prim.Native.Nat.{ℕ, ◌<◌}
use native.Mathlib.Omega.{arith}
use lib.Dec.{eqb, ltb, leb}
use lib.ListN.{length, take, drop, get_or, set, length-append, length-set}
use lib.Seq.{drop-append_seam, drop-length, get_or-set_same, get_or-set_other}
use borrow.Author.Tests.{eqb-true, eqb-false}
use Rattle.wire.specs.Text.{any}
use Rattle.wire.proofs.Cases.{by_test, from_no}
use Rattle.wire.proofs.All.{Bytes}
use Rattle.group.proofs.GroupLaws.{bytes_append}
use Rattle.pid.specs.J1979.{j1979}
use Rattle.pid.specs.Lengths.{mode01_lengths, length_in, entry_length, unknown}
use Rattle.pid.proofs.TableLaws.{table_length, table_right}
use Rattle.line_list.specs.Lines.{Line}
use Rattle.value.specs.Values.{value}
use Rattle.reply_values.specs.Values.{span_of, walked, values_of}
use Rattle.reply_values.specs.Learn.{shown_by, shown_lengths, agreed, with_length, learn_length}
use Rattle.reply_values.proofs.WalkLaws.{walked-nil, walked-cons}
use Rattle.line_list.proofs.LineLaws.{AllBytes}
use Rattle.agreement.specs.Lines.{PidValues, end, next, LineData, alone, table, GoodLines}

-- The lengths that a session knows: the table's as they are, and of a PID outside it none or the run's.
pub record Agree (L : ℕ → ℕ) (lengths : List ℕ) : Type 0 where
  pub known : (p n : ℕ) → p < 256 → j1979 p ≡ some n → length_in lengths p ≡ some n
  pub learned : (p n : ℕ) → p < 256 → j1979 p ≡ none → length_in lengths p ≡ some n → n ≡ L p
  pub size : length lengths ≡ 256

-- a fresh session's do
pub agree_fresh : (L : ℕ → ℕ) → Agree L mode01_lengths
agree_fresh L = record {
  known = λ p n h e. table_right p h ∙ e;
  learned = λ p n h e f. from_no (cc (table_right p h));
  size = table_length;
}

-- a first value of n bytes
walk_first : (lengths : List ℕ) (e p n : ℕ) (s : List ℕ) → span_of (length_in lengths p) (length s) ≡ n → walked lengths e (p ∷ s) ≡ value p e (take n s) ∷ walked lengths e (drop n s)
walk_first lengths e p n s h = walked-cons lengths e p s ∙ ap (λ k. value p e (take k s) ∷ walked lengths e (drop k s)) h

span_known : (o : Option ℕ) (d s r : List ℕ) → o ≡ some (length d) → r ≡ d ++ s → span_of o (length r) ≡ length d
span_known o d s r h q = rw (h, q) (omega (arith, length-append d s))

module _ (L : ℕ → ℕ) (lengths : List ℕ) (a : Agree L lengths) (e : ℕ) where
  walk_parts : {s : List ℕ} → Bytes s → PidValues s → walked lengths e s ≡ walked mode01_lengths e s
  walk_parts b end = walked-nil lengths e ∙ sym (walked-nil mode01_lengths e)
  walk_parts b (next p d s r h q t) =
      let bs : Bytes s = (bytes_append d s (rw q at b.1)).1 in
      let rest : drop (length d) r ≡ s = ap (drop (length d)) q ∙ drop-append_seam d s in
      walk_first lengths e p (length d) r (span_known (length_in lengths p) d s r (a.known p (length d) b.0 h) q) ∙
      ap (λ vs. value p e (take (length d) r) ∷ vs) (ap (walked lengths e) rest ∙ walk_parts bs t ∙ ap (walked mode01_lengths e) (sym rest)) ∙
      sym (walk_first mode01_lengths e p (length d) r (span_known (length_in mode01_lengths p) d s r (table_right p b.0 ∙ h) q))

  span_alone : (p : ℕ) (d : List ℕ) (o : Option ℕ) → p < 256 → j1979 p ≡ none → length d ≡ L p → length_in lengths p ≡ o → span_of o (length d) ≡ length d
  span_alone p d none b h i q = omega arith
  span_alone p d (some n) b h i q = let k = a.learned p n b h q in omega arith

  walk-line : {s : List ℕ} → Bytes s → LineData L s → walked lengths e s ≡ walked mode01_lengths e s
  walk-line b (table p r t) = walk_parts b t
  walk-line b (alone p d h i) =
      let none_left : drop (length d) d ≡ [] = drop-length d in
      let all : span_of (length_in mode01_lengths p) (length d) ≡ length d = rw (table_right p b.0 ∙ h) (omega arith) in
      walk_first lengths e p (length d) d (span_alone p d (length_in lengths p) b.0 h i refl) ∙
      ap (λ vs. value p e (take (length d) d) ∷ vs) (ap (walked lengths e) none_left ∙ walked-nil lengths e ∙ sym (ap (walked mode01_lengths e) none_left ∙ walked-nil mode01_lengths e)) ∙
      sym (walk_first mode01_lengths e p (length d) d all)

pub values_agree : (L : ℕ → ℕ) (lengths : List ℕ) → Agree L lengths → (ls : List Line) → GoodLines L ls → AllBytes ls → values_of lengths ls ≡ values_of mode01_lengths ls
values_agree L lengths a [] g b = refl
values_agree L lengths a (l ∷ ls) g b =
    let (s, q, t) = g.0 in
    let bs : Bytes (0x41 ∷ s) = rw q at b.0 in
    rw (q, walk-line L lengths a l.ecu bs.1 t, values_agree L lengths a ls g.1 b.1)

-- ---- a length learned from a reply to one PID is the run's

-- every length that the lines show is the run's
abbrev pub EachRight : (ℕ → ℕ) → ℕ → List ℕ → Type 0
EachRight L p [] = Unit {0}
EachRight L p (n ∷ ns) = (n ≡ L p) × EachRight L p ns

show_line : (L : ℕ → ℕ) (p : ℕ) (ns : List ℕ) {s : List ℕ} → j1979 p ≡ none → LineData L s → EachRight L p ns → EachRight L p (shown_by p (0x41 ∷ s) ++ ns)
show_line L p ns h (alone q d i j) r =
    by_test (eqb q p)
    (λ t.
    let same = eqb-true q p t in
    rw t (by_test (leb (length d) 255) (λ u. rw u (j ∙ ap L same, r)) (λ u. rw u r)))
    (λ t. rw t r)
show_line L p ns h (table q d (next q' d' s' r' i j t)) r =
    by_test (eqb q p)
    (λ t. let same = eqb-true q p t in from_no cc)
    (λ t. rw t r)

pub show_lines : (L : ℕ → ℕ) (p : ℕ) → j1979 p ≡ none → (ls : List Line) → GoodLines L ls → EachRight L p (shown_lengths p ls)
show_lines L p h [] g = tt
show_lines L p h (l ∷ ls) g =
    let (s, q, t) = g.0 in
    rw q (show_line L p (shown_lengths p ls) h t (show_lines L p h ls g.1))

-- so what they agree on is nothing, or the run's length
abbrev Right : (ℕ → ℕ) → ℕ → Option ℕ → Type 0
Right L p none = Unit {0}
Right L p (some n) = n ≡ L p

agreed-right : (L : ℕ → ℕ) (p : ℕ) (ns : List ℕ) → EachRight L p ns → Right L p (agreed ns)
agreed-right L p [] r = tt
agreed-right L p (n ∷ ns) r = by_test (any (λ m. not (eqb n m)) ns) (λ t. rw t tt) (λ t. rw t r.0)

entry : (n m : ℕ) → entry_length n ≡ some m → n ≡ m
entry n m q = by_test (ltb n unknown) (λ t. let r = rw t at q in cc) (λ t. let r = rw t at q in from_no cc)

kept : (L : ℕ → ℕ) (lengths : List ℕ) (p : ℕ) (o : Option ℕ) → p < 256 → j1979 p ≡ none → Right L p o → Agree L lengths → Agree L (with_length lengths p none o)
kept L lengths p none b h r a = a
kept L lengths p (some n) b h r a = record {
  known = λ q m c i. ap entry_length (get_or-set_other lengths p q n 0 (λ z. from_no cc)) ∙ a.known q m c i;
  learned = λ q m c i f.
      by_test (eqb q p)
      (λ t.
      let same = eqb-true q p t in
      let here : get_or (set lengths p n) p 0 ≡ n = get_or-set_same lengths p n 0 (omega (arith, a.size)) in
      let g : entry_length n ≡ some m = sym (ap entry_length (ap (λ x. get_or (set lengths p n) x 0) same ∙ here)) ∙ f in
      sym (entry n m g) ∙ r ∙ ap L (sym same))
      (λ t. a.learned q m c i (sym (ap entry_length (get_or-set_other lengths p q n 0 (eqb-false q p t))) ∙ f));
  size = length-set lengths p n ∙ a.size;
}

outside : (L : ℕ → ℕ) (lengths : List ℕ) (p : ℕ) (o : Option ℕ) → p < 256 → Agree L lengths → j1979 p ≡ o → length_in lengths p ≡ none → j1979 p ≡ none
outside L lengths p none b a i q = i
outside L lengths p (some n) b a i q = from_no (cc (a.known p n b i))

learned_by : (L : ℕ → ℕ) (lengths : List ℕ) (p : ℕ) (ns : List ℕ) (o : Option ℕ) → p < 256 → Agree L lengths → (j1979 p ≡ none → EachRight L p ns) → length_in lengths p ≡ o →
    Agree L (with_length lengths p o (agreed ns))
learned_by L lengths p ns (some n) b a r q = a
learned_by L lengths p ns none b a r q =
    let h = outside L lengths p (j1979 p) b a refl q in
    kept L lengths p (agreed ns) b h (agreed-right L p ns (r h)) a

pub learn_agree : (L : ℕ → ℕ) (lengths : List ℕ) (p : ℕ) (ls : List Line) → p < 256 → Agree L lengths → (j1979 p ≡ none → EachRight L p (shown_lengths p ls)) →
    Agree L (learn_length lengths p ls)
unfolding learn_length
learn_agree L lengths p ls b a r = learned_by L lengths p (shown_lengths p ls) (length_in lengths p) b a r refl
