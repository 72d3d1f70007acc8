-- Laws of the values of a line: the first and the others, without counting steps; and of the values of several lines.
use mathlib.Core.Path.{◌≡◌, refl, sym, ap, ◌∙◌}
use mathlib.Core.List.{List, [], ◌∷◌, ◌++◌, append_assoc}
use mathlib.Core.Option.{Option}
use Prim.Native.Nat.{ℕ, zero, suc, ◌-◌, ◌≤◌, ◌<◌}
use native.Mathlib.Omega.{arith}
use lib.Dec.{eqb}
use lib.ListN.{length, take, drop, get_or, length-drop}
use lib.Seq.{take_all}
use Rattle.wire.proofs.Cases.{by_test}
use Rattle.pid.specs.Lengths.{length_in}
use Rattle.line_list.specs.Lines.{Line}
use Rattle.value.specs.Values.{Value, value, value_format, values_bytes}
use Rattle.value.proofs.RecordLaws.{ValuesFit}
use Rattle.reply_values.specs.Values.{span_of, walk, walked, line_values, values_of}

-- enough steps are enough
walk-enough : (f g : ℕ) (lengths : List ℕ) (e : ℕ) (s : List ℕ) → length s ≤ f → length s ≤ g → walk f lengths e s ≡ walk g lengths e s
walk-enough zero zero lengths e s h i = refl
walk-enough zero (suc g) lengths e [] h i = refl
walk-enough zero (suc g) lengths e (p ∷ s) h i = absurd (omega arith)
walk-enough (suc f) zero lengths e [] h i = refl
walk-enough (suc f) zero lengths e (p ∷ s) h i = absurd (omega arith)
walk-enough (suc f) (suc g) lengths e [] h i = refl
walk-enough (suc f) (suc g) lengths e (p ∷ s) h i =
    let n = span_of (length_in lengths p) (length s) in
    ap (λ vs. value p e (take n s) ∷ vs) (walk-enough f g lengths e (drop n s) (omega (arith, length-drop n s)) (omega (arith, length-drop n s)))

-- no byte, no value
pub walked-nil : (lengths : List ℕ) (e : ℕ) → walked lengths e [] ≡ []
unfolding walked
walked-nil lengths e = refl

-- a PID's data, and the values after it
pub walked-cons : (lengths : List ℕ) (e p : ℕ) (s : List ℕ) →
    let n = span_of (length_in lengths p) (length s) in
    walked lengths e (p ∷ s) ≡ value p e (take n s) ∷ walked lengths e (drop n s)
unfolding walked
walked-cons lengths e p s =
    let n = span_of (length_in lengths p) (length s) in
    ap (λ vs. value p e (take n s) ∷ vs) (walk-enough (length s) (length (drop n s)) lengths e (drop n s) (omega (arith, length-drop n s)) (omega arith))

-- a PID's data ends with its line
pub span_within : (o : Option ℕ) (left : ℕ) → span_of o left ≤ left
span_within o left = omega arith

-- the first value of some bytes, and those after it; or none
pub walked_first : (lengths : List ℕ) (e : ℕ) (s : List ℕ) {n : ℕ} {own next : List ℕ} → 1 ≤ length s → let rest = take (length s - 1) (drop 1 s) in
    n ≡ span_of (length_in lengths (get_or s 0 0)) (length rest) → own ≡ take n rest → next ≡ drop n rest →
    walked lengths e s ≡ (value (get_or s 0 0) e own ∷ []) ++ walked lengths e next
walked_first lengths e [] h q d k = absurd (omega arith)
walked_first lengths e (p ∷ s) {n} {own} {next} h q d k =
    let same : take (suc (length s) - 1) s ≡ s = take_all (suc (length s) - 1) s (omega arith) in
    let size : n ≡ span_of (length_in lengths p) (length s) = q ∙ ap (λ t. span_of (length_in lengths p) (length t)) same in
    let first : own ≡ take (span_of (length_in lengths p) (length s)) s = d ∙ (λ i. take (size i) (same i)) in
    let later : next ≡ drop (span_of (length_in lengths p) (length s)) s = k ∙ (λ i. drop (size i) (same i)) in
    walked-cons lengths e p s ∙ sym (λ i. value p e (first i) ∷ walked lengths e (later i))

pub walked_none : (lengths : List ℕ) (e : ℕ) (s : List ℕ) → length s < 1 → walked lengths e s ≡ []
walked_none lengths e [] h = walked-nil lengths e
walked_none lengths e (p ∷ s) h = absurd (omega arith)

-- values as they are written, and then others
pub bytes_append : (vs ws : List Value) → values_bytes (vs ++ ws) ≡ values_bytes vs ++ values_bytes ws
bytes_append [] ws = refl
bytes_append (v ∷ vs) ws = ap (λ s. value_format.write v ++ s) (bytes_append vs ws) ∙ sym (append_assoc (value_format.write v) (values_bytes vs) (values_bytes ws))

-- every value has its line's ECU
abbrev pub FromEcu : ℕ → List Value → Type 0
FromEcu e [] = Unit {0}
FromEcu e (v ∷ vs) = (v.ecu ≡ e) × FromEcu e vs

walk_from : (f : ℕ) (lengths : List ℕ) (e : ℕ) (s : List ℕ) → FromEcu e (walk f lengths e s)
walk_from zero lengths e s = tt
walk_from (suc f) lengths e [] = tt
walk_from (suc f) lengths e (p ∷ s) = (refl, walk_from f lengths e (drop (span_of (length_in lengths p) (length s)) s))

pub line-from : (lengths : List ℕ) (e : ℕ) (l : List ℕ) → FromEcu e (line_values lengths e l)
unfolding walked
line-from lengths e [] = tt
line-from lengths e (m ∷ s) = by_test (eqb m 0x41) (λ t. rw t (walk_from (length s) lengths e s)) (λ t. rw t tt)

-- lines whose ECU+1 is at most 4,096 give values that can be read back
abbrev pub KnownEcus : List Line → Type 0
KnownEcus [] = Unit {0}
KnownEcus (l ∷ ls) = (l.ecu ≤ 4096) × KnownEcus ls

fit_append : {e : ℕ} → e ≤ 4096 → (vs ws : List Value) → FromEcu e vs → ValuesFit ws → ValuesFit (vs ++ ws)
fit_append k [] ws f h = h
fit_append k (v ∷ vs) ws f h = (omega (arith, f.0), fit_append k vs ws f.1 h)

pub values_fit : (lengths : List ℕ) (ls : List Line) → KnownEcus ls → ValuesFit (values_of lengths ls)
values_fit lengths [] h = tt
values_fit lengths (l ∷ ls) h = fit_append h.0 (line_values lengths l.ecu l.bytes) (values_of lengths ls) (line-from lengths l.ecu l.bytes) (values_fit lengths ls h.1)
