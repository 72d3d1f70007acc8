-- Laws of things at positions: what a step over a row finds and tells its callers, and how the row goes on from there.
use mathlib.Core.Path.{◌≡◌, refl, sym, ap, ◌∙◌}
use mathlib.Core.List.{List, [], ◌∷◌, ◌++◌}
use mathlib.Core.Option.{Option, none, some}
use Prim.Native.Nat.{ℕ, zero, suc, ◌+◌, ◌-◌, ◌≤◌, ◌<◌}
use native.Mathlib.Omega.{arith}
use lib.ListN.{length, take, drop, length-append, length-drop, drop_of_length-le}
use lib.Seq.{drop-cons, drop-drop, take_at}
use Rattle.wire.specs.Answer.{Answer, result, refused}
use Rattle.wire.proofs.Cases.{from_no}
use Rattle.wire.proofs.ListLaws.{Ends}
use Rattle.group.specs.Group.{Read, got, failed, malformed, and_then}
use Rattle.group.specs.Format.{Format, read_all, answer_of, step_of}
use Rattle.group.proofs.GroupLaws.{then_got}
use Rattle.group.proofs.FormatLaws.{Lawful, Some, all_more, enough}

-- What follows a part of the bytes from a position on stands at a position.
pub ends_at : (s : List ℕ) (at : ℕ) (t : List ℕ) → at ≤ length s → Ends (drop at s) t → t ≡ drop (length s - length t) s
ends_at s at t h e =
    let place : at + (length (drop at s) - length t) ≡ length s - length t = omega (arith, e.0, length-drop at s) in
    e.1 ∙ drop-drop (length (drop at s) - length t) at s ∙ ap (λ n. drop n s) place

-- A thing stands at a position, and ends at the next.
pub record ThingAt {A : Type 0} (f : Format A) (s : List ℕ) (at : ℕ) (x : A) (next : ℕ) : Type 0 where
  pub after : at < next
  pub inside : next ≤ length s
  pub reads : f.read (drop at s) ≡ got x (drop next s)

module _ {A : Type 0} {f : Format A} (l : Lawful f) (some : Some f) (s : List ℕ) (at : ℕ) where
  pub thing_at : (x : A) (rest : List ℕ) → f.read (drop at s) ≡ got x rest → ThingAt f s at x (length s - length rest)
  thing_at x rest q =
      let less = some (drop at s) x rest q in
      let size = length-drop at s in
      record {
        after = omega arith;
        inside = omega arith;
        reads = q ∙ ap (got x) (ends_at s at rest (omega arith) (l.ends (drop at s) x rest q));
      }

pub thing_is : {A : Type 0} {f : Format A} {s : List ℕ} {at : ℕ} {x y : A} {m n : ℕ} → x ≡ y → m ≡ n → ThingAt f s at x m → ThingAt f s at y n
thing_is e p w = rw (← e, ← p) w

-- Some data that stand before what is left: where they start and end.
pub data_at : (s : List ℕ) (at : ℕ) (d rest : List ℕ) {start next : ℕ} → at < length s → Ends (drop at s) (d ++ rest) → length s - length rest - length d ≡ start →
    length s - length rest ≡ next → (start ≤ next) × (length d ≡ next - start) × (d ≡ take (next - start) (drop start s))
data_at s at d rest {start} {next} h e p q =
    let size = length-append d rest in
    let all = length-drop at s in
    let place : length s - length (d ++ rest) ≡ start = omega arith in
    let span : length d ≡ next - start = omega (arith, e.0) in
    let body : d ++ rest ≡ drop start s = ends_at s at (d ++ rest) (omega arith) e ∙ ap (λ n. drop n s) place in
    (omega arith, span, sym (ap (take (next - start)) (sym body) ∙ take_at d rest (next - start) span))

-- What a step answers, and what its answer tells

pub of_got : {A P : Type 0} (place : A → List ℕ → P) (g : Read A) {r : P} → answer_of place g ≡ result r → (x : A) × (rest : List ℕ) × (g ≡ got x rest) × (place x rest ≡ r)
of_got place (failed j) q = from_no cc
of_got place (got x rest) q = (x, rest, refl, cc)

pub of_refused : {A P : Type 0} (place : A → List ℕ → P) (g : Read A) {j : ℕ} → answer_of place g ≡ refused j → g ≡ failed j
of_refused place (failed k) q = ap failed (cc)
of_refused place (got x rest) q = from_no cc

module _ {A P : Type 0} (place : A → List ℕ → P) (f : Format A) where
  abbrev found : A → List ℕ → Option P
  found x rest = some (place x rest)

  step_more : (t : List ℕ) → 0 < length t → step_of f place t ≡ answer_of found (f.read t)
  step_more [] h = absurd (omega arith)
  step_more (b ∷ t) h = refl

  pub at_end : (s : List ℕ) (at : ℕ) → length s ≤ at → step_of f place (drop at s) ≡ result none
  at_end s at h = rw (drop_of_length-le s h)

  pub at_more : (s : List ℕ) (at : ℕ) → at < length s → step_of f place (drop at s) ≡ answer_of found (f.read (drop at s))
  at_more s at h = step_more (drop at s) (omega (arith, length-drop at s))

  of_step : (t : List ℕ) {r : P} → step_of f place t ≡ result (some r) → (x : A) × (rest : List ℕ) × (f.read t ≡ got x rest) × (place x rest ≡ r)
  of_step [] q = from_no cc
  of_step (b ∷ t) q = let (x, rest, g, e) = of_got found (f.read (b ∷ t)) q in (x, rest, g, cc)

  of_none : (t : List ℕ) {j : ℕ} → step_of f place t ≡ refused j → (0 < length t) × (f.read t ≡ failed j)
  of_none [] q = from_no cc
  of_none (b ∷ t) q = (omega arith, of_refused found (f.read (b ∷ t)) q)

  pub step_none : (s : List ℕ) (at : ℕ) {j : ℕ} → step_of f place (drop at s) ≡ refused j → (at < length s) × (f.read (drop at s) ≡ failed j)
  step_none s at q = let (h, g) = of_none (drop at s) q in (omega (arith, length-drop at s), g)

  of_stop : (t : List ℕ) → step_of f place t ≡ result none → length t ≡ 0
  of_stop [] q = refl
  of_stop (b ∷ t) q = let (x, rest, g, e) = of_got found (f.read (b ∷ t)) q in from_no cc

  pub step_end : (s : List ℕ) (at : ℕ) → step_of f place (drop at s) ≡ result none → length s ≤ at
  step_end s at q = omega (arith, length-drop at s, of_stop (drop at s) q)

  pub step_thing : Lawful f → Some f → (s : List ℕ) (at : ℕ) {r : P} → step_of f place (drop at s) ≡ result (some r) →
      (x : A) × (rest : List ℕ) × (f.read (drop at s) ≡ got x rest) × ThingAt f s at x (length s - length rest) × (place x rest ≡ r)
  step_thing l least s at q =
      let (x, rest, g, e) = of_step (drop at s) q in
      (x, rest, g, thing_at l least s at x rest g, e)

-- How a row of at most n things goes on from a position

module _ {A : Type 0} (f : Format A) where
  pub left_end : (n : ℕ) (s : List ℕ) (at : ℕ) → length s ≤ at → read_all f n (drop at s) ≡ got [] []
  left_end zero s at h = rw (drop_of_length-le s h)
  left_end (suc n) s at h = rw (drop_of_length-le s h)

  -- after as many things as a row may have there is no other
  pub left_full : (s : List ℕ) (at : ℕ) → at < length s → read_all f zero (drop at s) ≡ malformed
  left_full s at h = rw (drop-cons s at 0 h)

  pub left_none : (n : ℕ) (s : List ℕ) (at : ℕ) {j : ℕ} → 0 < n → at < length s → f.read (drop at s) ≡ failed j → read_all f n (drop at s) ≡ failed j
  left_none zero s at h k q = absurd (omega arith)
  left_none (suc n) s at h k q = all_more f n (drop at s) (omega (arith, length-drop at s)) ∙ rw q

  -- also where there may be no other
  pub left_fails : (n : ℕ) (s : List ℕ) (at : ℕ) {j : ℕ} → at < length s → f.read (drop at s) ≡ failed j → (k : ℕ) × (read_all f n (drop at s) ≡ failed k)
  left_fails zero s at h q = (5, left_full s at h)
  left_fails (suc n) s at {j} h q = (j, left_none (suc n) s at (omega arith) h q)

-- Of a row that was read whole: at the end nothing is left, and no step is refused.
module _ {A : Type 0} (f : Format A) (n : ℕ) (s : List ℕ) (at : ℕ) (xs : List A) (rest : List ℕ) (q : read_all f n (drop at s) ≡ got xs rest) where
  pub checked_end : length s ≤ at → xs ≡ []
  checked_end h = let e = left_end f n s at h in cc

  pub checked_none : {j : ℕ} → at < length s → f.read (drop at s) ≡ failed j → ⊥
  checked_none h p = let (k, e) = left_fails f n s at h p in from_no cc

module _ {A : Type 0} {f : Format A} (s : List ℕ) (at : ℕ) {x : A} {next : ℕ} (w : ThingAt f s at x next) where
  pub left_thing : (n : ℕ) → read_all f (suc n) (drop at s) ≡ and_then (read_all f n (drop next s)) (λ xs t. got (x ∷ xs) t)
  left_thing n = all_more f n (drop at s) (omega (arith, length-drop at s, w.after, w.inside)) ∙ rw w.reads

  -- of a row that was read whole, a thing at a position is the first of those that are left
  pub checked_thing : (n : ℕ) (xs : List A) (rest : List ℕ) → read_all f n (drop at s) ≡ got xs rest →
      (m : ℕ) × (ys : List A) × (n ≡ suc m) × (xs ≡ x ∷ ys) × (read_all f m (drop next s) ≡ got ys rest)
  checked_thing zero xs rest q = let z = left_full f s at (omega (arith, w.after, w.inside)) in from_no cc
  checked_thing (suc m) xs rest q =
      let (ys, t, p, k) = then_got (read_all f m (drop next s)) _ xs rest (sym (left_thing m) ∙ q) in
      (m, ys, refl, cc, p ∙ ap (got ys) (cc))

-- The things from a position on, however many
unfoldable pub from : {A : Type 0} → Format A → List ℕ → ℕ → Read (List A)
from f s at = read_all f (length (drop at s)) (drop at s)

module _ {A : Type 0} (f : Format A) (s : List ℕ) (at : ℕ) where
  pub from_start : at ≡ 0 → from f s at ≡ read_all f (length s) s
  unfolding from
  from_start e = rw e

  pub from_end : length s ≤ at → from f s at ≡ got [] []
  unfolding from
  from_end h = left_end f (length (drop at s)) s at h

  pub from_none : {j : ℕ} → at < length s → f.read (drop at s) ≡ failed j → from f s at ≡ failed j
  unfolding from
  from_none h q = left_none f (length (drop at s)) s at (omega (arith, length-drop at s)) h q

module _ {A : Type 0} {f : Format A} (l : Lawful f) (some : Some f) (s : List ℕ) (at : ℕ) {x : A} {next : ℕ} (w : ThingAt f s at x next) where
  pub from_thing : from f s at ≡ and_then (from f s next) (λ xs t. got (x ∷ xs) t)
  unfolding from
  from_thing =
      let n = length (drop at s) in
      let less : length (drop next s) ≤ n = omega (arith, w.after, length-drop at s, length-drop next s) in
      enough l some n (suc n) (drop at s) (omega arith) (omega arith) ∙
      left_thing s at w n ∙
      rw (enough l some n (length (drop next s)) (drop next s) less (omega arith))

-- A walk over a row that was read whole: these things are ahead at a position.
abbrev pub Ahead : {A : Type 0} → Format A → List ℕ → ℕ → List A → Type 0
Ahead f s at xs = from f s at ≡ got xs []

module _ {A : Type 0} (f : Format A) (s : List ℕ) (at : ℕ) (xs : List A) (h : Ahead f s at xs) where
  pub ahead_end : length s ≤ at → xs ≡ []
  ahead_end k = let e = from_end f s at k in cc

  pub ahead_none : {j : ℕ} → at < length s → f.read (drop at s) ≡ failed j → ⊥
  ahead_none k g = let e = from_none f s at k g in from_no cc

  pub ahead_thing : Lawful f → Some f → {x : A} {next : ℕ} → ThingAt f s at x next → (ys : List A) × (xs ≡ x ∷ ys) × Ahead f s next ys
  ahead_thing l least {x} {next} w =
      let (ys, t, g, k) = then_got (from f s next) _ xs [] (sym (from_thing l least s at w) ∙ h) in
      (ys, cc, g ∙ ap (got ys) (cc))

-- The answer when n things have been counted, and the others are read as said
abbrev pub counted_from : {A : Type 0} → ℕ → Read (List A) → Answer ℕ
counted_from n g = answer_of (λ xs rest. n + length xs) g

pub counted-zero : {A : Type 0} (g : Read (List A)) → counted_from 0 g ≡ answer_of (λ xs rest. length xs) g
counted-zero (failed j) = refl
counted-zero (got xs rest) = let e : 0 + length xs ≡ length xs = omega arith in ap result e

pub counted_one : {A : Type 0} (n : ℕ) (x : A) (g : Read (List A)) → counted_from n (and_then g (λ xs t. got (x ∷ xs) t)) ≡ counted_from (n + 1) g
counted_one n x (failed j) = refl
counted_one n x (got xs rest) = let e : n + suc (length xs) ≡ n + 1 + length xs = omega arith in ap result e

pub counted_end : (n : ℕ) → ◌≡◌ {A = Answer ℕ} (result (n + 0)) (result n)
counted_end n = let e : n + 0 ≡ n = omega arith in ap result e
