-- Further commands: the code keeps no list of the commands handed out, and what it keeps does not depend on them.
use mathlib.Core.Path.{◌≡◌, refl, sym, ap, subst, ◌∙◌}
use mathlib.Core.Bool.{Bool, true, false, cond}
use mathlib.Core.List.{List}
use Prim.Native.Nat.{ℕ, zero, suc, ◌+◌, ◌<◌, ◌≤◌}
use native.Mathlib.Numerals.{add-one}
use native.Mathlib.Omega.{arith}
use lib.Dec.{ltb}
use lib.ListN.{length}
use borrow.Author.Tests.{lt-ltb, le-ltb}
use Rattle.bench.specs.declared.Work.{Work}
use Rattle.bench.specs.Run.{Round, round, later, onward}
use Rattle.bench.specs.Steps.{RoundStep, round_of, RoundDoes}

-- Two rounds with the same commands to come.
pub record Held (t u : Round) : Type 0 where
  pub answer : t.answer ≡ u.answer
  pub text : t.text ≡ u.text
  pub bench : t.bench ≡ u.bench

pub held_then : {t u v : Round} → Held t u → Held u v → Held t v
held_then p q = record { answer = p.answer ∙ q.answer; text = p.text ∙ q.text; bench = p.bench ∙ q.bench }

pub held_same : (t : Round) → Held t t
held_same t = record { answer = refl; text = refl; bench = refl }

-- what a round does is what the code holds
pub does_held : {t : Round} {r : RoundStep} {w : Work} → RoundDoes t r w → Held t (round_of r w)
does_held d = record { answer = sym d.answer; text = sym d.text; bench = sym d.bench }

pub held_does : {t : Round} {r : RoundStep} {w : Work} → Held t (round_of r w) → r.written ≤ length w.out → RoundDoes t r w
held_does h inside = record { answer = sym h.answer; text = sym h.text; bench = sym h.bench; inside = inside }

sending_held : (b : Bool) {t u x y : Round} → Held t u → Held x y → Held (cond b x t) (cond b y u)
sending_held true p q = q
sending_held false p q = p

pub onward-held : (n : ℕ) {t u : Round} (list : List ℕ) → Held t u → Held (onward n t list) (onward n u list)
onward-held zero list h = h
onward-held (suc n) {t} {u} list h =
    let o : onward n (round t.bench t.text list) list ≡ onward n (round u.bench u.text list) list = λ i. onward n (round (h.bench i) (h.text i) list) list in
    let more : Held (later t.handed (onward n (round t.bench t.text list) list)) (later u.handed (onward n (round u.bench u.text list) list)) =
    record { answer = ap (λ (v : Round). v.answer) o; text = ap (λ (v : Round). v.text) o; bench = ap (λ (v : Round). v.bench) o } in
    subst (λ a. Held (cond (ltb 0 (length a)) (later t.handed (onward n (round t.bench t.text list) list)) t) (onward (suc n) u list)) (sym h.text)
    (sending_held (ltb 0 (length u.text)) h more)

-- nothing more is sent
pub onward_stops : (n : ℕ) (t : Round) (list : List ℕ) → length t.text ≤ 0 → Held (onward n t list) t
onward_stops zero t list e = held_same t
onward_stops (suc n) t list e = rw (le-ltb 0 (length t.text) e) (held_same t)

-- one more command
one_goes : (n : ℕ) (t : Round) (list : List ℕ) → 0 < length t.text → Held (onward (suc n) t list) (onward n (round t.bench t.text list) list)
one_goes n t list e = rw (lt-ltb 0 (length t.text) e) (record { answer = refl; text = refl; bench = refl })

pub onward_goes : (n m : ℕ) (t : Round) (list : List ℕ) → n ≡ m + 1 → 0 < length t.text → Held (onward n t list) (onward m (round t.bench t.text list) list)
onward_goes n m t list h e = rw (h, add-one) (one_goes m t list e)

pub onward-ended : (n : ℕ) (t : Round) (list : List ℕ) → n ≤ 0 → Held (onward n t list) t
onward-ended zero t list h = held_same t
onward-ended (suc n) t list h = absurd (omega arith)
