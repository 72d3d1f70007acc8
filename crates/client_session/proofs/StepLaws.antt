-- Laws of what the private steps do.
use mathlib.Core.Path.{◌≡◌, refl, sym, ap, ◌∙◌, subst}
use mathlib.Core.List.{List, []}
use Rattle.std.specs.Prelude.{Result, Err}
use Prim.Native.Nat.{ℕ, ◌≤◌}
use native.Mathlib.Omega.{arith}
use lib.ListN.{length}
use Rattle.wire.specs.declared.Refusal.{Refusal}
use Rattle.wire.specs.Answer.{Answer, result, refused, number}
use Rattle.wire.specs.Put.{Put}
use Rattle.wire.proofs.Cases.{from_no}
use Rattle.wire.proofs.PutLaws.{put_none}
use Rattle.client_session.specs.declared.ClientSession.{ClientSession}
use Rattle.client_session.specs.declared.ClientAnswer.{ClientAnswer}
use Rattle.client_session.specs.declared.ClientError.{ClientError}
use Rattle.client_session.specs.declared.ClientError.TheVariants as error
use Rattle.client_session.specs.declared.ClientStep.{ClientStep}
use Rattle.client_session.specs.Session.{Client}
use Rattle.client_session.specs.Call.{Progress, ClientSaid, ClientServed, client_lent, client_answer, client_step, RefusedOrFailed}
use Rattle.client_session.specs.Steps.{Does, Stepped, unchanged}

-- a call that does what is said, with room for its text, is what the host is to see
pub does_lent : {d : ClientSaid} {out : List ℕ} {s : ClientServed} → Does d out s → length d.text ≤ length out → s ≡ client_lent d out
does_lent {d} {out} {s} p h =
    let w : s.written ≡ length d.text = omega (arith, p.text.next) in
    λ i. record { answer = p.answer i; written = w i; next = p.next i; out = p.text.bytes i }

-- what is said in other words
pub does_as : {d e : ClientSaid} {out : List ℕ} {s : ClientServed} → d ≡ e → Does e out s → Does d out s
does_as {out} {s} q p = subst (λ (d : ClientSaid). Does d out s) (sym q) p

-- both
pub lent_as : {d e : ClientSaid} {out : List ℕ} {s : ClientServed} → d ≡ e → Does e out s → length d.text ≤ length out → s ≡ client_lent d out
lent_as q p h = does_lent (does_as q p) h

-- a call that sends a text, and one that sends nothing
pub does_sends : {c : Client} {a : Result ClientAnswer ClientError} {r : ClientStep} {n : ℕ} {x : Answer Progress} {t out left : List ℕ} → Stepped c a n r → client_answer a ≡ x → Put out 0 t n left →
    Does (record { answer = x; next = c; text = t }) out (client_step r left)
does_sends {t} {out} {left} p e put =
    record { answer = ap client_answer p.answer ∙ e; next = p.next; text = subst (λ (n : ℕ). Put out 0 t n left) (sym p.written) put }

pub does_end : {c : Client} {a : Result ClientAnswer ClientError} {r : ClientStep} {x : Answer Progress} {out : List ℕ} → Stepped c a 0 r → client_answer a ≡ x →
    Does (record { answer = x; next = c; text = [] }) out (client_step r out)
does_end {out} p e = does_sends p e (put_none out 0)

-- the session in other words
pub ends_as : {c d : Client} {a : Result ClientAnswer ClientError} {n : ℕ} {r : ClientStep} → c ≡ d → Stepped c a n r → Stepped d a n r
ends_as q p = record { answer = p.answer; written = p.written; next = p.next ∙ q }

-- ---- which of the two numbered answers is given: neither with a result, Refused with 1 to 6, and Failed with 7 and more

pub told_result : (r : ClientStep) {s : ClientSession} {p : Progress} → client_answer r.answer ≡ result p → RefusedOrFailed r s
told_result r {p = p} e = (
  λ q f. let w : refused (number q) ≡ result p = sym (ap client_answer f) ∙ e in from_no cc,
  λ q f. let w : refused (number q) ≡ result p = sym (ap client_answer f) ∙ e in from_no cc,
)

pub told_refused : {s : ClientSession} {q : Refusal} → number q ≤ 6 → RefusedOrFailed (unchanged s q) s
told_refused {q = q} h = (
  λ p e. let w : q ≡ p = cc in (subst (λ (x : Refusal). number x ≤ 6) w h, refl),
  λ p e. from_no cc,
)

pub told_failed : (r : ClientStep) {s : ClientSession} {q : Refusal} → r.answer ≡ Err (error.Failed q) → 7 ≤ number q → RefusedOrFailed r s
told_failed r {q = q} f h = (
  λ p e. from_no cc,
  λ p e. let w : q ≡ p = cc in subst (λ (x : Refusal). 7 ≤ number x) w h,
)
