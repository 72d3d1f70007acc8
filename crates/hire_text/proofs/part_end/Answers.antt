use mathlib.Core.Path.{◌≡◌, subst}
use Prim.Native.Nat.{ℕ, ◌+◌, ◌-◌}
use native.Mathlib.Omega.{arith}
use Rattle.group.proofs.AtLaws.{number_at, none_at}
use Rattle.value.proofs.StepLaws.{step_value, step_end, step_none}
use Rattle.hire_text.proofs.PartLaws.{ValuesLeft, no_number, left_start, left-value, left_none, left-past, left_end}
use Rattle.hire_text.proofs.part_end.Goals as goal

pub returns-in_default : goal.returns-in_default
returns-in_default c = no_number _ (none_at _ _ _ _ (rw c.in_default.is at c.read_group.ensures))

pub loop-init : goal.loop-init
loop-init c =
    let all : c.in-Ok.values.value ≡ c.in-Ok.values.value - 0 = omega arith in
    subst (λ (n : ℕ). ValuesLeft c.args.bytes.now c.in-Ok.values.next n) all (left_start (number_at _ _ _ (rw c.in-Ok.is at c.read_group.ensures)))

pub loop-preserved : goal.loop-preserved
loop-preserved c =
    let here = step_value _ _ (rw (c.in-Ok-Some.is, c.in-Ok-Some.field-0-is) at c.step.ensures) in
    let fewer : (c.in-Ok.values.value - c.loop.counter) - 1 ≡ c.in-Ok.values.value - (c.loop.counter + 1) = omega arith in
    subst (λ (n : ℕ). ValuesLeft c.args.bytes.now c.in-Ok-Some.value.next.at n) fewer (left-value c.loop.invariant (omega (arith, c.loop-test.true)) here)

pub returns-in-Ok-None : goal.returns-in-Ok-None
returns-in-Ok-None c = left-past c.loop.invariant (omega (arith, c.loop-test.true)) (step_end _ _ (rw (c.in-Ok-None.is, c.in-Ok-None.field-0-is) at c.step.ensures))

pub returns-in-Err : goal.returns-in-Err
returns-in-Err c = left_none c.loop.invariant (omega (arith, c.loop-test.true)) (step_none _ _ _ (rw c.in-Err.is at c.step.ensures)).1

pub returns : goal.returns
returns c = left_end c.loop.invariant (omega (arith, c.loop-test.false))
