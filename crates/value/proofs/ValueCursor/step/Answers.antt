-- `value::ValueCursor::step` meets its contract: one law for each way out.
use mathlib.Core.Path.{◌≡◌, sym, ap, ◌∙◌}
use Rattle.std.proofs.Common.{List, ℕ, ◌+◌, ◌<◌, length, Ok}
use Rattle.group.specs.Answers.{group_read, group_at}
use Rattle.group.specs.declared.GroupNumber.{GroupNumber}
use native.Mathlib.Omega.{arith}
use Rattle.wire.proofs.TryLaws.{passed_on}
use Rattle.value.specs.Answers.{value_step}
use Rattle.value.proofs.StepLaws.{at_end, at_no_ecu, at_no_length, at_few, at_past, at_no_41, at_other_pid, at_value, Sized}
use Rattle.group.proofs.AtLaws.{number_at, refused_at}
use Rattle.value.proofs.ValueCursor.step.Goals as goal

-- where ECU+1 and the length were read
sized : {s : List ℕ} {at : ℕ} {ecu len : GroupNumber} → at < length s →
    group_read (Ok ecu) ≡ group_at 4096 s (at + 1) → group_read (Ok len) ≡ group_at (length s) s ecu.next → Sized s at ecu.value ecu.next len.value len.next
sized here ecu len = record { here = here; ecu = number_at _ _ _ ecu; len = number_at _ _ _ len }

pub returns-then-values-self : goal.returns-then-values-self
returns-then-values-self c = sym (at_end _ _ c.if-values-self.true)

pub returns-in_err-ecu : goal.returns-in_err-ecu
returns-in_err-ecu c = ap value_step (passed_on c.from_residual.ensures) ∙ sym (at_no_ecu _ _ c.if-values-self.false (refused_at _ _ _ _ c.in_err-ecu.ensures))

pub returns-in_err-len : goal.returns-in_err-len
returns-in_err-len c =
    ap value_step (passed_on c.from_residual-in_err-len.ensures) ∙
    sym (at_no_length c.if-values-self.false (number_at _ _ _ c.in_ok-ecu.ensures) (refused_at _ _ _ _ c.in_err-len.ensures))

pub returns-then-len-lt2 : goal.returns-then-len-lt2
returns-then-len-lt2 c = sym (at_few (sized c.if-values-self.false c.in_ok-ecu.ensures c.in_ok-len.ensures) c.if-len-lt2.true)

pub overflow_sub-values : goal.overflow_sub-values
overflow_sub-values c = omega (arith, (number_at _ _ _ c.in_ok-len.ensures).inside)

pub returns-then-values-single : goal.returns-then-values-single
returns-then-values-single c = sym (at_past (sized c.if-values-self.false c.in_ok-ecu.ensures c.in_ok-len.ensures) c.if-values-single.true)

pub returns-then-values-single-ne65 : goal.returns-then-values-single-ne65
returns-then-values-single-ne65 c =
    sym (at_no_41 (sized c.if-values-self.false c.in_ok-ecu.ensures c.in_ok-len.ensures) c.if-len-lt2.false c.if-values-single.false c.if-values-single-ne65.true)

pub returns-then-values-single-2 : goal.returns-then-values-single-2
returns-then-values-single-2 c =
    sym (at_other_pid (sized c.if-values-self.false c.in_ok-ecu.ensures c.in_ok-len.ensures) c.if-len-lt2.false c.if-values-single.false c.if-values-single-ne65.false c.if-values-single-2.true)

pub overflow_cast-result : goal.overflow_cast-result
overflow_cast-result c = omega (arith, (number_at _ _ _ c.in_ok-ecu.ensures).within)

pub returns : goal.returns
returns c =
    sym (at_value (sized c.if-values-self.false c.in_ok-ecu.ensures c.in_ok-len.ensures) c.if-len-lt2.false c.if-values-single.false c.if-values-single-ne65.false c.if-values-single-2.false)
