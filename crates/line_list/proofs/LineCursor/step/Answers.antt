-- `line_list::LineCursor::step` meets its contract: each way out by the law of what stands at the position.
use mathlib.Core.Path.{sym, ap, ◌∙◌}
use native.Mathlib.Omega.{arith}
use Rattle.wire.proofs.TryLaws.{passed_on}
use Rattle.group.proofs.AtLaws.{number_at, refused_at}
use Rattle.line_list.specs.Answers.{list_step}
use Rattle.line_list.proofs.StepLaws.{at_end, at_no_ecu, at_no_size, at_no_data, at_data}
use Rattle.line_list.proofs.LineCursor.step.Goals as goal

pub returns-then-list-self : goal.returns-then-list-self
returns-then-list-self c = sym (at_end _ _ c.if-list-self.true)

pub returns-in_err-ecu : goal.returns-in_err-ecu
returns-in_err-ecu c = ap list_step (passed_on c.from_residual.ensures) ∙ sym (at_no_ecu _ _ c.if-list-self.false (refused_at 4096 _ _ _ c.in_err-ecu.ensures))

pub returns-in_err-size : goal.returns-in_err-size
returns-in_err-size c =
    ap list_step (passed_on c.from_residual-in_err-size.ensures) ∙
    sym (at_no_size _ _ _ _ (number_at 4096 _ _ c.in_ok-ecu.ensures) (refused_at 255 _ _ _ c.in_err-size.ensures))

pub overflow_sub-list : goal.overflow_sub-list
overflow_sub-list c = omega (arith, (number_at 255 _ _ c.in_ok-size.ensures).inside)

pub returns-then-list-start : goal.returns-then-list-start
returns-then-list-start c =
    sym (at_no_data _ _ _ _ (number_at 4096 _ _ c.in_ok-ecu.ensures) _ _ (number_at 255 _ _ c.in_ok-size.ensures) c.if-list-start.true)

pub overflow_cast-result : goal.overflow_cast-result
overflow_cast-result c = omega (arith, (number_at 4096 _ _ c.in_ok-ecu.ensures).within)

pub returns : goal.returns
returns c = sym (at_data _ _ _ _ (number_at 4096 _ _ c.in_ok-ecu.ensures) _ _ (number_at 255 _ _ c.in_ok-size.ensures) c.if-list-start.false)
