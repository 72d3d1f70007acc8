use mathlib.Core.Path.{sym, ap, ◌∙◌}
use Rattle.wire.specs.Answer.{count_answer}
use Rattle.wire.proofs.TryLaws.{passed_on}
use Rattle.line_list.proofs.StepLaws.{step_line, step_end, step_none}
use Rattle.line_list.proofs.CheckLaws.{count_start, count_line, count_end, count_none, count_full}
use Rattle.line_list.proofs.check_lines.Goals as goal

pub loop-lines-init : goal.loop-lines-init
loop-lines-init c = count_start _ _ c.new-cursor.ensures

pub returns-in_err-line : goal.returns-in_err-line
returns-in_err-line c =
    let n = step_none _ _ _ c.in_err-line.ensures in
    ap count_answer (passed_on c.from_residual.ensures) ∙ sym (count_none c.loop-lines.lines _ _ c.loop-lines-test.true n.0 n.1) ∙ c.loop-lines.invariant

pub returns-in_default : goal.returns-in_default
returns-in_default c =
    let loop = c.loop-lines in
    sym (count_end loop.lines _ _ (step_end _ _ (rw c.in_default.is at c.in_ok-line.ensures))) ∙ loop.invariant

pub loop-lines-preserved : goal.loop-lines-preserved
loop-lines-preserved c =
    let line = step_line _ _ (rw c.in-Some.is at c.in_ok-line.ensures) in
    sym (count_line c.loop-lines.lines _ _ _ _ _ c.loop-lines-test.true line) ∙ c.loop-lines.invariant

pub returns : goal.returns
returns c = sym (count_full c.loop-lines.lines _ _ c.loop-lines-test.false c.if-list-cursor.false) ∙ c.loop-lines.invariant
