use mathlib.Core.Path.{sym, ap, ◌∙◌}
use Prim.Native.Nat.{◌+◌, ◌-◌}
use native.Mathlib.Omega.{arith}
use Rattle.wire.specs.Answer.{count_answer}
use Rattle.wire.proofs.TryLaws.{passed_on}
use Rattle.line_list.proofs.StepLaws.{step_line, step_end, step_none}
use Rattle.bench.proofs.LinesLaws.{skip_line, skip_none, skip_end, skip_over}
use Rattle.bench.proofs.script.skip_lines.Goals as goal

pub returns-in_err-line : goal.returns-in_err-line
returns-in_err-line c =
    let none = step_none _ _ _ c.in_err-line.ensures in
    ap count_answer (passed_on c.from_residual.ensures) ∙ sym (skip_none (c.args.n - c.loop.counter) _ _ (omega (arith, c.loop-test.true)) none.1) ∙ c.loop.invariant.1

pub returns-in_default : goal.returns-in_default
returns-in_default c =
    let end = step_end _ _ (rw c.in_default.is at c.in_ok-line.ensures) in
    sym (skip_end (c.args.n - c.loop.counter) _ _ (omega (arith, c.loop-test.true)) end) ∙ c.loop.invariant.1

pub loop-preserved : goal.loop-preserved
loop-preserved c =
    let w = step_line _ _ (rw c.in-Some.is at c.in_ok-line.ensures) in
    (w.here.inside, sym (skip_line (c.args.n - c.loop.counter) (c.args.n - (c.loop.counter + 1)) _ _ _ _ _ (omega (arith, c.loop-test.true)) w) ∙ c.loop.invariant.1)

pub returns : goal.returns
returns c = sym (skip_over (c.args.n - c.loop.counter) _ _ (omega (arith, c.loop-test.false)) c.loop.invariant.0) ∙ c.loop.invariant.1
