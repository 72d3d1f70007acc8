use mathlib.Core.Path.{sym, ap, ◌∙◌}
use native.Mathlib.Omega.{arith}
use Rattle.wire.specs.Answer.{count_answer}
use Rattle.wire.proofs.TryLaws.{passed_on}
use Rattle.reply.proofs.SizeLaws.{ending_short, size_none, size_start, size_line, size_short, size_end, size_bad, size_full}
use Rattle.line_list.proofs.StepLaws.{step_line, step_end, step_none}
use Rattle.reply.proofs.reply_size.Goals as goal

pub returns-then-is_empty : goal.returns-then-is_empty
returns-then-is_empty c = rw c.ending_size-ending.ensures (size_none _ _ _ _ (sym c.if-is_empty.ensures))

pub loop-init : goal.loop-init
loop-init c = record {
  short = omega (arith, ending_short c.args.style.linefeeds, c.ending_size-ending.ensures);
  sum = rw c.ending_size-ending.ensures (size_start _ _ _ _ _ (sym c.if-is_empty.ensures) c.new-cursor.ensures);
}

pub returns-in_err-line : goal.returns-in_err-line
returns-in_err-line c =
    let loop = c.loop in
    let n = step_none _ _ _ c.in_err-line.ensures in
    ap count_answer (passed_on c.from_residual.ensures) ∙ sym (size_bad _ _ _ _ loop.size loop.counter _ n.0 n.1) ∙ loop.invariant.sum

pub returns-in_default : goal.returns-in_default
returns-in_default c =
    let loop = c.loop in
    sym (size_end _ _ _ _ loop.size loop.counter _ (step_end _ _ (rw c.in_default.is at c.in_ok-line.ensures))) ∙ loop.invariant.sum

pub overflow_sub-line : goal.overflow_sub-line
overflow_sub-line c = (step_line _ _ (rw c.in-Some.is at c.in_ok-line.ensures)).ordered

pub line_size-size-requires : goal.line_size-size-requires
line_size-size-requires c = (step_line _ _ (rw c.in-Some.is at c.in_ok-line.ensures)).short

pub overflow_add-size-in-loop : goal.overflow_add-size-in-loop
overflow_add-size-in-loop c =
    let style = c.args.style in
    let line = step_line _ _ (rw c.in-Some.is at c.in_ok-line.ensures) in
    omega (arith, size_short style.linefeeds style.spaces style.headers _ _ _ _ _ _ line c.line_size-size.ensures)

pub loop-preserved : goal.loop-preserved
loop-preserved c =
    let loop = c.loop in
    let style = c.args.style in
    let line = step_line _ _ (rw c.in-Some.is at c.in_ok-line.ensures) in
    record {
      short = omega (arith, size_short style.linefeeds style.spaces style.headers _ _ _ _ _ _ line c.line_size-size.ensures);
      sum = sym (size_line _ _ _ _ loop.size loop.counter _ _ _ _ _ line c.line_size-size.ensures c.loop-test.true) ∙ loop.invariant.sum;
    }

pub returns : goal.returns
returns c = let loop = c.loop in sym (size_full _ _ _ _ loop.size loop.counter _ c.loop-test.false c.if-list-cursor.false) ∙ loop.invariant.sum
