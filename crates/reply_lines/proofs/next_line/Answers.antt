use Rattle.std.proofs.Common.{sym, ◌∙◌, arith}
use Rattle.reply_lines.proofs.ScanLaws.{cr_place}
use Rattle.reply_lines.proofs.TurnLaws.{cr_inside, text_fits, from-line, from_skip, from_end}
use Rattle.reply_lines.proofs.next_line.Goals as goal

pub overflow_add-cr : goal.overflow_add-cr
overflow_add-cr c = omega (arith, cr_inside _ _ _ c.loop-at-test.true (cr_place _ _ _ c.to_cr.ensures))

pub overflow_add-cr-in-loop-at : goal.overflow_add-cr-in-loop-at
overflow_add-cr-in-loop-at c = omega (arith, cr_inside _ _ _ c.loop-at-test.true (cr_place _ _ _ c.to_cr.ensures))

pub slice_bounds-trim_start-end : goal.slice_bounds-trim_start-end
slice_bounds-trim_start-end c = omega (arith, cr_inside _ _ _ c.loop-at-test.true (cr_place _ _ _ c.to_cr.ensures))

pub overflow_sub-start : goal.overflow_sub-start
overflow_sub-start c = omega (arith, text_fits _ _ _ c.loop-at-test.true (cr_place _ _ _ c.to_cr.ensures) _ c.trim_start-text.ensures)

pub returns-then-stays : goal.returns-then-stays
returns-then-stays c =
    sym (from-line _ _ _ c.loop-at-test.true (cr_place _ _ _ c.to_cr.ensures) _ c.min-next.ensures _ c.trim_start-text.ensures _
    c.trim_end-trimmed.ensures (sym c.stays.ensures ∙ c.if-stays.true)) ∙ c.loop-at.invariant

pub loop-at-preserved : goal.loop-at-preserved
loop-at-preserved c =
    sym (from_skip _ _ _ c.loop-at-test.true (cr_place _ _ _ c.to_cr.ensures) _ c.min-next.ensures _ c.trim_start-text.ensures _
    c.trim_end-trimmed.ensures (sym c.stays.ensures ∙ c.if-stays.false)) ∙ c.loop-at.invariant

pub returns : goal.returns
returns c = sym (from_end _ _ c.loop-at-test.false) ∙ c.loop-at.invariant
