use mathlib.Core.Path.{◌≡◌, refl, ◌∙◌}
use Rattle.std.specs.Prelude.{None, Ok}
use native.Mathlib.Omega.{arith}
use Rattle.reply.proofs.WriteLaws.{left_start, left_room, left-next, left_end, left_bad}
use Rattle.line_list.proofs.StepLaws.{step_line, step_end, step_none}
use Rattle.wire.proofs.PutLaws.{put_length}
use Rattle.reply.proofs.write_lines.Goals.{in_default, in_default-2}
use Rattle.reply.proofs.write_lines.Goals as goal

pub loop-line-init : goal.loop-line-init
loop-line-init c = record { size = refl; others = left_start _ _ _ _ _ _ c.requires c.new-cursor.ensures }

pub slice_bounds-put_line_text-count : goal.slice_bounds-put_line_text-count
slice_bounds-put_line_text-count c = (step_line _ _ (rw c.in-Ok-Some.field-0-is at c.in-Ok-Some.ensures)).ordered

pub slice_bounds-put_line_text-start : goal.slice_bounds-put_line_text-start
slice_bounds-put_line_text-start c = let line = step_line _ _ (rw c.in-Ok-Some.field-0-is at c.in-Ok-Some.ensures) in omega arith

pub slice_bounds-put_line_text-end : goal.slice_bounds-put_line_text-end
slice_bounds-put_line_text-end c = let line = step_line _ _ (rw c.in-Ok-Some.field-0-is at c.in-Ok-Some.ensures) in omega arith

pub put_line_text-at-requires : goal.put_line_text-at-requires
put_line_text-at-requires c =
    let k = c.requires in
    left_room _ _ _ _ _ (c.loop-line.invariant.others k.lines k.rest k.reads) _ _ _ (step_line _ _ (rw c.in-Ok-Some.field-0-is at c.in-Ok-Some.ensures))

pub loop-line-smaller : goal.loop-line-smaller
loop-line-smaller c = let line = step_line _ _ (rw c.in-Ok-Some.field-0-is at c.in-Ok-Some.ensures) in omega arith

pub loop-line-preserved : goal.loop-line-preserved
loop-line-preserved c =
    let loop = c.loop-line in
    record {
      size = put_length c.put_line_ending-at.ensures ∙ put_length c.put_line_text-at.ensures ∙ loop.invariant.size;
      others =
          λ ls rest q.
          left-next _ _ _ _ _ (loop.invariant.others ls rest q) _ _ _ (step_line _ _ (rw c.in-Ok-Some.field-0-is at c.in-Ok-Some.ensures)) c.put_line_text-at.ensures c.put_line_ending-at.ensures;
    }

pub returns : goal.returns
returns c =
    λ ls rest q.
    let left = c.loop-line.invariant.others ls rest q in
    elim c.match-step.branch [
      | in_default w ↦
          let over : c.step.result ≡ Ok None = cc in
          let end = left_end _ _ _ _ _ left (step_end _ _ (rw over at c.step.ensures)) c.put_prompt.ensures in
          record { next = end.0; bytes = end.1 }
      | in_default-2 w ↦ let n = step_none _ _ _ (rw w.in_default.is at c.step.ensures) in absurd (left_bad _ _ _ _ _ left n.0 n.1)
    ]
