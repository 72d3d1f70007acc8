-- `hire_text::hire_text` meets its contract: each way out by the law of its size.
use mathlib.Core.Path.{refl, sym}
use lib.Seq.{length-take-le}
use Rattle.hire_text.proofs.HireLaws.{run_inside, no_room, too_few, all_written}
use Rattle.hire_text.proofs.hire_text.Goals as goal

pub returns-then-out-size-clause-out_after : goal.returns-then-out-size-clause-out_after
returns-then-out-size-clause-out_after c = no_room c.args.script.now c.args.buffer.now _ c.run-run.result c.run-run.ensures c.put_stop-size.ensures refl _ c.if-out-size.true

pub returns-then-out-size-2-clause-out_after : goal.returns-then-out-size-2-clause-out_after
returns-then-out-size-2-clause-out_after c = too_few c.args.script.now c.args.buffer.now _ c.run-run.result c.run-run.ensures c.put_stop-size.ensures refl _ c.if-out-size.false c.if-out-size-2.true

pub slice_bounds-put_parts-end : goal.slice_bounds-put_parts-end
slice_bounds-put_parts-end c = run_inside _ _ c.args.script.now c.args.buffer.now _ c.run-run.result c.run-run.ensures

pub slice_bounds-put_parts-end-2 : goal.slice_bounds-put_parts-end-2
slice_bounds-put_parts-end-2 c = sym (length-take-le _ _ (run_inside _ _ c.args.script.now c.args.buffer.now _ c.run-run.result c.run-run.ensures))

pub returns-clause-out_after : goal.returns-clause-out_after
returns-clause-out_after c =
    all_written c.args.script.now c.args.buffer.now _ c.run-run.result c.run-run.ensures c.put_stop-size.ensures refl
    c.if-out-size.false c.if-out-size-2.false c.put_parts-last.ensures c.put.ensures
