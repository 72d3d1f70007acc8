-- No text is longer than the buffer that it is put into.
use Rattle.std.proofs.Common.{arith, sym}
use lib.Seq.{length-take-le}
use Rattle.hire_text.proofs.HireLaws.{text_inside}
use Rattle.hire_cases.proofs.print_case.Goals as goal

pub slice_bounds-out-end : goal.slice_bounds-out-end
slice_bounds-out-end g c =
    let w = text_inside _ _ _ c.hire_text.ensures.out_after c.in-Ok.is in
    omega (arith, w.0, w.1)

pub slice_bounds-write_all-end : goal.slice_bounds-write_all-end
slice_bounds-write_all-end g c =
    let w = text_inside _ _ _ c.hire_text.ensures.out_after c.in-Ok.is in
    sym (length-take-le _ _ (omega (arith, w.0)))
