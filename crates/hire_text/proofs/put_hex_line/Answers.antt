use mathlib.Core.Path.{◌∙◌}
use Rattle.wire.proofs.PutLaws.{put_length}
use Rattle.hire_text.proofs.LineLaws.{line-next}
use Rattle.hire_text.proofs.put_hex_line.Goals as goal

pub loop-i-preserved : goal.loop-i-preserved
loop-i-preserved c =
    let second = c.put_byte-at.ensures in
    let loop = c.loop-i in
    let first = c.put_hex_byte-at.ensures in
    (put_length second ∙ put_length first ∙ loop.invariant.0, line-next _ _ loop.invariant.1 c.loop-i-test.true first (rw c.separator.ensures at second))
