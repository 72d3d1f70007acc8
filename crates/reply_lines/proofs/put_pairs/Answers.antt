use Rattle.reply_lines.proofs.DecodeLaws.{pairs_step}
use Rattle.reply_lines.proofs.put_pairs.Goals as goal

pub loop-a-preserved : goal.loop-a-preserved
loop-a-preserved c = pairs_step c.loop-a.line.now c.in-Some.rest.now c.in-Some-split_char.rest.now c.loop-a.invariant c.in-Some.ensures.0 c.in-Some-split_char.ensures.0 c.put_pair-len.ensures
