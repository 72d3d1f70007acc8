-- `hire_text::put_refused` meets its contract: the word, the number, LF.
use Rattle.wire.proofs.PutLaws.{put_then}
use Rattle.hire_text.specs.Hire.{refused_line}
use Rattle.hire_text.proofs.put_refused.Goals as goal

pub returns : goal.returns
unfolding refused_line
returns c = put_then c.put-at.ensures (put_then c.put_decimal-at.ensures c.put_byte.ensures)
