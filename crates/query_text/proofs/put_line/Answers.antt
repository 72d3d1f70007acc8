-- `query_text::put_line` meets its contract.
use Rattle.wire.proofs.PutLaws.{put_then}
use Rattle.query_text.proofs.put_line.Goals as goal

pub returns : goal.returns
returns c = rw c.as_slice.ensures at (put_then c.put-at.ensures c.put_byte.ensures)
