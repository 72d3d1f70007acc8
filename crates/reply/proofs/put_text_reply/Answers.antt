-- `reply::put_text_reply` meets its contract: its writers follow one another.
use Rattle.wire.proofs.PutLaws.{put_then}
use Rattle.reply.proofs.put_text_reply.Goals as goal

pub returns : goal.returns
returns c = put_then c.put-end.ensures (put_then c.put_line_ending-next.ensures c.put_prompt.ensures)
