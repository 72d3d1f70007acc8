-- `server_session::replies::put_at_answer` meets its contract: each kind has its lines.
use Rattle.wire.proofs.PutLaws.{put_then}
use Rattle.server_session.proofs.replies.put_at_answer.Goals as goal

pub returns-in-Reset : goal.returns-in-Reset
returns-in-Reset c = rw c.in-Reset.is (put_then c.put_line_ending-at.ensures (put_then c.put_line_ending-at-in-Reset.ensures c.put_text_reply.ensures))

pub returns-in-Protocol : goal.returns-in-Protocol
returns-in-Protocol c = rw c.in-Protocol.is c.put_text_reply-in-Protocol.ensures
