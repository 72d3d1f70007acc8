-- `query::put_query` meets its contract: the mode, the PIDs, the count.
use Rattle.query.specs.Query.{text_of_query}
use Rattle.wire.proofs.PutLaws.{put_then}
use Rattle.query.proofs.put_query.Goals as goal

pub returns : goal.returns
unfolding text_of_query
returns c = put_then c.put-at.ensures (put_then c.put_pids-at.ensures c.put_count.ensures)
