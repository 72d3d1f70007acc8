-- `bench::put_part` meets its contract.
use Rattle.wire.proofs.PutLaws.{put_then}
use Rattle.bench.proofs.put_part.Goals as goal

pub returns : goal.returns
returns c = put_then c.put_group-start.ensures c.put.ensures
