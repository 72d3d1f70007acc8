-- `driver_log::put_text` meets its contract.
use Rattle.wire.proofs.PutLaws.{put_then}
use Rattle.driver_log.proofs.put_text.Goals as goal

pub returns : goal.returns
returns c = put_then c.put_number-next.ensures c.put.ensures
