-- `driver_server::put_state` meets its contract.
use Rattle.wire.proofs.PutLaws.{put_then}
use Rattle.driver_server.proofs.Server.put_state.Goals as goal

pub returns : goal.returns
returns c =
    rw (← c.flag.ensures, ← c.flag-2.ensures, ← c.flag-3.ensures, ← c.flag-4.ensures, ← c.phase_code.ensures, ← c.as_slice.ensures, ← c.as_slice-2.ensures)
    (put_then c.put-at.ensures (put_then c.put_text-at.ensures c.put_text.ensures))
