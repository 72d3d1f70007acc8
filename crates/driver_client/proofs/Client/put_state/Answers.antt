use Rattle.wire.proofs.PutLaws.{put_then}
use Rattle.driver_client.proofs.Client.put_state.Goals as goal

pub returns : goal.returns
returns c =
    rw (← c.framing.ensures, ← c.flag.ensures, ← c.repeat.ensures, ← c.support_code.ensures, ← c.multi_pid.ensures, ← c.support_code-2.ensures, ← c.under_code.ensures, ← c.as_slice.ensures)
    (put_then c.put-at.ensures (put_then c.put_text-at.ensures c.put_pids.ensures))
