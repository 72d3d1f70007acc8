-- `driver_log::put_call` meets its contract.
use lib.ListN.{length-take}
use native.Mathlib.Omega.{arith}
use Rattle.driver_log.proofs.LogLaws.{put_past, take_within}
use Rattle.wire.proofs.PutLaws.{put_then}
use Rattle.driver_log.proofs.put_call.Goals as goal

pub returns-then-log-at : goal.returns-then-log-at
returns-then-log-at c = put_past _ _ _ c.if-log-at.true

pub slice_bounds-put_text-end : goal.slice_bounds-put_text-end
slice_bounds-put_text-end c = simp length-take (omega (arith, c.at_most-size.ensures))

pub returns : goal.returns
returns c =
    rw (← take_within c.args.written _ c.args.out.now c.at_most-size.ensures)
    (put_then c.put_byte-next.ensures (put_then c.put_number-next.ensures c.put_text.ensures))
