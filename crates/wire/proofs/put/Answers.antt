use native.Mathlib.Omega.{arith}
use Rattle.wire.proofs.PutLaws.{put_past, put_next, put_cut}
use Rattle.wire.proofs.put.Goals as goal

pub returns-then-out-at : goal.returns-then-out-at
returns-then-out-at c = put_past _ _ _ c.if-out-at.true

pub loop-i-preserved : goal.loop-i-preserved
loop-i-preserved c = put_next c.args.text.now c.loop-i.i (omega arith) (omega arith) c.loop-i.invariant

pub returns : goal.returns
returns c = put_cut c.args.text.now c.loop-i.i c.min-n.result (omega (arith, c.loop-i-test.false)) c.min-n.ensures c.loop-i.invariant
