use mathlib.Core.Path.{refl}
use Rattle.hex_text.specs.Digits.{hex_byte, hex_bytes}
use Rattle.wire.proofs.PutLaws.{put_more}
use Rattle.query.proofs.put_pids.Goals as goal

pub loop-pid-preserved : goal.loop-pid-preserved
loop-pid-preserved c = put_more hex_byte hex_bytes refl (λ b s. refl) c.args.pids.now c.loop-pid.pid-index c.loop-pid-test.true c.loop-pid.invariant c.put_hex_byte-at.ensures
