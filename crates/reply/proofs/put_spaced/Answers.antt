use native.Mathlib.Omega.{arith}
use mathlib.Core.Bool.{true}
use Rattle.wire.proofs.PutLaws.{put_none}
use Rattle.reply.proofs.SizeLaws.{further-length}
use Rattle.reply.proofs.TextLaws.{spaced_turn}
use Rattle.reply.proofs.put_spaced.Goals as goal

pub loop-byte-init : goal.loop-byte-init
loop-byte-init c = record {
  place = omega arith;
  room = omega (arith, further-length true c.args.bytes.now, c.requires);
  written = put_none _ _;
}

pub loop-byte-preserved : goal.loop-byte-preserved
loop-byte-preserved c =
    let at = c.loop-byte in
    record {
      place = omega arith;
      room = at.invariant.room;
      written =
          spaced_turn _ at.byte-index c.loop-byte-test.true c.from.ensures c.from-in-loop-byte.ensures (omega (arith, c.type_inv.bytes at.byte-index)) (omega arith)
          at.invariant.written;
    }
