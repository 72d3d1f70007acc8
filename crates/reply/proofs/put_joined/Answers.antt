use native.Mathlib.Omega.{arith}
use mathlib.Core.Bool.{false}
use Rattle.wire.proofs.PutLaws.{put_none}
use Rattle.reply.proofs.SizeLaws.{further-length}
use Rattle.reply.proofs.TextLaws.{joined_turn}
use Rattle.reply.proofs.put_joined.Goals as goal

pub loop-byte-init : goal.loop-byte-init
loop-byte-init c = record {
  place = omega arith;
  room = omega (arith, further-length false c.args.bytes.now, c.requires);
  written = put_none _ _;
}

pub loop-byte-preserved : goal.loop-byte-preserved
loop-byte-preserved c =
    let at = c.loop-byte in
    record {
      place = omega arith;
      room = at.invariant.room;
      written =
          joined_turn _ at.byte-index c.loop-byte-test.true c.hex_char.ensures c.hex_char-in-loop-byte.ensures (omega arith) at.invariant.written;
    }
