-- `reply_lines::decode_line` meets its contract: unframed, too short to be framed, and framed.
use Rattle.std.proofs.Common.{refl, ◌∙◌, arith}
use lib.ListN.{length-set}
use Rattle.reply_lines.proofs.DecodeLaws.{line_unframed, head_step, head_short, head_framed}
use Rattle.reply_lines.proofs.decode_line.Goals as goal

pub returns-then-not-framing : goal.returns-then-not-framing
returns-then-not-framing c = rw (c.if-not-framing.true, line_unframed) (record { ecu = refl; bytes = c.put_pairs-len.ensures })

pub returns-in_default : goal.returns-in_default
returns-in_default c =
    let l = c.loop-i.invariant in
    rw (c.if-not-framing.false, head_short _ _ c.loop-i.left.now _ l.five l.chars c.loop-i-test.true c.in_default.ensures, ← l.kept) (record { ecu = refl; bytes = c.put-len.ensures })

pub loop-i-preserved : goal.loop-i-preserved
loop-i-preserved c =
    let l = c.loop-i.invariant in
    record {
      chars = head_step c.args.text.now c.loop-i.head c.loop-i.left.now c.loop-i.i _ (omega arith) l.chars c.in-Some.ensures.0;
      five = length-set c.loop-i.head _ _ ∙ l.five;
      kept = l.kept;
    }

pub returns : goal.returns
returns c =
    let l = c.loop-i.invariant in
    rw (c.if-not-framing.false, head_framed _ _ c.loop-i.left.now _ l.five l.chars c.loop-i-test.false, ← l.kept) (record { ecu = c.ecu_of-ecu.ensures; bytes = c.put_pairs-len-2.ensures })
