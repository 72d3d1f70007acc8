use mathlib.Core.Path.{sym, ◌∙◌}
use Rattle.wire.proofs.PutLaws.{put_length, put_rest, put_same}
use Rattle.group.proofs.GroupLaws.{group_bytes_small, group_bytes_big}
use Rattle.group.proofs.put_group.Goals as goal

pub loop-left-preserved : goal.loop-left-preserved
loop-left-preserved c =
    let put = c.put_byte-at.ensures in
    let loop = c.loop-left in
    (put_length put ∙ loop.invariant.0, put_rest (rw (group_bytes_big loop.left c.loop-left-test.true) at loop.invariant.1) put)

pub returns : goal.returns
returns c =
    let put = c.put_byte.ensures in
    let loop = c.loop-left in
    let q = put_same (rw (group_bytes_small loop.left c.loop-left-test.false) at loop.invariant.1) put in
    record { next = sym q.0; bytes = sym q.1 }
