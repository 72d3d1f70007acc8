-- `client_session::piece::put_without_nulls` meets its contract.
use Rattle.wire.proofs.PutLaws.{put_then}
use Rattle.client_session.proofs.NullLaws.{null_next, byte_next}
use Rattle.client_session.proofs.piece.put_without_nulls.Goals as goal
use Rattle.client_session.proofs.piece.put_without_nulls.Goals.{then-b-ne0, else-b-ne0}

pub loop-b-preserved : goal.loop-b-preserved
loop-b-preserved c =
    let text = c.args.text.now in
    let i = c.loop-b.b-index in
    elim c.if-b-ne0.branch [
      | then-b-ne0 w ↦ rw (w.out-is, w.end-is, byte_next text i c.loop-b-test.true w.if-b-ne0.true) (put_then c.loop-b.invariant w.put_byte-end.ensures)
      | else-b-ne0 w ↦ rw (w.out-is, w.end-is, null_next text i c.loop-b-test.true w.if-b-ne0.false) c.loop-b.invariant
    ]
