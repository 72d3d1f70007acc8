-- `server_session::ServerSession::answer` meets its contract.
use Rattle.server_session.proofs.ReplyLaws.{answer_fits, at_sent}
use Rattle.server_session.specs.Session.{session}
use lib.ListN.{length}
use Rattle.server_session.proofs.ServerSession.answer.Goals as goal

pub returns-clause-out_after : goal.returns-clause-out_after
returns-clause-out_after c =
    let a = c.args in
    let s = session a.self in
    let h = rw c.as_slice.ensures at c.at_handled-handled.ensures in
    let d = rw c.in_default.is at c.answer_verdict.ensures in
    rw d
    (at_sent a.self a.ati.now a.device.now c.at_handled-handled.result.state c.at_handled-handled.result.kind h.0 h.1 c.answered.ensures
    (rw d at (answer_fits (length a.out.now) s a.ati.now a.device.now)) c.put_at_answer-written.ensures)
