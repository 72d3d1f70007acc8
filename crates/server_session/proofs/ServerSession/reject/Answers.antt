-- `server_session::ServerSession::reject` meets its contract.
use Rattle.server_session.proofs.ReplyLaws.{reject_fits, sent}
use Rattle.server_session.specs.Session.{session}
use lib.ListN.{length}
use Rattle.server_session.proofs.ServerSession.reject.Goals as goal

pub returns-clause-out_after : goal.returns-clause-out_after
returns-clause-out_after c =
    let a = c.args in
    let d = rw c.in_default.is at c.reject_verdict.ensures in
    rw d
    (sent a.self.state _ c.answered.ensures c.put_text_reply-written.ensures (rw d at (reject_fits (length a.out.now) (session a.self) a.text.now)))
