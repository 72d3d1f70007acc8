-- `server_session::ServerSession::reply` meets its contract.
use mathlib.Core.Path.{◌≡◌, ap, ◌∙◌}
use mathlib.Core.Bool.{true}
use borrow.Author.Rules.{rules}
use Rattle.client_state.specs.Settings.{with_last}
use Rattle.server_session.specs.Replies.{is_obd}
use Rattle.server_session.specs.Session.{session}
use Rattle.server_session.proofs.ReplyLaws.{reply_refused, reply-sent}
use Rattle.server_session.proofs.ServerSession.reply.Goals as goal

pub returns-in-Err-clause-out_after : goal.returns-in-Err-clause-out_after
returns-in-Err-clause-out_after c =
    let turn : is_obd c.args.self.phase ≡ true = search rules in
    rw c.refused-in-Err.ensures (reply_refused c.args.self c.args.list.now c.args.out.now _ turn c.in-Err.refusal c.in-Err.ensures)

pub returns-in-Ok-clause-out_after : goal.returns-in-Ok-clause-out_after
returns-in-Ok-clause-out_after c =
    let turn : is_obd c.args.self.phase ≡ true = search rules in
    let last = c.with_last-state.ensures ∙ ap (with_last (session c.args.self).state) c.as_slice.ensures in
    reply-sent c.args.self c.args.list.now c.args.out.now _ turn _ c.with_last-state.result c.answered.ensures c.in-Ok.ensures last
