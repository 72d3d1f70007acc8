-- `client_session::ClientSession::finish_reply` meets its contract.
use Rattle.client_session.specs.Session.{client}
use Rattle.client_session.proofs.FinishLaws.{read_small, read_values}
use Rattle.client_session.proofs.ClientSession.finish_reply.Goals as goal

pub returns-in-Err-clause-out_after : goal.returns-in-Err-clause-out_after
returns-in-Err-clause-out_after c =
    rw c.refused.ensures (read_small (client c.args.self) c.args.reply.now c.args.out.now c.requires c.read-read.result _ c.read-read.ensures c.in-Err.is)

pub returns-in-Ok-clause-out_after : goal.returns-in-Ok-clause-out_after
returns-in-Ok-clause-out_after c =
    rw c.over_with.ensures (read_values (client c.args.self) c.args.reply.now c.args.out.now c.requires c.read-read.result _ c.read-read.ensures c.in-Ok.is)
