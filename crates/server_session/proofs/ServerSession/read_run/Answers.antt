-- `server_session::ServerSession::read_run` meets its contract.
use native.Mathlib.Omega.{arith}
use Rattle.server_session.proofs.RunLaws.{ran_front}
use Rattle.server_session.proofs.ServerSession.read_run.Goals as goal

pub returns-clause-ran : goal.returns-clause-ran
returns-clause-ran c =
    ran_front c.args.self.now c.args.input.now c.args.i c.args.out.now c.args.at c.run_room-most.ensures (omega arith) c.saturating_sub.ensures c.plain_size-n.ensures _ c.append.ensures.joined
    c.put_echo.ensures
