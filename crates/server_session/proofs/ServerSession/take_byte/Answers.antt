-- `server_session::ServerSession::take_byte` meets its contract.
use mathlib.Core.Path.{refl}
use Rattle.wire.proofs.TryLaws.{passed_on}
use Rattle.server_session.specs.Session.{session}
use Rattle.server_session.proofs.StepLaws.{accepts}
use Rattle.server_session.proofs.ServerSession.take_byte.Goals as goal

pub accept_byte-requires : goal.accept_byte-requires
accept_byte-requires c = accepts _ (session c.args.self.now) c.args.b c.in_ok-byte_verdict.ensures

pub returns : goal.returns
returns c = rw (rw c.saturating_sub.ensures at c.in_ok-byte_verdict.ensures) c.accept_byte.ensures

pub returns-in_err-byte_verdict : goal.returns-in_err-byte_verdict
returns-in_err-byte_verdict c =
    rw (passed_on c.from_residual.ensures) (record { says = rw c.saturating_sub.ensures at c.in_err-byte_verdict.ensures; same = refl; kept = refl })
