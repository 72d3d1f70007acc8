-- `server_session::ServerSession::accept_byte` meets its contract.
use mathlib.Core.List.{[], ◌∷◌}
use native.Mathlib.Omega.{arith}
use Rattle.wire.specs.Bytes.{held}
use Rattle.server_session.specs.Session.{session}
use Rattle.server_session.specs.Bytes.{with_line}
use Rattle.server_session.proofs.StepLaws.{take_cr, take_lf, take_plain, joined}
use Rattle.server_session.proofs.ServerSession.accept_byte.Goals as goal

pub returns-then-b-eq13 : goal.returns-then-b-eq13
returns-then-b-eq13 c = take_cr (session c.args.self.now) c.args.b c.put_echo-end.ensures c.if-b-eq13.true c.end_line.ensures

pub returns-then-b-eq10 : goal.returns-then-b-eq10
returns-then-b-eq10 c = take_lf (session c.args.self.now) c.args.b c.put_echo-end.ensures c.if-b-eq10.true

pub returns : goal.returns
returns c =
    let self = c.args.self.now in
    let line = joined (held self.line) (c.args.b ∷ []) 128 (omega (arith, c.requires.short c.if-b-eq13.false c.if-b-eq10.false)) c.push.ensures in
    take_plain (session self) c.args.b c.put_echo-end.ensures c.if-b-eq13.false c.if-b-eq10.false c.requires.turn (λ i. with_line (session self) (line i) self.phase)
