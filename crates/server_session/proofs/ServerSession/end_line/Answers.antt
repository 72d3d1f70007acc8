-- `server_session::ServerSession::end_line` meets its contract.
use mathlib.Core.Path.{◌≡◌}
use borrow.Author.Rules.{rules}
use lib.ListN.{length}
use Rattle.wire.specs.Bytes.{held}
use Rattle.server_session.specs.Session.{session}
use Rattle.server_session.proofs.StepLaws.{end_none, end_command}
use Rattle.server_session.proofs.ServerSession.end_line.Goals as goal

pub returns-then-is_empty : goal.returns-then-is_empty
returns-then-is_empty c =
    let line = held c.make_canonical.new.line in
    let none : length line ≡ 0 = search rules in
    end_none (session c.args.self.now) line c.make_canonical.ensures none line c.end_empty.ensures

pub returns : goal.returns
returns c =
    let line = held c.make_canonical.new.line in
    let some : (length line ≡ 0 → ⊥) = search rules in
    rw (c.command_phase-self.ensures, c.as_slice-command.ensures) (end_command (session c.args.self.now) line c.make_canonical.ensures some c.args.out.now c.args.at)
