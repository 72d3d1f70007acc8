-- `client_session::piece::Piece::joined_verdict` meets its contract.
use mathlib.Core.Path.{sym}
use native.Mathlib.Omega.{arith}
use Rattle.wire.specs.Text.{without_nulls}
use Rattle.client_session.proofs.NullLaws.{left_few}
use Rattle.client_session.proofs.PieceLaws.{takes_high, takes_on}
use Rattle.client_session.proofs.StoreLaws.{reply_in_lem}
use Rattle.client_session.proofs.piece.Piece.joined_verdict.Goals as goal

pub returns-then-joined_high-clause-says : goal.returns-then-joined_high-clause-says
returns-then-joined_high-clause-says c = λ k d e.
    takes_high k d (without_nulls c.args.self.bytes.now) c.args.store.now (omega arith) (omega (arith, left_few))
    (rw (reply_in_lem d c.args.store.now (omega (arith, left_few)), e) (sym c.if-joined_high.ensures))

pub returns-clause-says : goal.returns-clause-says
returns-clause-says c = λ k d e.
    takes_on k d (without_nulls c.args.self.bytes.now) c.args.store.now (omega arith) (omega (arith, left_few))
    (rw (reply_in_lem d c.args.store.now (omega (arith, left_few)), e) (sym c.if-joined_high.ensures))
