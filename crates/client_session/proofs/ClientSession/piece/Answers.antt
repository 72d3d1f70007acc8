-- `client_session::ClientSession::piece` meets its contract.
use mathlib.Core.Path.{◌≡◌, refl, sym}
use native.Mathlib.Omega.{arith}
use lib.ListN.{length}
use borrow.Author.Rules.{rules}
use Rattle.wire.proofs.BytesLaws.{held_short}
use Rattle.client_session.specs.Session.{client}
use Rattle.client_session.proofs.PieceLaws.{piece_early, piece_fits}
use Rattle.client_session.proofs.StepLaws.{lent_as, told_refused}
use Rattle.client_session.proofs.ClientSession.piece.Goals as goal

pub returns-in_default : goal.returns-in_default
returns-in_default c =
    rw (c.refused.ensures, piece_early (length c.args.out.now) (client c.args.self) c.args.piece.now c.args.store.now c.in_default.not-Awaiting)
    (record { out_after = refl; store_after = refl; refused_or_failed = told_refused (omega arith); nulls_unchanged = λ z. refl })

pub returns-then-is_reset-clause-out_after : goal.returns-then-is_reset-clause-out_after
returns-then-is_reset-clause-out_after c =
    let a = c.args in
    let k = client a.self in
    let d = rw (sym c.if-nulls_alone.ensures, sym c.if-is_reset.ensures) at (c.in_default-piece_verdict.ensures.says k c.in-Awaiting.is) in
    let eighteen : length a.self.query.text.bytes ≡ 18 = search rules in
    lent_as d c.send_setup.ensures (piece_fits k (length a.out.now) a.piece.now a.store.now (omega (arith, held_short a.self.query.text eighteen)))

pub returns-clause-out_after : goal.returns-clause-out_after
returns-clause-out_after c =
    let a = c.args in
    let k = client a.self in
    let d = rw (sym c.if-nulls_alone.ensures, sym c.if-is_reset.ensures) at (c.in_default-piece_verdict.ensures.says k c.in-Awaiting.is) in
    let eighteen : length a.self.query.text.bytes ≡ 18 = search rules in
    lent_as d c.take.ensures.does (piece_fits k (length a.out.now) a.piece.now a.store.now (omega (arith, held_short a.self.query.text eighteen)))
