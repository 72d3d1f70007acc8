-- `client_session::ClientSession::take` meets its contract.
use mathlib.Core.Path.{refl, sym, ap, ◌∙◌}
use Rattle.wire.specs.Text.{without_nulls}
use Rattle.client_session.specs.Piece.{progressed}
use Rattle.client_session.specs.Session.{client}
use Rattle.client_session.proofs.StepLaws.{does_as}
use Rattle.client_session.proofs.StoreLaws.{joined-reply}
use Rattle.client_session.proofs.ClientSession.take.Goals as goal

pub returns-clause-does : goal.returns-clause-does
returns-clause-does c =
    let a = c.args in
    let k = client a.self in
    let piece = c.of-piece.result.bytes.now in
    let joined = joined-reply k (without_nulls piece) a.store.now c.put-end.ensures (c.in_default.ensures.within refl) c.requires.joining.room in
    rw (← c.of-piece.ensures) (does_as (c.in_default.ensures.says a.command k refl ∙ ap (progressed a.command k) (sym joined)) c.progress.ensures)
