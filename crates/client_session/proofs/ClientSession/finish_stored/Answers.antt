-- `client_session::ClientSession::finish_stored` meets its contract.
use mathlib.Core.Path.{refl, sym, ap, ◌∙◌}
use native.Mathlib.Omega.{arith}
use Rattle.wire.specs.Answer.{unless}
use Rattle.wire.specs.Text.{high}
use Rattle.client_session.specs.Session.{client}
use Rattle.client_session.proofs.StepLaws.{does_lent, does_end}
use Rattle.client_session.proofs.StoreLaws.{reply_cut}
use Rattle.client_session.proofs.ClientSession.finish_stored.Goals as goal

pub returns-then-has_high-clause-out_after : goal.returns-then-has_high-clause-out_after
unfolding unless
returns-then-has_high-clause-out_after c =
    let e = reply_cut (client c.args.self) c.args.store.now c.min.result c.min.ensures in
    rw (ap high e ∙ sym c.if-has_high.ensures) (does_lent (does_end c.fails.ensures refl) (omega arith))

pub returns-clause-out_after : goal.returns-clause-out_after
unfolding unless
returns-clause-out_after c =
    let e = reply_cut (client c.args.self) c.args.store.now c.min.result c.min.ensures in
    rw (ap high e ∙ sym c.if-has_high.ensures, e) c.finish_reply.ensures.out_after
