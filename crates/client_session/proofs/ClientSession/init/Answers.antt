-- `client_session::ClientSession::init` meets its contract.
use mathlib.Core.Path.{refl}
use lib.ListN.{length}
use Rattle.client_session.specs.Session.{client}
use Rattle.client_session.proofs.StartLaws.{init_fits}
use Rattle.client_session.proofs.StepLaws.{lent_as, does_sends}
use Rattle.client_session.proofs.ClientSession.init.Goals as goal

pub returns-clause-out_after : goal.returns-clause-out_after
returns-clause-out_after c =
    let k = client c.args.self in
    lent_as c.in_default.ensures.says (does_sends c.sends.ensures refl c.put-written.ensures) (init_fits (length c.args.out.now) k)
