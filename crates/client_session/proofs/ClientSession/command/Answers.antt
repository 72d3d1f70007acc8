-- `client_session::ClientSession::command` meets its contract.
use mathlib.Core.Path.{refl}
use lib.ListN.{length}
use Rattle.client_session.specs.Session.{client, with_under, with_last_query}
use Rattle.client_session.specs.declared.Command.TheVariants.{Raw}
use Rattle.client_session.specs.declared.Under.TheVariants.{Awaiting}
use Rattle.client_session.proofs.StartLaws.{command_fits}
use Rattle.client_session.proofs.StepLaws.{lent_as, does_sends, ends_as}
use Rattle.client_session.proofs.ClientSession.command.Goals as goal

pub returns-clause-out_after : goal.returns-clause-out_after
returns-clause-out_after c =
    let k = client c.args.self in
    let sends = ends_as (λ i. with_under (with_last_query k (c.clear.ensures i)) (Awaiting (Raw (c.framing_effect-effect.ensures i))) 0) c.sends.ensures in
    lent_as c.in_default.ensures.says (does_sends sends refl c.put_command-written.ensures)
    (command_fits (length c.args.out.now) k c.args.command.now)
