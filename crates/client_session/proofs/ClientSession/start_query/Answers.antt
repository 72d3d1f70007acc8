-- `client_session::ClientSession::start_query` meets its contract.
use mathlib.Core.Path.{ap, sym, ◌∙◌}
use lib.ListN.{length}
use Rattle.query.specs.Query.{count_of}
use Rattle.client_session.specs.Session.{client}
use Rattle.client_session.specs.Start.{send_query}
use Rattle.client_session.proofs.StartLaws.{query_fits}
use Rattle.client_session.proofs.StepLaws.{lent_as}
use Rattle.client_session.proofs.ClientSession.start_query.Goals as goal

pub returns-clause-out_after : goal.returns-clause-out_after
returns-clause-out_after c =
    let a = c.args in
    let k = client a.self in
    let d = c.in_default.ensures.says (count_of a.count) a.several in
    lent_as (d ∙ ap (send_query k) (sym c.of.ensures)) c.ask.ensures (query_fits (length a.out.now) k a.pids.now (count_of a.count) a.several)
