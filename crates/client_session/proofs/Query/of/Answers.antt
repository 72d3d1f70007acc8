-- `client_session::Query::of` meets its contract.
use mathlib.Core.Path.{◌∙◌}
use lib.Seq.{take_all}
use Rattle.query.specs.Query.{count_of}
use Rattle.query_text.proofs.KeptLaws.{kept_whole}
use Rattle.client_session.proofs.Query.of.Goals as goal

pub returns : goal.returns
returns c =
    let text = c.of.ensures ∙ kept_whole c.args.pids.now (count_of c.args.count) c.requires in
    let pids = c.set.ensures ∙ take_all 6 c.args.pids.now c.requires in
    λ i. record { text = text i; pids = pids i; several = c.args.several }
