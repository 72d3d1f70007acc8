-- `bench::ask::ask` meets its contract.
use borrow.Author.Rules.{rules}
use Rattle.client_session.specs.Session.{client}
use Rattle.bench.specs.Run.{start_says}
use Rattle.bench.proofs.AskLaws.{start_fits, start_inside, ask_does}
use Rattle.bench.proofs.ask.ask.Goals as goal

pub round-first-requires : goal.round-first-requires
round-first-requires c =
    let says = start_says (client c.args.bench.client) c.args.pids.now c.args.count in
    let few = start_fits (client c.args.bench.client) c.args.count c.args.pids.now in
    start_inside says c.start-begun.result _ _ (search rules) few c.start-begun.ensures

pub returns : goal.returns
returns c =
    let a = c.args in
    ask_does (start_says (client a.bench.client) a.pids.now a.count) c.start-begun.result _ _ (search rules)
    (start_fits (client a.bench.client) a.count a.pids.now) c.start-begun.ensures a.bench _ _ c.round-first.ensures c.onward.ensures
