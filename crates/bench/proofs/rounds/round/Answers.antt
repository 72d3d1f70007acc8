-- `bench::rounds::round` meets its contract.
use borrow.Author.Rules.{rules}
use lib.ListN.{take}
use Rattle.server_session.specs.Session.{session}
use Rattle.bench.proofs.RoundLaws.{reply_inside, round_does}
use Rattle.bench.proofs.rounds.round.Goals as goal

pub shared_ref_as_front-sent : goal.shared_ref_as_front-sent
shared_ref_as_front-sent c =
    let a = c.args in
    reply_inside (session a.bench.server) (take a.n a.work.now.out) a.list.now _ _ c.exchange-heard.result c.exchange-heard.ensures (search rules)

pub returns : goal.returns
returns c =
    let a = c.args in
    round_does a.bench (take a.n a.work.now.out) a.list.now _ a.work.now.store _ _ _ _ c.exchange-heard.result c.deliver.result (search rules) (search rules) (search rules)
    c.exchange-heard.ensures c.deliver.ensures.given c.deliver.ensures.waits
