-- `bench::rounds::reset` meets its contract.
use mathlib.Core.List.{[]}
use borrow.Author.Rules.{rules}
use Rattle.server_session.specs.Session.{session}
use Rattle.bench.proofs.RoundLaws.{reply_inside}
use Rattle.bench.proofs.InitLaws.{init_inside, reset_does}
use Rattle.bench.proofs.rounds.reset.Goals as goal

pub shared_ref_as_front-command : goal.shared_ref_as_front-command
shared_ref_as_front-command c = init_inside c.args.repeat _ _ c.new.result c.init-start.result (search rules) c.new.ensures c.init-start.ensures.out_after

pub shared_ref_as_front-sent : goal.shared_ref_as_front-sent
shared_ref_as_front-sent c = reply_inside (session c.new-2.result) _ [] _ _ c.exchange-heard.result c.exchange-heard.ensures (search rules)

pub returns : goal.returns
returns c =
    let a = c.args in
    reset_does a.repeat _ _ c.new.result c.init-start.result (search rules) c.new.ensures c.init-start.ensures.out_after _ _ a.work.now.store _ _ c.new-2.result
    c.exchange-heard.result c.piece-step.result (search rules) c.requires c.new-2.ensures c.exchange-heard.ensures c.piece-step.ensures.out_after c.piece-step.ensures.store_after a.lengths
