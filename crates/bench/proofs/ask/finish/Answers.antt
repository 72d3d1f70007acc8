-- `bench::ask::finish` meets its contract.
use borrow.Author.Rules.{rules}
use Rattle.bench.proofs.AskLaws.{finish_does}
use Rattle.bench.proofs.ask.finish.Goals as goal

pub returns : goal.returns
returns c =
    finish_does c.args.asked c.args.work.now _ c.in_default.is (search rules) c.finish-step.result _ c.finish-step.ensures.out_after _ c.part_answer.ensures
