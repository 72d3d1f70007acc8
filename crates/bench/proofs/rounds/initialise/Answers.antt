-- `bench::rounds::initialise` meets its contract.
use Rattle.bench.proofs.InitLaws.{initialised_does}
use Rattle.bench.proofs.rounds.initialise.Goals as goal

pub returns : goal.returns
returns c = initialised_does c.args.repeat _ _ _ _ c.args.lengths.now c.reset-first.ensures c.onward.ensures
