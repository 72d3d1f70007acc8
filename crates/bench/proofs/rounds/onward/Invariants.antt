-- `bench::rounds::onward` meets its contract.
use Prim.Native.Nat.{◌-◌, ◌≤◌}
use lib.ListN.{length}
use Rattle.bench.specs.Run.{onward}
use Rattle.bench.specs.Steps.{round_of}
use Rattle.bench.proofs.OnwardLaws.{Held}
use Rattle.bench.proofs.rounds.onward.Given as goal

abbrev pub invariant-loop : goal.invariant-loop
invariant-loop l = Held (onward l.n (round_of l.initial.at l.initial.work) l.list) (onward (l.n - l.counter) (round_of l.at l.work) l.list) × (l.at.written ≤ length l.work.out)
