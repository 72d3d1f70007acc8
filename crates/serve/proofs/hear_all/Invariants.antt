-- Each turn goes on in the input.
use Rattle.std.proofs.Common.{◌≤◌, length}
use Rattle.serve.proofs.hear_all.Given as goal

abbrev pub invariant-loop-rest : goal.invariant-loop-rest
invariant-loop-rest g l = length l.rest ≤ 128

abbrev pub decreases-loop-rest : goal.decreases-loop-rest
decreases-loop-rest g l = length l.rest
