use Rattle.std.proofs.Common.{◌≡◌, length}
use Rattle.hire_cases.proofs.main.Given as goal

abbrev pub invariant-loop-rest : goal.invariant-loop-rest
invariant-loop-rest l = length l.record ≡ 65536

abbrev pub decreases-loop-rest : goal.decreases-loop-rest
decreases-loop-rest l = length l.rest
