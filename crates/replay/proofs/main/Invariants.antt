-- No heading has more cases under it than bytes are passed.
use Rattle.std.proofs.Common.{◌≡◌, ◌+◌, ◌≤◌, length, IfSome}
use Rattle.replay.proofs.main.Given as goal

abbrev pub invariant-loop-entry : goal.invariant-loop-entry
invariant-loop-entry l = IfSome l.under (λ t. t.cases + length l.rest ≤ 262144) × (length l.rest ≤ 262144) × (length l.store ≡ 4096) × (length l.out ≡ 65536) × (length l.log ≡ 65536)

abbrev pub decreases-loop-entry : goal.decreases-loop-entry
decreases-loop-entry l = length l.rest
