-- `group::group_size` meets its contract. The invariant: the bytes counted and those of what is left of the number are all of its bytes, and one more.
use mathlib.Core.Path.{◌≡◌}
use Prim.Native.Nat.{◌+◌}
use lib.ListN.{length}
use Rattle.group.specs.Group.{group_bytes}
use Rattle.group.proofs.group_size.Given as goal

abbrev pub invariant-loop-left : goal.invariant-loop-left
invariant-loop-left l = l.size + length (group_bytes l.left) ≡ 1 + length (group_bytes l.n)

abbrev pub decreases-loop-left : goal.decreases-loop-left
decreases-loop-left l = l.left
