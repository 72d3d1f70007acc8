-- `group::put_group` meets its contract. The invariant: what is left of the number, written from here, gives the final buffer.
use mathlib.Core.Path.{◌≡◌}
use Prim.Native.Nat.{◌+◌, ◌-◌, min}
use lib.ListN.{length}
use lib.Seq.{sets}
use Rattle.wire.specs.Put.{Put}
use Rattle.group.specs.Group.{group_bytes}
use Rattle.group.proofs.put_group.Given as goal

abbrev pub invariant-loop-left : goal.invariant-loop-left
invariant-loop-left l = (length l.out ≡ length l.initial.out) × Put l.out l.at (group_bytes l.left) (l.initial.at + min (length (group_bytes l.n)) (length l.initial.out - l.initial.at)) (sets l.initial.out l.initial.at (group_bytes l.n))

abbrev pub decreases-loop-left : goal.decreases-loop-left
decreases-loop-left l = l.left
