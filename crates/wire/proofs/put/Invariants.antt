-- `wire::put` meets its contract. The invariant: the first i bytes are stored.
use Prim.Native.Nat.{◌+◌}
use lib.ListN.{take}
use Rattle.wire.specs.Put.{Put}
use Rattle.wire.proofs.put.Given as goal

abbrev pub invariant-loop-i : goal.invariant-loop-i
invariant-loop-i l = Put l.initial.out l.at (take l.i l.text) (l.at + l.i) l.out
