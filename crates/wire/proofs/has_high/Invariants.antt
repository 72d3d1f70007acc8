-- `wire::has_high` meets its contract. The invariant: such a byte was found just where one stands in what was looked at.
use mathlib.Core.Path.{◌≡◌}
use lib.Dec.{leb}
use lib.ListN.{take}
use Rattle.std.specs.List.{list_any}
use Rattle.wire.proofs.has_high.Given as goal

abbrev pub invariant-loop-b : goal.invariant-loop-b
invariant-loop-b l = l.found ≡ list_any (leb 128) (take l.b-index l.s)
