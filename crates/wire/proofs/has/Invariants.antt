-- `wire::has` meets its contract. The invariant: the byte was found just where it stands in what was looked at.
use mathlib.Core.Path.{◌≡◌}
use lib.Dec.{eqb}
use lib.ListN.{take}
use Rattle.std.specs.List.{list_any}
use Rattle.wire.proofs.has.Given as goal

abbrev pub invariant-loop-b : goal.invariant-loop-b
invariant-loop-b l = l.found ≡ list_any (λ c. eqb c l.byte) (take l.b-index l.s)
