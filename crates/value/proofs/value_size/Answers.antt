-- `value::value_size` meets its contract.
use mathlib.Core.Path.{sym, ap, ◌∙◌}
use Prim.Native.Nat.{◌+◌}
use native.Mathlib.Omega.{arith}
use lib.ListN.{length}
use Rattle.value.proofs.ValueLaws.{value-length}
use Rattle.value.specs.Values.{value}
use Rattle.group.specs.Group.{group_bytes}
use Rattle.value.proofs.value_size.Goals as goal

pub returns : goal.returns
returns c = λ p d q.
    let first = rw c.from.ensures at c.group_size.ensures in
    omega (arith, value-length (value p c.args.ecu d), c.from-len.ensures, c.group_size-2.ensures, ap (λ n. length (group_bytes (2 + n))) (c.from-len.ensures ∙ sym q))
