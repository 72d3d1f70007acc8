-- What a Bytes holds.
use mathlib.Core.Path.{◌≡◌}
use Prim.Native.Nat.{ℕ, ◌≤◌}
use native.Mathlib.Omega.{arith}
use lib.ListN.{length, length-take}
use Rattle.wire.specs.declared.Bytes.{Bytes}
use Rattle.wire.specs.Bytes.{held}

-- no more than its array has
pub held_short : {N : ℕ} (b : Bytes N) → length b.bytes ≡ N → length (held b) ≤ N
held_short b h = omega (arith, length-take b.len b.bytes)
