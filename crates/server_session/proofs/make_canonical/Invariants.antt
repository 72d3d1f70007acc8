-- `server_session::make_canonical` meets its contract. The invariant: what stands at the front, and the command of what is still to be read, are the command.
use mathlib.Core.List.{◌++◌}
use mathlib.Core.Path.{◌≡◌}
use Prim.Native.Nat.{◌≤◌}
use lib.ListN.{length, take, drop}
use Rattle.wire.specs.Bytes.{held}
use Rattle.server_session.specs.Bytes.{canonical}
use Rattle.server_session.proofs.make_canonical.Given as goal

abbrev pub invariant-loop-i : goal.invariant-loop-i
invariant-loop-i l = record {
  below : l.n ≤ l.i;
  long : l.size ≤ length l.line.bytes;
  made : take l.n l.line.bytes ++ canonical (drop l.i (take l.size l.line.bytes)) ≡ canonical (held l.initial.line);
}
