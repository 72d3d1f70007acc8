-- `script::skip_lines` meets its contract. The invariant: the lines that are left end where all of them do.
use mathlib.Core.Path.{◌≡◌}
use Prim.Native.Nat.{◌-◌, ◌≤◌}
use lib.ListN.{length}
use Rattle.bench.specs.Steps.{lines_after}
use Rattle.bench.proofs.script.skip_lines.Given as goal

abbrev pub invariant-loop : goal.invariant-loop
invariant-loop l = (l.cursor.at ≤ length l.script) × (lines_after (l.n - l.counter) l.script l.cursor.at ≡ lines_after l.n l.script l.at)
