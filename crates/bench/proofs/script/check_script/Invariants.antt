-- `script::check_script` meets its contract. The invariant: the queries counted, and those read from here on, give the answer for the whole script; each took a byte.
use mathlib.Core.Path.{◌≡◌}
use Prim.Native.Nat.{◌-◌, ◌≤◌}
use lib.ListN.{length}
use Rattle.bench.specs.Steps.{queries_in}
use Rattle.group.proofs.WalkLaws.{from, counted_from}
use Rattle.bench.specs.Script.{query_format}
use Rattle.bench.proofs.script.check_script.Given as goal

abbrev pub invariant-loop-query : goal.invariant-loop-query
invariant-loop-query l = (l.queries ≤ l.cursor.at) × (l.cursor.at ≤ length l.script) × (counted_from l.queries (from query_format l.script l.cursor.at) ≡ queries_in l.script)

abbrev pub decreases-loop-query : goal.decreases-loop-query
decreases-loop-query l = length l.script - l.cursor.at
