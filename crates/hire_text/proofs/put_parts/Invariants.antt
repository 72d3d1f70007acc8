-- `hire_text::put_parts` meets its contract. The invariant: the parts that are left, written from here, give the final buffer.
use mathlib.Core.Path.{◌≡◌}
use mathlib.Core.List.{List}
use Prim.Native.Nat.{ℕ, ◌+◌, ◌-◌, min}
use lib.Seq.{sets}
use lib.ListN.{length}
use Rattle.wire.specs.Text.{joined}
use Rattle.hire_text.proofs.LineLaws.{hex_lines}
use Rattle.hire_text.specs.Steps.{AreParts}
use Rattle.hire_text.proofs.PartLaws.{LinesLeft}
use Rattle.hire_text.proofs.put_parts.Given as goal

abbrev pub invariant-loop-rest : goal.invariant-loop-rest
invariant-loop-rest l = (length l.out ≡ length l.initial.out) ×
    ((parts : List (List ℕ)) → AreParts parts → l.bytes ≡ joined parts →
    LinesLeft l.rest l.out l.at (l.at-2 + min (length (hex_lines parts)) (length l.initial.out - l.at-2)) (sets l.initial.out l.at-2 (hex_lines parts)))

abbrev pub decreases-loop-rest : goal.decreases-loop-rest
decreases-loop-rest l = length l.rest
