-- `wire::begins` meets its contract. The invariant: the rest of s begins with the rest of the text just where s begins with the text.
use mathlib.Core.Path.{◌≡◌}
use lib.ListN.{drop}
use Rattle.wire.specs.Text.{begins}
use Rattle.wire.proofs.begins.Given as goal

abbrev pub invariant-loop-i : goal.invariant-loop-i
invariant-loop-i l = begins (drop l.i l.s) (drop l.i l.text) ≡ begins l.s l.text
