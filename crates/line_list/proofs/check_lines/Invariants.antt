-- `line_list::check_lines` meets its contract. The invariant: the lines counted, and those read from here on, give the answer for the whole list.
use mathlib.Core.Path.{◌≡◌}
use Prim.Native.Nat.{◌-◌}
use lib.ListN.{drop}
use Rattle.group.proofs.WalkLaws.{counted_from}
use Rattle.group.specs.Format.{read_all}
use Rattle.line_list.specs.Lines.{line_format}
use Rattle.line_list.specs.Answers.{lines_in}
use Rattle.line_list.proofs.check_lines.Given as goal

abbrev pub invariant-loop-lines : goal.invariant-loop-lines
invariant-loop-lines l = counted_from l.lines (read_all line_format (64 - l.lines) (drop l.cursor.at l.list)) ≡ lines_in l.list
