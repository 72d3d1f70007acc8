-- `reply_lines::split_char` meets its contract. The invariant: only 00 and 20 were passed, so the characters left are those of the line.
use Rattle.std.proofs.Common.{◌≡◌, ◌≤◌, length}
use Rattle.reply_lines.specs.Lines.{characters}
use Rattle.reply_lines.proofs.split_char.Given as goal

abbrev pub invariant-loop-line : goal.invariant-loop-line
invariant-loop-line l = record { chars : characters l.line ≡ characters l.fn.line; fits : length l.line ≤ length l.fn.line }

abbrev pub decreases-loop-line : goal.decreases-loop-line
decreases-loop-line l = length l.line
