-- `reply_lines::next_line` meets its contract. The invariant: the next line that stays from here is that from where it began.
use Rattle.std.proofs.Common.{◌≡◌, ◌-◌, length}
use Rattle.reply_lines.specs.Reader.{line_from}
use Rattle.reply_lines.proofs.next_line.Given as goal

abbrev pub invariant-loop-at : goal.invariant-loop-at
invariant-loop-at l = line_from l.reply l.at ≡ line_from l.reply l.fn.at

abbrev pub decreases-loop-at : goal.decreases-loop-at
decreases-loop-at l = length l.reply - l.at
