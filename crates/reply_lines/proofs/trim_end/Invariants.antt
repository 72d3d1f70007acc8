-- `reply_lines::trim_end` meets its contract. The invariant: what is left, trimmed, is the whole, trimmed.
use Rattle.std.proofs.Common.{◌≡◌, length}
use Rattle.reply_lines.specs.Lines.{trim_end}
use Rattle.reply_lines.proofs.trim_end.Given as goal

abbrev pub invariant-loop-s : goal.invariant-loop-s
invariant-loop-s l = trim_end l.s ≡ trim_end l.fn.s

abbrev pub decreases-loop-s : goal.decreases-loop-s
decreases-loop-s l = length l.s
