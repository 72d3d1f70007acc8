-- `reply_lines::trim_start` meets its contract. The invariant: the rest, trimmed, is the whole, trimmed.
use Rattle.std.proofs.Common.{◌≡◌, length}
use Rattle.reply_lines.specs.Lines.{trim_start}
use Rattle.reply_lines.proofs.trim_start.Given as goal

abbrev pub invariant-loop-s : goal.invariant-loop-s
invariant-loop-s l = trim_start l.s ≡ trim_start l.fn.s

abbrev pub decreases-loop-s : goal.decreases-loop-s
decreases-loop-s l = length l.s
