-- `reply_lines::to_cr` meets its contract. The invariant: no CR was passed, so what is left to count comes to the whole count.
use Rattle.std.proofs.Common.{◌≡◌, ◌+◌, drop}
use Rattle.reply_lines.specs.Steps.{to_cr}
use Rattle.reply_lines.proofs.to_cr.Given as goal

abbrev pub invariant-loop-i : goal.invariant-loop-i
invariant-loop-i l = l.i + to_cr (drop l.i l.s) ≡ to_cr l.s
