-- The reader's first step from 0 gives the first of the lines.
use native.Mathlib.Omega.{arith}
use Rattle.reply_lines.proofs.WalkLaws.{walk_gives}
use Rattle.reply_lines.proofs.first_text.Goals as goal

pub returns : goal.returns
returns c = grind (arith, walk_gives 0 c.args.reply.now, c.new-reader.ensures, c.next_line-step.ensures, c.text.ensures)
