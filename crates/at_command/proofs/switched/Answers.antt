-- `at_command::switched` meets its contract.
use Rattle.at_command.proofs.Laws.{digit_none}
use Rattle.at_command.proofs.switched.Goals as goal

pub returns-then-command-ne4 : goal.returns-then-command-ne4
returns-then-command-ne4 c = simp (digit_none c.args.command.now 48 c.if-command-ne4.true, digit_none c.args.command.now 49 c.if-command-ne4.true)
