-- `group::read_long` calls itself with a limit at least 128 times smaller, so the measure is the limit.
use Rattle.group.proofs.+read_long.Given as goal

abbrev pub decreases-read_long : goal.decreases-read_long
decreases-read_long l = l.limit
