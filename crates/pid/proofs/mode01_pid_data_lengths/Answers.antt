-- `pid::mode01_pid_data_lengths` meets its contract: the constant, entry by entry, is what the rows give.
use mathlib.Core.Path.{refl}
use Rattle.pid.specs.J1979.{j1979}
use Rattle.pid.specs.Lengths.{mode01_lengths}
use Rattle.pid.proofs.mode01_pid_data_lengths.Goals as goal

pub returns : goal.returns
unfolding mode01_lengths j1979
returns c = refl
