-- `query::put_pids` meets its contract. The invariant: the PIDs so far are written.
use lib.ListN.{take}
use Rattle.hex_text.specs.Digits.{hex_bytes}
use Rattle.wire.specs.Put.{Put}
use Rattle.query.proofs.put_pids.Given as goal

abbrev pub invariant-loop-pid : goal.invariant-loop-pid
invariant-loop-pid l = Put l.initial.out l.at-2 (hex_bytes (take l.pid-index l.pids)) l.at l.out
