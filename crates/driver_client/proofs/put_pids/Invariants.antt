-- `driver_client::put_pids` meets its contract. The invariant: what is known of the PIDs so far is written.
use lib.ListN.{take}
use Rattle.wire.specs.Put.{Put}
use Rattle.driver_client.specs.Client.{pids_entry}
use Rattle.driver_client.proofs.put_pids.Given as goal

abbrev pub invariant-loop-pid : goal.invariant-loop-pid
invariant-loop-pid l = Put l.initial.log l.at-2 (pids_entry l.server.pid_lengths l.server.ecu_counts (take l.pid-index l.pids)) l.at l.log
