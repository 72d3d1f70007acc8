use mathlib.Core.Path.{refl, ap, ◌∙◌}
use mathlib.Core.List.{◌++◌}
use Rattle.wire.proofs.PutLaws.{put_more, put_then}
use Rattle.pid.specs.Lengths.{length_in}
use Rattle.server_state.specs.State.{count_in}
use Rattle.driver_log.proofs.LogLaws.{put_as}
use Rattle.driver_log.specs.Log.{number_bytes}
use Rattle.driver_client.specs.Client.{length_number, pids_entry}
use Rattle.driver_client.proofs.put_pids.Goals as goal

pub loop-pid-preserved : goal.loop-pid-preserved
loop-pid-preserved c =
    let lengths = c.args.server.pid_lengths in
    let counts = c.args.server.ecu_counts in
    put_more (λ p. number_bytes (length_number (length_in lengths p)) ++ number_bytes (count_in counts p)) (pids_entry lengths counts) refl (λ p s. refl)
    c.args.pids.now c.loop-pid.pid-index c.loop-pid-test.true c.loop-pid.invariant
    (put_then (put_as (ap number_bytes (c.length_number.ensures ∙ ap length_number c.data_length.ensures)) c.put_number-at.ensures)
    (put_as (ap number_bytes (c.count_number.ensures ∙ c.ecu_count.ensures)) c.put_number-at-in-loop-pid.ensures))
