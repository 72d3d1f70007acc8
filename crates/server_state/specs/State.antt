-- What a client has set on, or learned about, its peer. Document 01, "Numbers by who causes them": "untested multi-PID support"; client_session.rs: "If repeat is not
-- No ..", ".. turns Unknown to Yes", "A PID's count .. is learned once", "An unknown length is learned for the queried PID only".
use Rattle.std.specs.Prelude.{Bool, true, false, cond, List, ℕ, zero, suc, get_or, replicate}
use Rattle.pid.specs.Lengths.{mode01_lengths}
use Rattle.server_state.specs.declared.FeatureSupport.{FeatureSupport}
use Rattle.server_state.specs.declared.FeatureSupport.TheVariants as support
use Rattle.server_state.specs.declared.ServerState.{ServerState}

-- support is untested where the feature is wanted, and No where it is not
abbrev pub support_at_first : Bool → FeatureSupport
support_at_first wanted = cond wanted support.Unknown support.No

-- support that is untested becomes m
abbrev pub decided : FeatureSupport → FeatureSupport → FeatureSupport
decided support.Unknown m = m
decided support.Yes m = support.Yes
decided support.No m = support.No

-- "If repeat is not No"
abbrev pub may_try : FeatureSupport → Bool
may_try support.Unknown = true
may_try support.Yes = true
may_try support.No = false

-- nothing is set or learned
abbrev pub nothing_learned : Bool → ServerState
nothing_learned repeat = record {
  framing = false;
  repeat = support_at_first repeat;
  multi_pid = support.Unknown;
  pid_lengths = mode01_lengths;
  ecu_counts = replicate 256 0;
}

-- a PID's count as a query has it, count+1, and 0 where it is not learned
abbrev pub learned : ℕ → ℕ
learned zero = 0
learned (suc n) = suc (suc n)

abbrev pub count_in : List ℕ → ℕ → ℕ
count_in counts pid = learned (get_or counts pid 0)

-- ---- parts changed

abbrev pub with_framing : ServerState → Bool → ServerState
with_framing s f = record { framing = f; repeat = s.repeat; multi_pid = s.multi_pid; pid_lengths = s.pid_lengths; ecu_counts = s.ecu_counts }

abbrev pub with_repeat : ServerState → FeatureSupport → ServerState
with_repeat s r = record { framing = s.framing; repeat = r; multi_pid = s.multi_pid; pid_lengths = s.pid_lengths; ecu_counts = s.ecu_counts }

abbrev pub with_multi : ServerState → FeatureSupport → ServerState
with_multi s m = record { framing = s.framing; repeat = s.repeat; multi_pid = m; pid_lengths = s.pid_lengths; ecu_counts = s.ecu_counts }
