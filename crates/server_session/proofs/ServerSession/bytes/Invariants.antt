-- `server_session::ServerSession::bytes` meets its contract. The invariant: what is left of the input, from here on, gives what is served in the end.
use mathlib.Core.Path.{◌≡◌}
use Prim.Native.Nat.{◌-◌, ◌≤◌}
use lib.ListN.{length, drop}
use Rattle.server_session.specs.Session.{session}
use Rattle.server_session.specs.Bytes.{bytes_say}
use Rattle.server_session.specs.Call.{server_lent}
use Rattle.server_session.proofs.RunLaws.{served_from}
use Rattle.server_session.proofs.ServerSession.bytes.Given as goal

abbrev pub invariant-loop-i : goal.invariant-loop-i
invariant-loop-i l = record {
  there : l.i ≤ length l.input;
  inside : l.at ≤ length l.out;
  size : length l.out ≡ length l.initial.out;
  still : l.i ≡ 0 → l.self ≡ l.initial.self;
  says : served_from l.i l.at (bytes_say (length l.out - l.at) (session l.self) (drop l.i l.input)) l.out ≡
      server_lent (bytes_say (length l.initial.out) (session l.initial.self) l.input) l.initial.out;
}

abbrev pub decreases-loop-i : goal.decreases-loop-i
decreases-loop-i l = length l.input - l.i
