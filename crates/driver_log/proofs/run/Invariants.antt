-- The invariant: the calls that are left, on the session as it is now, come to what the whole script comes to.
use mathlib.Core.Path.{◌≡◌}
use lib.ListN.{length}
use Rattle.driver_log.specs.Script.{calls}
use Rattle.driver_log.proofs.run.Given as goal

abbrev pub invariant-loop-rest : goal.invariant-loop-rest
invariant-loop-rest g l =
    let d = g.D.Driven in
    calls d.called (d.seen l.session l.at l.store l.out l.log) l.rest ≡ calls d.called (d.seen l.initial.session 0 l.initial.store l.initial.out l.initial.log) l.script

abbrev pub decreases-loop-rest : goal.decreases-loop-rest
decreases-loop-rest g l = length l.rest
