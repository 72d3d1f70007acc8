-- The invariant: the script that is next, and the rounds that are left, come to what all of them come to from the first script on.
use mathlib.Core.Path.{◌≡◌}
use Rattle.driver_log.specs.Script.{calls, rounds}
use Rattle.driver_log.proofs.run_rounds.Given as goal

abbrev pub invariant-loop-left : goal.invariant-loop-left
invariant-loop-left g l =
    let d = g.D.Driven in
    let once : d.Seen → d.Seen = λ t. calls d.called (d.anew t) l.again in
    rounds once l.left (calls d.called (d.seen l.session 0 l.store l.out l.log) l.next) ≡
    rounds once l.times (calls d.called (d.seen l.initial.session 0 l.initial.store l.initial.out l.initial.log) l.script)

abbrev pub decreases-loop-left : goal.decreases-loop-left
decreases-loop-left g l = l.left
