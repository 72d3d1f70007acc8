-- A round is one more of those that are left.
use mathlib.Core.Path.{sym, ap, ◌∙◌}
use Prim.Native.Nat.{◌-◌}
use Rattle.driver_log.proofs.ScriptLaws.{rounds_left}
use Rattle.driver_log.specs.Script.{calls, rounds}
use Rattle.driver_log.proofs.run_rounds.Goals as goal

pub loop-left-preserved : goal.loop-left-preserved
loop-left-preserved g c =
    let d = g.D.Driven in
    let l = c.loop-left in
    let x = c.run-at.new in
    let again = c.args.again.now in
    let once : d.Seen → d.Seen = λ t. calls d.called (d.anew t) again in
    let starts = ap (λ t. calls d.called t again) (g.met.D.Driven.starts x.session c.run-at.result x.store x.out x.log) in
    ap (rounds once (l.left - 1)) (sym starts) ∙
    rounds_left once l.left (d.seen x.session c.run-at.result x.store x.out x.log) c.if-left-eq0.false ∙ ap (rounds once l.left) c.run-at.ensures ∙ l.invariant
