-- A call is the script's next one, and the calls after it are left.
use mathlib.Core.Path.{refl, sym, ◌∙◌}
use Rattle.driver_log.proofs.ScriptLaws.{calls_turn, calls_end}
use Rattle.driver_log.proofs.run.Goals as goal

pub loop-rest-preserved : goal.loop-rest-preserved
loop-rest-preserved g c =
    let d = g.D.Driven in
    let l = c.loop-rest in
    let x = c.call-at.new in
    let here = d.seen l.session l.at l.store l.out l.log in
    let next = d.seen x.self c.call-at.result x.store x.out x.log in
    calls_turn d.called here next l.rest.now _ _ _ c.argument_size.result c.in-len3-up.len_at_least refl c.argument_size.ensures c.split_at.ensures.front
    c.split_at.ensures.back c.call-at.ensures ∙ l.invariant

pub returns : goal.returns
returns g c =
    let d = g.D.Driven in
    let l = c.loop-rest in
    sym (calls_end d.called (d.seen l.session l.at l.store l.out l.log) l.rest.now c.in_default.len_below) ∙ l.invariant
