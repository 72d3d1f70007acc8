use mathlib.Core.Path.{sym, ap, ◌∙◌}
use Prim.Native.Nat.{◌<◌}
use native.Mathlib.Omega.{arith}
use Rattle.wire.specs.Answer.{count_answer}
use Rattle.wire.proofs.TryLaws.{passed_on}
use Rattle.wire.proofs.All.{all_from}
use Rattle.bench.proofs.StepLaws.{step_query, step_end, step_none}
use Rattle.bench.proofs.CheckLaws.{count_long, count_start, count_query, count_end, count_none}
use Rattle.bench.proofs.script.check_script.Goals as goal

pub returns-then-script-gt16384 : goal.returns-then-script-gt16384
returns-then-script-gt16384 c = sym (count_long _ c.if-script-gt16384.true)

pub loop-query-init : goal.loop-query-init
loop-query-init c = (omega (arith, c.new-cursor.ensures), omega (arith, c.new-cursor.ensures), count_start _ _ c.if-script-gt16384.false c.new-cursor.ensures)

pub loop-query-smaller : goal.loop-query-smaller
loop-query-smaller c =
    let (q, w) = step_query _ _ (all_from (λ b. b < 256) c.args.script.now (λ i h. omega (arith, c.type_inv.script i))) (rw c.in-Some.is at c.in_ok-query.ensures) in
    omega (arith, w.here.after, w.here.inside)

pub loop-query-preserved : goal.loop-query-preserved
loop-query-preserved c =
    let loop = c.loop-query in
    let (q, w) = step_query _ _ (all_from (λ b. b < 256) c.args.script.now (λ i h. omega (arith, c.type_inv.script i))) (rw c.in-Some.is at c.in_ok-query.ensures) in
    (omega (arith, loop.invariant.0, w.here.after), w.here.inside, sym (count_query loop.queries _ _ q _ w.here) ∙ loop.invariant.2)

pub returns : goal.returns
returns c = let end = rw c.in_default.is at c.in_ok-query.ensures in sym (count_end c.loop-query.queries _ _ (step_end _ _ end)) ∙ c.loop-query.invariant.2

pub returns-in_err-query : goal.returns-in_err-query
returns-in_err-query c =
    let n = step_none _ _ _ c.in_err-query.ensures in
    ap count_answer (passed_on c.from_residual.ensures) ∙ sym (count_none c.loop-query.queries _ _ n.0 n.1) ∙ c.loop-query.invariant.2
