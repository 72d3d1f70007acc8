-- `bench::rounds::onward` meets its contract.
use Prim.Native.Nat.{◌+◌, ◌-◌, ◌≤◌, ◌<◌}
use native.Mathlib.Omega.{arith}
use lib.ListN.{length, take, length-take}
use Rattle.bench.proofs.OnwardLaws.{held_then, held_does, does_held, onward-held, onward_stops, onward_goes, onward-ended}
use Rattle.bench.proofs.rounds.onward.Goals as goal

pub returns-then-at-eq0 : goal.returns-then-at-eq0
returns-then-at-eq0 c =
    let l = c.loop in
    let none : length (take l.at.written l.work.out) ≤ 0 = omega (arith, length-take l.at.written l.work.out, c.if-at-eq0.true) in
    held_does (held_then l.invariant.0 (onward_stops (c.args.n - l.counter) _ _ none)) l.invariant.1

pub loop-preserved : goal.loop-preserved
loop-preserved c =
    let l = c.loop in
    let some : 0 < length (take l.at.written l.work.out) = omega (arith, length-take l.at.written l.work.out, l.invariant.1, c.if-at-eq0.false) in
    let less = c.args.n - (l.counter + 1) in (
      held_then l.invariant.0 (held_then (onward_goes (c.args.n - l.counter) less _ _ (omega (arith, c.loop-test.true)) some) (onward-held less _ (does_held c.round-at.ensures))),
      c.round-at.ensures.inside,
    )

pub returns : goal.returns
returns c = let l = c.loop in held_does (held_then l.invariant.0 (onward-ended (c.args.n - l.counter) _ _ (omega (arith, c.loop-test.false)))) l.invariant.1
