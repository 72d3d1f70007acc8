-- `bench::exchange::deliver` meets its contract.
use mathlib.Core.Path.{sym, ap, ◌∙◌}
use Prim.Native.Nat.{min}
use native.Mathlib.Omega.{arith}
use lib.ListN.{length, take, drop}
use borrow.Author.Tests.{eqb-true, eqb-false}
use Rattle.std.proofs.lemmas.List.{take_min, drop_min}
use Rattle.client_session.specs.Session.{client}
use Rattle.bench.specs.Deliver.{next_size}
use Rattle.bench.proofs.DeliverLaws.{Given, more_received, last_received, none_received}
use Rattle.bench.proofs.exchange.deliver.Goals as goal
use Rattle.bench.proofs.exchange.deliver.Goals.{After-piece-step}

given : (c : After-piece-step) → Given (client c.loop-left.bench.client) c.loop-left.store c.loop-left.out c.loop-left.bench.lengths.now c.loop-left.left.now
    c.piece-step.result c.piece-step.new.store c.piece-step.new.out
given c =
    let left = c.loop-left.left.now in
    let size = c.min.ensures ∙ ap (λ k. min k (length left)) c.next_size.ensures in
    let piece = c.split_at.ensures.front ∙ ap (λ n. take n left) size ∙ take_min (next_size c.loop-left.bench.lengths.now) left in
    record {
      some = omega (arith, eqb-false _ _ (sym c.loop-left-test.ensures));
      does = rw piece at c.piece-step.ensures.out_after;
      stored = rw piece at c.piece-step.ensures.store_after;
    }

pub returns-then-not-awaits-clause-given : goal.returns-then-not-awaits-clause-given
returns-then-not-awaits-clause-given c =
    last_received (given (goal.at.returns-then-not-awaits-clause-given c).After-piece-step) c.used_up-bench.ensures (sym c.awaits.ensures ∙ c.if-not-awaits.true) ∙
    sym c.loop-left.invariant.1

pub loop-left-preserved : goal.loop-left-preserved
loop-left-preserved c =
    let left = c.loop-left.left.now in
    let size = c.min.ensures ∙ ap (λ k. min k (length left)) c.next_size.ensures in
    let rest = c.split_at.ensures.back ∙ ap (λ n. drop n left) size ∙ drop_min (next_size c.loop-left.bench.lengths.now) left in (
      c.loop-left.invariant.0,
      c.loop-left.invariant.1 ∙
          more_received (given (goal.at.loop-left-preserved c).After-piece-step) c.used_up-bench.ensures rest (sym c.awaits.ensures ∙ c.if-not-awaits.false),
    )

pub returns-clause-given : goal.returns-clause-given
returns-clause-given c = none_received c.loop-left.bench _ _ _ (eqb-true _ _ (sym c.loop-left-test.ensures)) ∙ sym c.loop-left.invariant.1
