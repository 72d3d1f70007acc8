-- `bench::exchange::deliver` meets its contract. The invariant: what is left to deliver, from here on, comes to what the whole delivery comes to.
use mathlib.Core.Path.{◌≡◌}
use lib.ListN.{length}
use Rattle.client_session.specs.Session.{client}
use Rattle.bench.specs.Steps.{delivered, delivery_lent}
use Rattle.bench.proofs.exchange.deliver.Given as goal

abbrev pub invariant-loop-left : goal.invariant-loop-left
invariant-loop-left l = (l.bench.server ≡ l.initial.bench.server) ×
    (delivery_lent (delivered (length l.initial.out) (client l.initial.bench.client) l.initial.store l.initial.bench.lengths.now l.reply) l.initial.out ≡
    delivery_lent (delivered (length l.out) (client l.bench.client) l.store l.bench.lengths.now l.left) l.out)

abbrev pub decreases-loop-left : goal.decreases-loop-left
decreases-loop-left l = length l.left
