use mathlib.Core.Path.{ap, ◌∙◌}
use lib.Dec.{eqb}
use lib.Seq.{take_all}
use Rattle.std.specs.List.{list_any}
use Rattle.wire.proofs.TextLaws.{has_is}
use Rattle.wire.proofs.has.Goals as goal

pub returns : goal.returns
returns c = c.loop-b.invariant ∙ ap (list_any (λ x. eqb x c.args.byte)) (take_all _ _ c.loop-b-test.false) ∙ has_is c.args.byte c.args.s.now
