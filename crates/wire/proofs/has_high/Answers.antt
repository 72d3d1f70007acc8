use mathlib.Core.Path.{ap, ◌∙◌}
use lib.Dec.{leb}
use lib.Seq.{take_all}
use Rattle.std.specs.List.{list_any}
use Rattle.wire.proofs.TextLaws.{high_is}
use Rattle.wire.proofs.has_high.Goals as goal

pub returns : goal.returns
returns c = c.loop-b.invariant ∙ ap (list_any (leb 128)) (take_all _ _ c.loop-b-test.false) ∙ high_is c.args.s.now
