-- `replay::agreeing` meets its contract: it counts the pairs before the first of bytes that differ.
use mathlib.Core.Path.{◌∙◌}
use borrow.Author.Rules.{rules}
use lib.Dec.{eqb}
use Rattle.std.proofs.lemmas.Iterator.{YieldsList-from_slice, YieldsList-from_zip}
use Rattle.std.proofs.lemmas.Iterator.Consumers.{count_from_yields_List}
use Rattle.std.proofs.lemmas.Iterator.Search.{YieldsList-from_take_while}
use Rattle.replay.proofs.CompareLaws.{agreeing_pairs}
use Rattle.replay.proofs.agreeing.Goals as goal

pub returns : goal.returns
returns c =
    let s = c.args.ours.now in
    let t = c.args.stored.now in
    count_from_yields_List c.take_while.result c.count.result c.count.ensures.ran
    (YieldsList-from_take_while {s = c.take_while.result} _ (λ p. eqb p.0 p.1)
    (YieldsList-from_zip (YieldsList-from_slice s (cc)) (YieldsList-from_slice t (cc))) (cc) (cc) (λ x b q k. search rules)) ∙
    agreeing_pairs s t
