use mathlib.Core.Path.{sym, ◌∙◌}
use borrow.Author.Tests.{eqb-true, eqb-false}
use Prim.Native.Nat.{◌<◌}
use native.Mathlib.Omega.{arith}
use lib.ListN.{length}
use Rattle.wire.proofs.PutLaws.{put_length}
use Rattle.hire_text.proofs.PartLaws.{lines_next, lines_end}
use Rattle.hire_text.proofs.put_parts.Goals as goal

pub loop-rest-preserved : goal.loop-rest-preserved
loop-rest-preserved c =
    let inv = c.loop-rest.invariant in
    let line = rw c.split_at.ensures.front at c.put_hex_line-at.ensures in
    let some : 0 < length c.loop-rest.rest.now = omega (arith, eqb-false _ _ (sym c.loop-rest-test.ensures)) in
    (put_length line ∙ inv.0, λ parts are e. rw c.split_at.ensures.back (lines_next (inv.1 parts are e) some c.part_end.ensures line))

pub returns : goal.returns
returns c = λ parts are e. let q = lines_end (c.loop-rest.invariant.1 parts are e) (omega (arith, eqb-true _ _ (sym c.loop-rest-test.ensures))) in record { next = sym q.0; bytes = sym q.1 }
