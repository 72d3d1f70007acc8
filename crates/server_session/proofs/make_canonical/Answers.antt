-- `server_session::make_canonical` meets its contract.
use mathlib.Core.Path.{sym, ◌∙◌}
use borrow.Author.Rules.{rules}
use native.Mathlib.Omega.{arith}
use Rattle.server_session.proofs.LineLaws.{in_space, in_other, in_end}
use Rattle.server_session.proofs.make_canonical.Goals.{then-not-is_space, else-not-is_space}
use Rattle.server_session.proofs.make_canonical.Goals as goal

pub loop-i-preserved : goal.loop-i-preserved
loop-i-preserved c =
    let loop = c.loop-i in
    elim c.if-not-is_space.branch [
      | then-not-is_space w ↦ record {
        below = omega arith;
        long = search rules;
        made =
            rw (w.line-is, w.n-is, w.raise.ensures)
            (in_other loop.line.bytes _ loop.n loop.i _ loop.invariant.long loop.invariant.made c.loop-i-test.true loop.invariant.below (sym c.is_space.ensures ∙ w.if-not-is_space.true));
      }
      | else-not-is_space w ↦ record {
        below = omega arith;
        long = search rules;
        made =
            rw (w.line-is, w.n-is)
            (in_space loop.line.bytes _ loop.n loop.i _ loop.invariant.long loop.invariant.made c.loop-i-test.true (sym c.is_space.ensures ∙ w.if-not-is_space.false));
      }
    ]

pub returns : goal.returns
returns c = let loop = c.loop-i in in_end loop.line.bytes _ loop.n loop.i _ loop.invariant.long loop.invariant.made c.loop-i-test.false
