use native.Mathlib.Omega.{arith}
use Rattle.reply_lines.proofs.ScanLaws.{cr_here, cr_next, cr_end}
use Rattle.reply_lines.proofs.to_cr.Goals as goal

pub returns-then-b-eq13 : goal.returns-then-b-eq13
returns-then-b-eq13 c = omega (arith, cr_here c.args.s.now c.loop-i.i c.loop-i-test.true c.if-b-eq13.true)

pub loop-i-preserved : goal.loop-i-preserved
loop-i-preserved c = omega (arith, cr_next c.args.s.now c.loop-i.i c.loop-i-test.true c.if-b-eq13.false)

pub returns : goal.returns
returns c = omega (arith, cr_end c.args.s.now c.loop-i.i c.loop-i-test.false)
