use mathlib.Core.Path.{sym}
use Rattle.wire.proofs.TextLaws.{begins_short}
use Rattle.wire.proofs.begins.Goals as goal

pub returns-then-s-text : goal.returns-then-s-text
returns-then-s-text c = sym (begins_short c.args.s.now c.args.text.now c.if-s-text.true)
