-- `wire::same` meets its contract.
use mathlib.Core.Path.{sym, ◌∙◌}
use borrow.Author.Tests.{ne_eqb}
use Rattle.wire.proofs.TextLaws.{same-begins, same-long}
use Rattle.wire.proofs.same.Goals as goal

pub returns-then-s-text : goal.returns-then-s-text
returns-then-s-text c = c.begins.ensures ∙ sym (same-begins c.args.s.now c.args.text.now c.if-s-text.true)

pub returns-else-s-text : goal.returns-else-s-text
returns-else-s-text c = ne_eqb _ _ c.if-s-text.false ∙ sym (same-long c.args.s.now c.args.text.now c.if-s-text.false)
