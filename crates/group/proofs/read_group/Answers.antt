-- `group::read_group` meets its contract.
use mathlib.Core.Path.{sym, ◌∙◌}
use Rattle.group.proofs.AtLaws.{at_end, at_one, at_cut, at_zero, at_two}
use Rattle.group.proofs.read_group.Goals as goal

pub returns-then-s-at : goal.returns-then-s-at
returns-then-s-at c = sym (at_end _ _ _ c.if-s-at.true)

pub returns-then-low-lt128 : goal.returns-then-low-lt128
returns-then-low-lt128 c = c.within.ensures ∙ sym (at_one _ _ _ c.if-s-at.false c.from-low.ensures c.if-low-lt128.true)

pub returns-then-s-rest : goal.returns-then-s-rest
returns-then-s-rest c = sym (at_cut _ _ _ c.if-s-at.false c.from-low.ensures c.if-low-lt128.false c.if-s-rest.true)

pub returns-then-high-eq0 : goal.returns-then-high-eq0
returns-then-high-eq0 c = sym (at_zero _ _ _ c.if-s-at.false c.from-low.ensures c.if-low-lt128.false c.if-s-rest.false c.from-high.ensures c.if-high-eq0.true)

pub returns-then-high-lt128 : goal.returns-then-high-lt128
returns-then-high-lt128 c =
    c.within-then-high-lt128.ensures ∙
    sym (at_two _ _ _ c.if-s-at.false c.from-low.ensures c.if-low-lt128.false c.if-s-rest.false c.from-high.ensures c.if-high-eq0.false c.if-high-lt128.true)
