use native.Mathlib.Omega.{arith}
use mathlib.Core.Path.{sym, ap, ◌∙◌}
use Rattle.std.proofs.Common.{◌≡◌, ◌<◌, ◌≤◌, ℕ, List, length, get_or, Fits, w8}
use Rattle.wire.proofs.TryLaws.{passed_on}
use Rattle.group.specs.Answers.{group_read}
use Rattle.group.proofs.AtLaws.{Longer, at_end, at_one, at_low, high_none, high_zero, high_more, number_at}
use Rattle.group.proofs.+read_long.Goals as goal

longer : {limit : ℕ} {s : List ℕ} {at b : ℕ} → at < length s → b ≡ get_or s at 0 → 128 ≤ b → Fits w8 (get_or s at 0) → 128 ≤ limit → Longer limit s at b
longer h i j f k = record { here = h; first = i; top = j; byte = omega (arith, f); room = k }

pub returns-then-s-at : goal.returns-then-s-at
returns-then-s-at t c = sym (at_end _ _ _ c.if-s-at.true)

pub returns-then-low-lt128 : goal.returns-then-low-lt128
returns-then-low-lt128 t c = c.within.ensures ∙ sym (at_one _ _ _ c.if-s-at.false c.from-low.ensures c.if-low-lt128.true)

pub returns-then-limit-lt128 : goal.returns-then-limit-lt128
returns-then-limit-lt128 t c = sym (at_low _ _ _ c.if-s-at.false c.from-low.ensures c.if-low-lt128.false c.if-limit-lt128.true)

pub returns-in_err-high : goal.returns-in_err-high
returns-in_err-high t c =
    let long = longer c.if-s-at.false c.from-low.ensures c.if-low-lt128.false (c.type_inv.s c.args.at) c.if-limit-lt128.false in
    ap group_read (passed_on c.from_residual.ensures) ∙ sym (high_none long _ c.in_err-high.ensures)

pub returns-then-high-eq0 : goal.returns-then-high-eq0
returns-then-high-eq0 t c =
    let long = longer c.if-s-at.false c.from-low.ensures c.if-low-lt128.false (c.type_inv.s c.args.at) c.if-limit-lt128.false in
    sym (high_zero long c.in_ok-high.ensures c.if-high-eq0.true)

pub overflow_mul-result : goal.overflow_mul-result
overflow_mul-result t c = omega (arith, c.type_inv.s c.args.at, (number_at _ _ _ c.in_ok-high.ensures).within)

pub overflow_add-result : goal.overflow_add-result
overflow_add-result t c = omega (arith, c.type_inv.s c.args.at, (number_at _ _ _ c.in_ok-high.ensures).within)

pub returns : goal.returns
returns t c =
    let long = longer c.if-s-at.false c.from-low.ensures c.if-low-lt128.false (c.type_inv.s c.args.at) c.if-limit-lt128.false in
    sym (high_more long c.in_ok-high.ensures c.if-high-eq0.false)
