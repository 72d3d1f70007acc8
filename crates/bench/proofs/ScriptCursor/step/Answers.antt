-- `script::ScriptCursor::step` meets its contract: each way out by the law of what stands at the position.
use mathlib.Core.Path.{◌≡◌, sym, ap, ◌∙◌}
use Rattle.std.proofs.Common.{List, ℕ, ◌-◌, ◌≤◌, ◌<◌, length, Ok}
use native.Mathlib.Omega.{arith}
use Rattle.wire.proofs.All.{Bytes, all_from}
use Rattle.wire.proofs.TryLaws.{passed_on}
use Rattle.group.specs.Answers.{group_read, group_at}
use Rattle.group.specs.declared.GroupNumber.{GroupNumber}
use Rattle.group.proofs.AtLaws.{number_at, refused_at}
use Rattle.bench.specs.Steps.{query_step}
use Rattle.bench.proofs.LinesLaws.{skip_to, skip_no}
use Rattle.bench.proofs.StepLaws.{PidsAt, at_end, at_no_few, at_zero, at_no_pids, at_no_count, at_no_size, at_no_lines, at_lines}
use Rattle.bench.proofs.ScriptCursor.step.Goals as goal

-- the PIDs that were found
pids_at : {s : List ℕ} {at : ℕ} {few : GroupNumber} → group_read (Ok few) ≡ group_at 6 s at → (few.value ≡ 0 → ⊥) → few.value ≤ length s - few.next →
    PidsAt s at few.value few.next
pids_at read some room = record { number = number_at 6 _ _ read; some = some; room = room }

pub returns-then-script-self : goal.returns-then-script-self
returns-then-script-self c = sym (at_end _ _ c.if-script-self.true)

pub returns-in_err-few : goal.returns-in_err-few
returns-in_err-few c = ap query_step (passed_on c.from_residual.ensures) ∙ sym (at_no_few _ _ c.if-script-self.false (refused_at 6 _ _ _ c.in_err-few.ensures))

pub returns-then-few-eq0 : goal.returns-then-few-eq0
returns-then-few-eq0 c = sym (at_zero _ _ _ _ (number_at 6 _ _ c.in_ok-few.ensures) c.if-few-eq0.true)

pub overflow_sub-script : goal.overflow_sub-script
overflow_sub-script c = omega (arith, (number_at 6 _ _ c.in_ok-few.ensures).inside)

pub returns-then-script-pids : goal.returns-then-script-pids
returns-then-script-pids c = sym (at_no_pids _ _ _ _ (number_at 6 _ _ c.in_ok-few.ensures) c.if-script-pids.true)

pub returns-in_err-count : goal.returns-in_err-count
returns-in_err-count c =
    let pids = pids_at c.in_ok-few.ensures c.if-few-eq0.false c.if-script-pids.false in
    ap query_step (passed_on c.from_residual-in_err-count.ensures) ∙ sym (at_no_count _ _ _ _ pids (refused_at 256 _ _ _ c.in_err-count.ensures))

pub returns-in_err-lines : goal.returns-in_err-lines
returns-in_err-lines c =
    let pids = pids_at c.in_ok-few.ensures c.if-few-eq0.false c.if-script-pids.false in
    ap query_step (passed_on c.from_residual-in_err-lines.ensures) ∙
    sym (at_no_size _ _ _ _ pids _ _ (number_at 256 _ _ c.in_ok-count.ensures) (refused_at 64 _ _ _ c.in_err-lines.ensures))

pub skip_lines-requires : goal.skip_lines-requires
skip_lines-requires c = (number_at 64 _ _ c.in_ok-lines.ensures).inside

pub returns-in_err-next : goal.returns-in_err-next
returns-in_err-next c =
    let pids = pids_at c.in_ok-few.ensures c.if-few-eq0.false c.if-script-pids.false in
    ap query_step (passed_on c.from_residual-in_err-next.ensures) ∙
    sym (at_no_lines _ _ _ _ pids _ _ (number_at 256 _ _ c.in_ok-count.ensures) _ _ (number_at 64 _ _ c.in_ok-lines.ensures) (skip_no _ _ _ _ c.in_err-next.ensures))

pub overflow_cast-result : goal.overflow_cast-result
overflow_cast-result c = omega (arith, (number_at 256 _ _ c.in_ok-count.ensures).within)

pub returns : goal.returns
returns c =
    let pids = pids_at c.in_ok-few.ensures c.if-few-eq0.false c.if-script-pids.false in
    let bytes : Bytes c.args.script.now = all_from (λ b. b < 256) c.args.script.now (λ i h. omega (arith, c.type_inv.script i)) in
    let (ls, rest, h, e) = skip_to _ _ _ c.in_ok-next.ensures in
    sym (at_lines _ _ _ _ pids _ _ (number_at 256 _ _ c.in_ok-count.ensures) _ _ (number_at 64 _ _ c.in_ok-lines.ensures) bytes ls rest _ h e)
