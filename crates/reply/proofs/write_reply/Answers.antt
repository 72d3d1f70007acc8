-- `reply::write_reply` meets its contract: the size decides, and the text is then written whole.
use mathlib.Core.Path.{sym, ap, ◌∙◌}
use Rattle.wire.specs.Put.{count_written}
use Rattle.wire.proofs.TryLaws.{passed_on}
use Rattle.reply.proofs.AnswerLaws.{answer_refused, answer_small, answer_none, answer_room, answer_some}
use Rattle.reply.proofs.write_reply.Goals as goal

pub returns-in_err-size : goal.returns-in_err-size
returns-in_err-size c = ap (λ r. count_written r c.args.out.now) (passed_on c.from_residual.ensures) ∙ answer_refused _ _ _ _ _ _ c.in_err-size.ensures

pub returns-then-out-size : goal.returns-then-out-size
returns-then-out-size c = answer_small _ _ _ _ _ c.in_ok-size.ensures c.if-out-size.true

pub write_lines-requires : goal.write_lines-requires
write_lines-requires c = answer_room _ _ _ _ _ c.in_ok-size.ensures c.if-out-size.false (sym c.if-is_empty.ensures)

pub returns-then-is_empty : goal.returns-then-is_empty
returns-then-is_empty c = answer_none _ _ _ _ _ c.in_ok-size.ensures c.if-out-size.false (sym c.if-is_empty.ensures) c.put_text_reply.ensures

pub returns : goal.returns
returns c = answer_some _ _ _ _ _ c.in_ok-size.ensures c.if-out-size.false (sym c.if-is_empty.ensures) c.write_lines.ensures
