-- `bench::exchange::exchange` meets its contract.
use mathlib.Core.Path.{ap, ◌∙◌}
use native.Mathlib.Omega.{arith}
use Rattle.wire.specs.Answer.{result}
use Rattle.server_session.specs.Session.{session}
use Rattle.server_session.specs.Call.{server_answer}
use Rattle.bench.proofs.ExchangeLaws.{Heard, place_inside, at_inside, obd_inside, unanswered_lent, at_lent, obd_lent}
use Rattle.bench.proofs.exchange.exchange.Goals as goal
use Rattle.bench.proofs.exchange.exchange.Goals.{After-bytes-heard}

heard : (c : After-bytes-heard) → Heard (session c.args.server) c.args.command.now c.args.out.now c.bytes-heard.result c.bytes-heard.new.out
heard c = record { does = c.bytes-heard.ensures.out_after }

pub slice_bounds-answer-count : goal.slice_bounds-answer-count
slice_bounds-answer-count c = place_inside (heard (goal.at.slice_bounds-answer-count c).After-bytes-heard)

pub slice_bounds-answer-start : goal.slice_bounds-answer-start
slice_bounds-answer-start c = place_inside (heard (goal.at.slice_bounds-answer-start c).After-bytes-heard)

pub slice_bounds-reply-count : goal.slice_bounds-reply-count
slice_bounds-reply-count c = place_inside (heard (goal.at.slice_bounds-reply-count c).After-bytes-heard)

pub slice_bounds-reply-start : goal.slice_bounds-reply-start
slice_bounds-reply-start c = place_inside (heard (goal.at.slice_bounds-reply-start c).After-bytes-heard)

-- what was sent back and an answer are no more than the buffer
pub overflow_add-result : goal.overflow_add-result
overflow_add-result c = omega (arith, at_inside (heard (goal.at.overflow_add-result c).After-bytes-heard) c.answer-said.result _ c.answer-said.ensures.out_after)

pub overflow_add-result-in-Ok-ObdCommand : goal.overflow_add-result-in-Ok-ObdCommand
overflow_add-result-in-Ok-ObdCommand c =
    omega (arith, obd_inside (heard (goal.at.overflow_add-result-in-Ok-ObdCommand c).After-bytes-heard) c.reply-said.result _ _ c.reply-said.ensures.out_after)

pub returns-in-Ok-AtCommand : goal.returns-in-Ok-AtCommand
returns-in-Ok-AtCommand c =
    let is = rw c.in-Ok-AtCommand.is at c.in-Ok-AtCommand.field-0-is in
    at_lent (heard (goal.at.returns-in-Ok-AtCommand c).After-bytes-heard) _ c.answer-said.result c.answer-said.new.out
    (ap server_answer c.in-Ok-AtCommand.is ∙ ap result is) c.answer-said.ensures.out_after

pub returns-in-Ok-ObdCommand : goal.returns-in-Ok-ObdCommand
returns-in-Ok-ObdCommand c =
    let is = rw c.in-Ok-ObdCommand.is at c.in-Ok-ObdCommand.field-0-is in
    obd_lent (heard (goal.at.returns-in-Ok-ObdCommand c).After-bytes-heard) _ c.reply-said.result c.reply-said.new.out
    (ap server_answer c.in-Ok-ObdCommand.is ∙ ap result is) c.reply-said.ensures.out_after

-- no command was handed out
pub returns-in-Ok-Reading : goal.returns-in-Ok-Reading
returns-in-Ok-Reading c = unanswered_lent (heard (goal.at.returns-in-Ok-Reading c).After-bytes-heard) _ (λ room d. grind arith)
