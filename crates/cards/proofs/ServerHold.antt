-- The examples of the server's end hold, by computation.
use mathlib.Core.Path.{refl}
use Rattle.wire.specs.Answer.{unless}
use Rattle.wire.specs.Put.{put_whole}
use Rattle.wire.specs.Text.{high, is_space, raised}
use Rattle.hex_text.specs.Digits.{hex_digit}
use Rattle.line_list.specs.Lines.{lines_of_list}
use Rattle.at_command.specs.Dialect.{at_kind}
use Rattle.reply.specs.Reply.{line_text, reply_text}
use Rattle.reply.specs.Answers.{replied}
use Rattle.reply.specs.Steps.{reply_size}
use Rattle.server_session.specs.Bytes.{canonical, byte_taken, byte_says, bytes_say}
use Rattle.server_session.specs.Replies.{answer_says, reply_says, reject_says}
use Rattle.bench.specs.Exchange.{exchanged}
use Rattle.cards.specs.Example.{AsExpected}
use Rattle.cards.specs.Server.{server_examples, repeats}
use Rattle.cards.proofs.ExampleLaws.{◌&◌}

pub server_holds : AsExpected server_examples
unfolding high is_space raised hex_digit lines_of_list at_kind line_text reply_text put_whole replied reply_size canonical unless byte_taken byte_says bytes_say answer_says reply_says reject_says exchanged
server_holds =
    refl & refl & refl & refl & refl & refl & refl & refl & refl & refl &
    refl & refl & refl & refl & refl & refl & refl & refl & refl & refl &
    refl & refl & refl & refl & refl & refl & refl & refl & tt

pub repeats_hold : AsExpected repeats
unfolding high is_space raised hex_digit lines_of_list at_kind line_text reply_text canonical unless byte_taken byte_says bytes_say answer_says reply_says reject_says exchanged
repeats_hold =
    refl & refl & refl & refl & refl & refl & refl & refl & refl & refl &
    refl & refl & refl & refl & refl & tt
