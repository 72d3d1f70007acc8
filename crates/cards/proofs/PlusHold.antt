-- The examples of replies with a plus hold, by computation.
use mathlib.Core.Path.{refl}
use Rattle.wire.specs.Answer.{unless}
use Rattle.wire.specs.Text.{is_space, raised, has, high}
use Rattle.hex_text.specs.Digits.{hex_digit}
use Rattle.hex_text.specs.Read.{digit}
use Rattle.pid.specs.J1979.{j1979}
use Rattle.pid.specs.Lengths.{mode01_lengths}
use Rattle.group.specs.Group.{group_bytes}
use Rattle.value.specs.Values.{value_format}
use Rattle.query.specs.Query.{text_of_query}
use Rattle.reply_lines.specs.Lines.{text_lines}
use Rattle.reply_lines.specs.Decode.{text_line, lines_of_reply}
use Rattle.reply_values.specs.Values.{walked, answer_order}
use Rattle.reply_values.specs.Learn.{learn_length}
use Rattle.client_command.specs.Commands.{framing_effect}
use Rattle.client_session.specs.Start.{command_says, query_says}
use Rattle.client_session.specs.Piece.{reply_takes, piece_says}
use Rattle.client_session.specs.Finish.{finish_says}
use Rattle.cards.specs.Example.{AsExpected}
use Rattle.cards.specs.Plus.{pluses}
use Rattle.cards.proofs.ExampleLaws.{◌&◌}

pub pluses_hold : AsExpected pluses
unfolding is_space raised has high hex_digit digit j1979 mode01_lengths group_bytes value_format text_of_query text_lines text_line lines_of_reply walked
    answer_order learn_length unless framing_effect command_says query_says reply_takes piece_says finish_says
pluses_hold =
    refl & refl & refl & refl & refl & refl & refl & refl & refl & refl &
    refl & refl & refl & refl & refl & tt
