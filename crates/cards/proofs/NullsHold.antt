-- The examples of 00 bytes hold, by computation.
use mathlib.Core.Path.{refl}
use mathlib.Core.Bool.{false}
use mathlib.Core.List.{[], ◌∷◌}
use Rattle.wire.specs.Answer.{unless}
use Rattle.wire.specs.Text.{is_space, raised, has, high}
use Rattle.hex_text.specs.Digits.{hex_digit}
use Rattle.hex_text.specs.Read.{digit}
use Rattle.pid.specs.J1979.{j1979}
use Rattle.pid.specs.Lengths.{mode01_lengths}
use Rattle.group.specs.Group.{group_bytes}
use Rattle.value.specs.Values.{value_format}
use Rattle.query.specs.Query.{text_of_query}
use Rattle.reply_lines.specs.Lines.{text_lines}
use Rattle.reply_lines.specs.Decode.{text_line, lines_of_reply, DecodedAs}
use Rattle.reply_lines.specs.Reader.{line_from}
use Rattle.reply_values.specs.Values.{walked, answer_order}
use Rattle.reply_values.specs.Learn.{learn_length}
use Rattle.reply_values.specs.Read.{read_reply}
use Rattle.client_command.specs.Commands.{framing_effect}
use Rattle.client_session.specs.Start.{init_says, command_says, query_says}
use Rattle.client_session.specs.Piece.{reply_takes, piece_says}
use Rattle.client_session.specs.Finish.{finish_says}
use Rattle.cards.specs.Example.{AsExpected}
use Rattle.cards.specs.Nulls.{nulls}
use Rattle.cards.proofs.ExampleLaws.{◌&◌}

pub nulls_hold : AsExpected nulls
unfolding is_space raised has high hex_digit digit j1979 mode01_lengths group_bytes value_format text_of_query text_lines text_line lines_of_reply line_from walked
    answer_order learn_length unless read_reply framing_effect init_says command_says query_says reply_takes piece_says finish_says
nulls_hold =
    refl & refl & refl & refl & refl & refl & refl & refl & refl & refl &
    refl & refl & refl & refl & refl & refl & refl & refl & refl & refl &
    refl & refl & refl & refl & refl & refl & refl & refl & refl & tt

-- a line with 00 of an unknown ECU decoded into a buffer of two bytes
pub decoded : DecodedAs (text_line false (0x34 ∷ 0x00 ∷ 0x31 ∷ [])) (9 ∷ 9 ∷ []) (record { ecu = 0; len = 1 }) (0x41 ∷ 9 ∷ [])
unfolding hex_digit digit text_line
decoded = record { ecu = refl; bytes = record { next = refl; bytes = refl } }
