-- Every starred card holds of the definitions, by computation.
use mathlib.Core.Path.{◌≡◌, refl}
use mathlib.Core.Bool.{true}
use lib.ListN.{replicate}
use Rattle.wire.specs.Answer.{result, refused, unless}
use Rattle.wire.specs.Text.{has, high, is_space, raised}
use Rattle.hex_text.specs.Digits.{hex_digit}
use Rattle.hex_text.specs.Read.{digit}
use Rattle.pid.specs.J1979.{j1979}
use Rattle.pid.specs.Lengths.{mode01_lengths}
use Rattle.group.specs.Group.{group_bytes}
use Rattle.line_list.specs.Lines.{lines_of_list}
use Rattle.value.specs.Values.{value_format}
use Rattle.at_command.specs.Dialect.{at_kind}
use Rattle.reply.specs.Reply.{line_text, reply_text}
use Rattle.server_session.specs.Session.{fresh_session}
use Rattle.server_session.specs.Call.{ServerSaid}
use Rattle.server_session.specs.Bytes.{canonical, byte_taken, byte_says, bytes_say}
use Rattle.client_command.specs.Commands.{framing_effect}
use Rattle.client_session.specs.Session.{fresh_client}
use Rattle.client_session.specs.Call.{sent}
use Rattle.server_session.specs.Replies.{answer_says, reply_says}
use Rattle.query.specs.Query.{text_of_query}
use Rattle.reply_lines.specs.Lines.{text_lines}
use Rattle.reply_lines.specs.Decode.{text_line, lines_of_reply}
use Rattle.reply_values.specs.Values.{walked, answer_order}
use Rattle.reply_values.specs.Learn.{learn_length}
use Rattle.client_session.specs.Start.{command_says, query_says}
use Rattle.client_session.specs.Piece.{reply_takes, piece_says}
use Rattle.client_session.specs.Finish.{finish_says}
use Rattle.cards.specs.Cards.{cards, Hold}
use Rattle.cards.proofs.ExampleLaws.{◌&◌}

pub cards_hold : Hold cards
unfolding has high is_space raised hex_digit digit j1979 mode01_lengths group_bytes lines_of_list value_format at_kind line_text reply_text canonical
    unless byte_taken byte_says bytes_say answer_says reply_says text_of_query text_lines text_line lines_of_reply walked answer_order learn_length framing_effect command_says query_says
    reply_takes piece_says finish_says
cards_hold =
    refl & refl & refl & refl & refl & refl & refl & refl & refl & refl &
    refl & refl & refl & refl & tt

-- card 13: six PIDs pass, seven get 2; byte 128 of a line is stored, the next gets 10
pub six-pids : (query_says 80 (fresh_client true true) (replicate 6 0x0C) 0 true).answer ≡ result sent
unfolding query_says unless text_of_query hex_digit
six-pids = refl

pub seven_pids : (query_says 80 (fresh_client true true) (replicate 7 0x0C) 0 true).answer ≡ refused 2
unfolding query_says unless text_of_query hex_digit
seven_pids = refl

abbrev long : ServerSaid
long = bytes_say 256 fresh_session (replicate 129 65)

pub long-line : (long.answer ≡ refused 10) × (long.taken ≡ 128) × (long.next.line ≡ replicate 128 65)
unfolding bytes_say byte_says unless byte_taken
long-line = (refl, refl, refl)
