-- Document 01's worked example of what `hire` prints of a script, one with the PIDs in both orders, and a malformed one; a run of two parts that a number ended.
use mathlib.Core.Path.{◌≡◌, refl}
use mathlib.Core.List.{[], ◌∷◌}
use Rattle.wire.specs.Answer.{refused, unless}
use Rattle.wire.specs.Text.{ascii, has, high, is_space, raised}
use Rattle.hex_text.specs.Digits.{hex_digit}
use Rattle.hex_text.specs.Read.{digit}
use Rattle.pid.specs.J1979.{j1979}
use Rattle.pid.specs.Lengths.{mode01_lengths}
use Rattle.group.specs.Group.{group_bytes}
use Rattle.line_list.specs.Lines.{lines_of_list}
use Rattle.value.specs.Values.{value_format}
use Rattle.at_command.specs.Dialect.{at_kind}
use Rattle.reply.specs.Reply.{line_text, reply_text}
use Rattle.server_session.specs.Bytes.{canonical, byte_taken, byte_says, bytes_say}
use Rattle.server_session.specs.Replies.{answer_says, reply_says}
use Rattle.query.specs.Query.{text_of_query}
use Rattle.reply_lines.specs.Lines.{text_lines}
use Rattle.reply_lines.specs.Decode.{text_line, lines_of_reply}
use Rattle.reply_values.specs.Values.{walked, answer_order}
use Rattle.reply_values.specs.Learn.{learn_length}
use Rattle.client_session.specs.Start.{init_says, query_says}
use Rattle.client_session.specs.Piece.{reply_takes, piece_says}
use Rattle.client_session.specs.Finish.{finish_says}
use Rattle.bench.specs.Script.{query_format, script}
use Rattle.bench.specs.Exchange.{exchanged}
use Rattle.bench.specs.Deliver.{pieces}
use Rattle.bench.specs.Run.{initialised, part, run_says}
use Rattle.hire_text.specs.Hire.{refused_line, run_text, text_of_record, hire_prints}

-- "Input bytes 01 0C 02 01 00 04 41 0C 1A F8 .. print `01 0C E9 0F 04 41 0C 1A F8`"
example : hire_prints (0x01 ∷ 0x0C ∷ 0x02 ∷ 0x01 ∷ 0x00 ∷ 0x04 ∷ 0x41 ∷ 0x0C ∷ 0x1A ∷ 0xF8 ∷ []) ≡ ascii "01 0C E9 0F 04 41 0C 1A F8\n"
unfolding has high is_space raised hex_digit digit j1979 mode01_lengths group_bytes lines_of_list value_format at_kind line_text reply_text canonical
    unless byte_taken byte_says bytes_say answer_says reply_says text_of_query text_lines text_line lines_of_reply walked answer_order learn_length init_says query_says
    reply_takes piece_says finish_says script query_format exchanged pieces initialised part run_says text_of_record
example = refl

-- document 02 §1: "values now stand by rising PID, and within a PID in reply order". 7E9 and then 7E8, with 0C and 0D in both orders
two_ecus : hire_prints (0x02 ∷ 0x0D ∷ 0x0C ∷ 0x00 ∷ 0x02 ∷ 0xEA ∷ 0x0F ∷ 0x06 ∷ 0x41 ∷ 0x0D ∷ 0x20 ∷ 0x0C ∷ 0x1A ∷ 0xF8 ∷
    0xE9 ∷ 0x0F ∷ 0x06 ∷ 0x41 ∷ 0x0C ∷ 0x00 ∷ 0x01 ∷ 0x0D ∷ 0x21 ∷ []) ≡
    ascii "04 0C EA 0F 04 41 0C 1A F8 0C E9 0F 04 41 0C 00 01 0D EA 0F 03 41 0D 20 0D E9 0F 03 41 0D 21\n"
unfolding has high is_space raised hex_digit digit j1979 mode01_lengths group_bytes lines_of_list value_format at_kind line_text reply_text canonical
    unless byte_taken byte_says bytes_say answer_says reply_says text_of_query text_lines text_line lines_of_reply walked answer_order learn_length init_says query_says
    reply_takes piece_says finish_says script query_format exchanged pieces initialised part run_says text_of_record
two_ecus = refl

-- "a malformed or too long script prints only that"
malformed : hire_prints (0x01 ∷ 0x0C ∷ []) ≡ ascii "refused 5\n"
unfolding script unless query_format run_says refused_line text_of_record
malformed = refl

-- two parts, the first with no value, and the number that ended the run
parts_refused : run_text (record { answer = refused 8; parts = (0x00 ∷ []) ∷ (0x01 ∷ 0x0D ∷ 0xE9 ∷ 0x0F ∷ 0x03 ∷ 0x41 ∷ 0x0D ∷ 0x20 ∷ []) ∷ []; handed = [] }) ≡
    ascii "00\n01 0D E9 0F 03 41 0D 20\nrefused 8\n"
unfolding hex_digit refused_line
parts_refused = refl
