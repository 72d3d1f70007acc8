-- Document 01's worked example of a run; the same script twice in a record of nine bytes; queries with no data, also repeated (document 02 §13); a malformed script.
use mathlib.Core.Path.{◌≡◌, refl}
use mathlib.Core.Bool.{true, false}
use mathlib.Core.List.{List, [], ◌∷◌, ◌++◌}
use Prim.Native.Nat.{ℕ}
use Rattle.wire.specs.Answer.{result, refused, unless}
use Rattle.wire.specs.Text.{ascii, has, high, is_space, raised}
use Rattle.hex_text.specs.Digits.{hex_digit}
use Rattle.hex_text.specs.Read.{digit}
use Rattle.pid.specs.J1979.{j1979}
use Rattle.pid.specs.Lengths.{mode01_lengths}
use Rattle.group.specs.Group.{group_bytes}
use Rattle.line_list.specs.Lines.{lines_of_list}
use Rattle.value.specs.Values.{value_format}
use Rattle.at_command.specs.Dialect.{at_kind}
use Rattle.reply.specs.Reply.{line_text, reply_text}
use Rattle.server_session.specs.Bytes.{canonical, byte_taken, byte_says, bytes_say}
use Rattle.server_session.specs.Replies.{answer_says, reply_says}
use Rattle.query.specs.Query.{text_of_query}
use Rattle.reply_lines.specs.Lines.{text_lines}
use Rattle.reply_lines.specs.Decode.{text_line, lines_of_reply}
use Rattle.reply_values.specs.Values.{walked, answer_order}
use Rattle.reply_values.specs.Learn.{learn_length}
use Rattle.server_state.specs.declared.FeatureSupport.{FeatureSupport}
use Rattle.server_state.specs.declared.FeatureSupport.TheVariants as support
use Rattle.client_session.specs.Start.{init_says, query_says}
use Rattle.client_session.specs.Piece.{reply_takes, piece_says}
use Rattle.client_session.specs.Finish.{finish_says}
use Rattle.bench.specs.Script.{Query, query, query_format, script}
use Rattle.bench.specs.Exchange.{exchanged}
use Rattle.bench.specs.Deliver.{pieces}
use Rattle.bench.specs.Run.{Bench, initialised, part, run_says}

abbrev worked : List ℕ
worked = 0x01 ∷ 0x0C ∷ 0x02 ∷ 0x01 ∷ 0x00 ∷ 0x04 ∷ 0x41 ∷ 0x0C ∷ 0x1A ∷ 0xF8 ∷ []

abbrev worked_part : List ℕ
worked_part = 0x01 ∷ 0x0C ∷ 0xE9 ∷ 0x0F ∷ 0x04 ∷ 0x41 ∷ 0x0C ∷ 0x1A ∷ 0xF8 ∷ []

-- engine speed asked with no count, and no line for it; vehicle speed, with no line and with one
abbrev no_data : List ℕ
no_data = 0x01 ∷ 0x0C ∷ 0x00 ∷ 0x00 ∷ []

abbrev silent : List ℕ
silent = 0x01 ∷ 0x0D ∷ 0x00 ∷ 0x00 ∷ []

abbrev spoken : List ℕ
spoken = 0x01 ∷ 0x0D ∷ 0x00 ∷ 0x01 ∷ 0x00 ∷ 0x03 ∷ 0x41 ∷ 0x0D ∷ 0x20 ∷ []

abbrev spoken_part : List ℕ
spoken_part = 0x01 ∷ 0x0D ∷ 0xE9 ∷ 0x0F ∷ 0x03 ∷ 0x41 ∷ 0x0D ∷ 0x20 ∷ []

-- a query that equals the one before it is a repeat, and the server hands out that one, answered or not (document 02 §13)
examples :
    (run_says true [] 65536 worked ≡ record { answer = result tt; parts = worked_part ∷ []; handed = ascii "010C1" ∷ [] }) ×
    (run_says true [] 9 (worked ++ worked) ≡ record { answer = refused 6; parts = worked_part ∷ []; handed = ascii "010C1" ∷ ascii "010C1" ∷ [] }) ×
    (run_says true [] 2 (no_data ++ no_data) ≡ record { answer = result tt; parts = (0x00 ∷ []) ∷ (0x00 ∷ []) ∷ []; handed = ascii "010C" ∷ ascii "010C" ∷ [] }) ×
    (run_says true [] 19 (worked ++ silent ++ silent ++ spoken) ≡ record {
      answer = result tt;
      parts = worked_part ∷ (0x00 ∷ []) ∷ (0x00 ∷ []) ∷ spoken_part ∷ [];
      handed = ascii "010C1" ∷ ascii "010D" ∷ ascii "010D" ∷ ascii "010D" ∷ [];
    }) ×
    (run_says false [] 2 (silent ++ silent) ≡ record { answer = result tt; parts = (0x00 ∷ []) ∷ (0x00 ∷ []) ∷ []; handed = ascii "010D" ∷ ascii "010D" ∷ [] }) ×
    (run_says true [] 1 (silent ++ silent) ≡ record { answer = refused 6; parts = (0x00 ∷ []) ∷ []; handed = ascii "010D" ∷ ascii "010D" ∷ [] }) ×
    (run_says true [] 0 silent ≡ record { answer = refused 6; parts = []; handed = ascii "010D" ∷ [] }) ×
    (run_says true [] 9 (0x00 ∷ worked) ≡ record { answer = refused 5; parts = []; handed = [] })
unfolding has high is_space raised hex_digit digit j1979 mode01_lengths group_bytes lines_of_list value_format at_kind line_text reply_text canonical
    unless byte_taken byte_says bytes_say answer_says reply_says text_of_query text_lines text_line lines_of_reply walked answer_order learn_length init_says query_says
    reply_takes piece_says finish_says script query_format exchanged pieces initialised part run_says
examples = (refl, refl, refl, refl, refl, refl, refl, refl)

-- the client's repeat support after some queries of vehicle speed with no line: the second of them goes out as a bare CR, which meets no `?`
abbrev repeat_after : Bench → List Query → FeatureSupport
repeat_after b [] = b.client.server.repeat
repeat_after b (q ∷ qs) = repeat_after (part b q).bench qs

repeat_taken : let q = query (0x0D ∷ []) 0 [] in
    (repeat_after (initialised true []).bench (q ∷ []) ≡ support.Unknown) × (repeat_after (initialised true []).bench (q ∷ q ∷ []) ≡ support.Yes)
unfolding has high is_space raised hex_digit digit j1979 mode01_lengths group_bytes lines_of_list value_format at_kind line_text reply_text canonical
    unless byte_taken byte_says bytes_say answer_says reply_says text_of_query text_lines text_line lines_of_reply walked answer_order learn_length init_says query_says
    reply_takes piece_says finish_says exchanged pieces initialised part
repeat_taken = (refl, refl)
