-- A script of calls on each session, with its log worked out by hand from compare/README.md.
use mathlib.Core.Path.{◌≡◌, refl}
use mathlib.Core.Bool.{true}
use mathlib.Core.List.{List, [], ◌∷◌, ◌++◌}
use Prim.Native.Nat.{ℕ}
use lib.ListN.{replicate}
use Rattle.wire.specs.Answer.{unless}
use Rattle.wire.specs.Text.{ascii, has, high, is_space, raised}
use Rattle.hex_text.specs.Digits.{hex_digit}
use Rattle.hex_text.specs.Read.{digit}
use Rattle.pid.specs.J1979.{j1979}
use Rattle.pid.specs.Lengths.{mode01_lengths}
use Rattle.group.specs.Group.{group_bytes}
use Rattle.line_list.specs.Lines.{lines_of_list}
use Rattle.value.specs.Values.{value_format}
use Rattle.at_command.specs.Dialect.{at_kind}
use Rattle.reply.specs.Reply.{line_text, reply_text}
use Rattle.server_session.specs.Session.{fresh_session}
use Rattle.server_session.specs.Bytes.{canonical, byte_taken, byte_says, bytes_say}
use Rattle.server_session.specs.Replies.{answer_says, reply_says}
use Rattle.query.specs.Query.{text_of_query}
use Rattle.reply_lines.specs.Lines.{text_lines}
use Rattle.reply_lines.specs.Decode.{text_line, lines_of_reply}
use Rattle.reply_values.specs.Values.{walked, answer_order}
use Rattle.client_session.specs.Session.{fresh_client}
use Rattle.client_session.specs.Start.{query_says}
use Rattle.client_session.specs.Piece.{reply_takes, piece_says}
use Rattle.client_session.specs.Finish.{finish_says}
use Rattle.driver_log.specs.Log.{turn_at, logged_of, logged_as}
use Rattle.driver_log.specs.Script.{calls}
use Rattle.driver_server.specs.Server.{server_run}
use Rattle.driver_client.specs.Client.{client_at, client_run, stored_of, stored_as}

-- AT@1 answered with `box`, 010D replied to, and the state
abbrev server_calls : List ℕ
server_calls =
    (2 ∷ 5 ∷ 0 ∷ ascii "AT@1\r") ++ ((4 ∷ 3 ∷ 0 ∷ ascii "box") ++ ((2 ∷ 5 ∷ 0 ∷ ascii "010D\r") ++ (3 ∷ 5 ∷ 0 ∷ 0x00 ∷ 0x03 ∷ 0x41 ∷ 0x0D ∷ 0x20 ∷ 0 ∷ 0 ∷ 0 ∷ [])))

abbrev server_log : List ℕ
server_log =
    (65 ∷ 5 ∷ 0 ∷ 5 ∷ 0 ∷ ascii "AT@1\r") ++ ((64 ∷ 0 ∷ 0 ∷ 8 ∷ 0 ∷ ascii "box\r\n\r\n>") ++ ((66 ∷ 5 ∷ 0 ∷ 5 ∷ 0 ∷ ascii "010D\r") ++
    ((64 ∷ 0 ∷ 0 ∷ 13 ∷ 0 ∷ ascii "41 0D 20\r\n\r\n>") ++ ((1 ∷ 1 ∷ 1 ∷ 0 ∷ 0 ∷ 4 ∷ 0 ∷ ascii "010D") ++ (0 ∷ 0 ∷ [])))))

server_log_lem : logged_of (server_run server_calls (turn_at fresh_session 0 (replicate 64 9) (replicate 65 9))) ≡ logged_as 64 (ascii "41 0D 20\r\n\r\n>" ++ replicate 51 9) (server_log ++ (9 ∷ []))
unfolding high is_space raised hex_digit lines_of_list at_kind line_text reply_text canonical unless byte_taken byte_says bytes_say answer_says reply_says calls
server_log_lem = refl

-- 0C and 0D asked of one ECU, their reply in one piece, the finish, and the state with 0C and E0
abbrev speeds : List ℕ
speeds = ascii "410C1AF80D20\r\r>"

abbrev client_calls : List ℕ
client_calls = (7 ∷ 3 ∷ 0 ∷ 1 ∷ 0x0C ∷ 0x0D ∷ []) ++ ((4 ∷ 15 ∷ 0 ∷ speeds) ++ (5 ∷ 0 ∷ 0 ∷ 0 ∷ 2 ∷ 0 ∷ 0x0C ∷ 0xE0 ∷ []))

abbrev values : List ℕ
values = 0x0C ∷ 0x00 ∷ 0x04 ∷ 0x41 ∷ 0x0C ∷ 0x1A ∷ 0xF8 ∷ 0x0D ∷ 0x00 ∷ 0x03 ∷ 0x41 ∷ 0x0D ∷ 0x20 ∷ []

abbrev client_log : List ℕ
client_log =
    (64 ∷ 0 ∷ 0 ∷ 9 ∷ 0 ∷ ascii "010C0D 1\r") ++ ((67 ∷ 0 ∷ 0 ∷ 0 ∷ 0 ∷ []) ++ ((64 ∷ 2 ∷ 0 ∷ 13 ∷ 0 ∷ values) ++
    ((0 ∷ 0 ∷ 1 ∷ 0 ∷ 8 ∷ 0 ∷ ascii "010C0D 1") ++ (2 ∷ 0 ∷ 2 ∷ 0 ∷ 0 ∷ 1 ∷ 0 ∷ 0 ∷ []))))

client_log_lem : stored_of (client_run client_calls (client_at (fresh_client true true) 0 (replicate 4096 0) (replicate 80 9) (replicate 60 9))) ≡
    stored_as 59 (speeds ++ replicate 4081 0) (values ++ replicate 67 9) (client_log ++ (9 ∷ []))
unfolding unless has high is_space hex_digit digit j1979 mode01_lengths group_bytes value_format text_of_query text_lines text_line lines_of_reply walked
    answer_order query_says reply_takes piece_says finish_says calls
client_log_lem = refl
