-- Examples of the server's end. Document 01, lib.rs and server_session.rs; the texts of the Rust's `handle_at_command`; the ELM327 datasheet's shape of a reply.
use Rattle.std.specs.Prelude.{true, false, List, [], ◌∷◌, ◌++◌, map, ℕ, ◌-◌, length, replicate, Ok, Err}
use Prim.Native.String.{String}
use Rattle.wire.specs.Answer.{Answer, result, refused, number}
use Rattle.wire.specs.Put.{count_written}
use Rattle.wire.specs.declared.Refusal.TheVariants.{OutOfTurn, PidCount, TooLong, NotAscii, Malformed, SmallBuffer, Disconnected, ReplyTooLong, ReplyNotAscii, LineFull, ByteNotAscii}
use Rattle.wire.specs.Text.{ascii}
use Rattle.at_command.specs.Dialect.{at_kind, kind_lines}
use Rattle.reply.specs.Shape.{chip_reply}
use Rattle.reply.specs.Answers.{replied}
use Rattle.reply.specs.Steps.{reply_size}
use Rattle.server_session.specs.Session.{Session, fresh_session}
use Rattle.server_session.specs.declared.Phase.{Phase}
use Rattle.server_session.specs.declared.Phase.TheVariants.{Reading, AtCommand, ObdCommand}
use Rattle.server_session.specs.declared.ServerSession.{ServerSession}
use Rattle.server_session.specs.Call.{server_lent, server_step}
use Rattle.server_session.specs.Bytes.{byte_says, bytes_say}
use Rattle.server_session.specs.Replies.{answer_says, reply_says, reject_says}
use Rattle.bench.specs.Exchange.{exchanged}
use Rattle.cards.specs.Example.{Example, example}
use Rattle.cards.specs.Numbers.{speed_line}

-- an array of 128 bytes that starts with a text
abbrev padded : List ℕ → List ℕ
padded s = s ++ replicate (128 - length s) 0

-- a ServerSession with fresh settings, a last command, a line and a phase
abbrev server_holding : String → String → Phase → ServerSession
server_holding last l p = record {
  state = record {
    echo_enabled = true;
    linefeeds_enabled = true;
    spaces_enabled = true;
    headers_enabled = false;
    last_obd_command = record { bytes = padded (ascii last); len = length (ascii last) };
  };
  line = record { bytes = padded (ascii l); len = length (ascii l) };
  phase = p;
}

-- the session after a command line, and after its reply of one line
abbrev after_line : Session → String → Session
after_line s t = (bytes_say 64 s (ascii t ++ (13 ∷ []))).next

abbrev after_reply : Session
after_reply = (reply_says 64 (after_line fresh_session "010D") speed_line).next

-- what a session sends for an AT command, echo included, and the session after it
abbrev at_sends : Session → String → List ℕ
at_sends s t = (bytes_say 64 s (ascii t ++ (13 ∷ []))).text ++ (answer_says 48 (after_line s t) (ascii "ELM327 v1.5") (ascii "ELM327")).text

abbrev after_answers : Session → List String → Session
after_answers s [] = s
after_answers s (t ∷ ts) = after_answers (answer_says 48 (after_line s t) (ascii "ELM327 v1.5") (ascii "ELM327")).next ts

-- a text with CR LF CR LF and the prompt
abbrev with_prompt : String → List ℕ
with_prompt t = ascii t ++ (13 ∷ 10 ∷ 13 ∷ 10 ∷ 62 ∷ [])

-- the settings of a client that initialises with headers: only these on
abbrev quiet : List String
quiet = "ATE0" ∷ "ATL0" ∷ "ATS0" ∷ "ATSP0" ∷ "ATH1" ∷ []

abbrev pub server_examples : List Example
server_examples =
    example "a byte is echoed and stored" (server_lent (byte_says 8 fresh_session 65) (replicate 8 9))
    (server_step (record { answer = Ok Reading; taken = 1; written = 1; session = server_holding "" "A" Reading }) (65 ∷ replicate 7 9)) ∷
    example "a line is echoed, and its command handed out" (server_lent (bytes_say 16 fresh_session (ascii "01 0d\rA")) (replicate 16 9))
    (server_step (record { answer = Ok ObdCommand; taken = 6; written = 6; session = server_holding "" "010D" ObdCommand }) (ascii "01 0d\r" ++ replicate 10 9)) ∷
    example "LF is echoed and not stored" ((bytes_say 64 fresh_session (ascii "A\nT")).text ∷ (bytes_say 64 fresh_session (ascii "A\nT")).next.line ∷ []) (ascii "A\nT" ∷ ascii "AT" ∷ []) ∷
    example "a byte of 80, room for 7, and a command handed out"
    ((byte_says 64 fresh_session 0x80).answer ∷ (byte_says 7 fresh_session 65).answer ∷ (byte_says 64 (after_line fresh_session "010D") 65).answer ∷ [])
    (refused 11 ∷ refused 6 ∷ refused 1 ∷ []) ∷
    example "a reply becomes the last command" (server_lent (reply_says 13 (after_line fresh_session "010D") speed_line) (replicate 14 9))
    (server_step (record { answer = Ok Reading; taken = 0; written = 13; session = server_holding "010D" "" Reading }) (with_prompt "41 0D 20" ++ (9 ∷ []))) ∷
    example "its 13 bytes in room for 12" (reply_says 12 (after_line fresh_session "010D") speed_line).answer (refused 6) ∷
    example "then CR hands it out again" ((after_line after_reply "").phase ∷ []) (ObdCommand ∷ []) ∷
    example "as it was" (after_line after_reply "").line (ascii "010D") ∷
    example "a reply without lines, whose command becomes the last one too" (server_lent (reply_says 12 (after_line after_reply "010C") []) (replicate 13 9))
    (server_step (record { answer = Ok Reading; taken = 0; written = 12; session = server_holding "010C" "" Reading }) (with_prompt "NO DATA" ++ (9 ∷ []))) ∷
    example "a rejection" (reject_says 64 (after_line after_reply "010C") (ascii "UNABLE TO CONNECT")).text (with_prompt "UNABLE TO CONNECT") ∷
    example "it leaves the last command" (reject_says 64 (after_line after_reply "010C") (ascii "?")).next.state.last (ascii "010D") ∷
    example "rejections out of turn, too long, not ASCII, and with little room"
    ((reject_says 64 fresh_session []).answer ∷ (reject_says 99 (after_line after_reply "010C") (replicate 65 65)).answer ∷
    (reject_says 99 (after_line after_reply "010C") (0x80 ∷ [])).answer ∷ (reject_says 5 (after_line after_reply "010C") (ascii "?")).answer ∷ [])
    (refused 1 ∷ refused 3 ∷ refused 4 ∷ refused 6 ∷ []) ∷
    example "the numbers of document 01"
    (map number (OutOfTurn ∷ PidCount ∷ TooLong ∷ NotAscii ∷ Malformed ∷ SmallBuffer ∷ Disconnected ∷ ReplyTooLong ∷ ReplyNotAscii ∷ LineFull ∷ ByteNotAscii ∷ []))
    (1 ∷ 2 ∷ 3 ∷ 4 ∷ 5 ∷ 6 ∷ 7 ∷ 8 ∷ 9 ∷ 10 ∷ 11 ∷ []) ∷
    example "the size of a reply" (reply_size true true false speed_line ∷ reply_size true true false (0 ∷ []) ∷ []) (result 13 ∷ refused 5 ∷ []) ∷
    example "a reply in 14 bytes" (replied true true false speed_line (replicate 14 9)) (count_written (Ok 13) (with_prompt "41 0D 20" ++ (9 ∷ []))) ∷
    example "a reply in 12 bytes, and of a malformed list" (replied true true false speed_line (replicate 12 9) ∷ replied true true false (0 ∷ []) (9 ∷ []) ∷ [])
    (count_written (Err SmallBuffer) (replicate 12 9) ∷ count_written (Err Malformed) (9 ∷ []) ∷ []) ∷
    example "the chip's replies, with linefeeds off" (chip_reply false (ascii "7E804410C1AF8" ∷ ascii "7E904410C1AF8" ∷ [])) (ascii "7E804410C1AF8\r7E904410C1AF8\r\r>") ∷
    example "AT answers after the echo" (map (at_sends fresh_session) ("ATRV" ∷ "ATDP" ∷ "ATDPN" ∷ "ATI" ∷ "AT@1" ∷ "at st 96" ∷ "AT" ∷ "ATDPX" ∷ []))
    (with_prompt "ATRV\r12.6V" ∷ with_prompt "ATDP\rAUTO, ISO 15765-4 (CAN 11/500)" ∷ with_prompt "ATDPN\rA6" ∷ with_prompt "ATI\rELM327 v1.5" ∷
    with_prompt "AT@1\rELM327" ∷ with_prompt "at st 96\rOK" ∷ with_prompt "AT\r?" ∷ with_prompt "ATDPX\r?" ∷ []) ∷
    example "settings after ATE0, ATL0, ATS0, ATSP0 and ATH1" (after_answers fresh_session quiet).state (record { echo = false; linefeeds = false; spaces = false; headers = true; last = [] }) ∷
    example "an answer under them" (at_sends (after_answers fresh_session quiet) "ATI") (ascii "ELM327 v1.5\r\r>") ∷
    example "ATZ after them and after a reply" (at_sends (after_answers after_reply quiet) "ATZ") (with_prompt "\r\n\r\nELM327 v1.5") ∷
    example "which makes all fresh" (after_answers (after_answers after_reply quiet) ("ATZ" ∷ [])) fresh_session ∷
    example "as do ATE1, ATL1, ATS1 and ATH0" (after_answers (after_answers fresh_session quiet) ("ATE1" ∷ "ATL1" ∷ "ATS1" ∷ "ATH0" ∷ [])) fresh_session ∷
    example "AT answers out of turn, with identity strings too long and not ASCII, and with little room"
    ((answer_says 48 fresh_session [] []).answer ∷ (answer_says 48 (after_line fresh_session "ATRV") [] (replicate 33 65)).answer ∷
    (answer_says 48 (after_line fresh_session "ATRV") (0x80 ∷ []) []).answer ∷ (answer_says 47 (after_line fresh_session "ATRV") [] []).answer ∷ [])
    (refused 1 ∷ refused 3 ∷ refused 4 ∷ refused 6 ∷ []) ∷
    example "the identity strings of ATI and AT@1"
    (map (λ (c : List ℕ). kind_lines (ascii "ELM327 v1.5") (ascii "ELM327") (at_kind c)) (ascii "ATI" ∷ ascii "AT@1" ∷ [])) ((ascii "ELM327 v1.5" ∷ []) ∷ (ascii "ELM327" ∷ []) ∷ []) ∷
    example "an exchange" (exchanged 60 fresh_session (ascii "AT@1\r") speed_line) (record { next = fresh_session; text = with_prompt "AT@1\rELM327"; handed = [] }) ∷
    example "what an exchange sends for a query" (exchanged 60 fresh_session (ascii "010D\r") speed_line).text (with_prompt "010D\r41 0D 20") ∷
    example "and hands out" (exchanged 60 fresh_session (ascii "010D\r") speed_line).handed (ascii "010D" ∷ []) ∷
    []

-- ---- document 02 §13: "a query answered NO DATA now becomes the server's last command too; a rejected one still doesn't", and of document 01 the wrong turn "remembering a
-- query answered NO DATA at the server" "falls"

-- the session after a command line and its reply, of one line or of none; and after its rejection
abbrev after_lines : Session → String → Session
after_lines s t = (reply_says 64 (after_line s t) speed_line).next

abbrev after_no_data : Session → String → Session
after_no_data s t = (reply_says 64 (after_line s t) []).next

abbrev after_reject : Session → String → String → Session
after_reject s t text = (reject_says 64 (after_line s t) (ascii text)).next

-- what a bare CR sends, and the phase and the line then: a command is handed out, or `?` is written
abbrev by_cr : Session → List ℕ × Phase × List ℕ
by_cr s = let d = bytes_say 64 s (13 ∷ []) in (d.text, d.next.phase, d.next.line)

abbrev hands_out : String → List ℕ × Phase × List ℕ
hands_out t = (ascii "\r", ObdCommand, ascii t)

abbrev is_unknown : List ℕ × Phase × List ℕ
is_unknown = (with_prompt "\r?", Reading, [])

-- the answer of a reply with some room, and the last command, the phase and the line then
abbrev reply_leaves : ℕ → Session → List ℕ → Answer Phase × List ℕ × Phase × List ℕ
reply_leaves room s list = let d = reply_says room s list in (d.answer, d.next.state.last, d.next.phase, d.next.line)

abbrev pub repeats : List Example
repeats =
    example "0C with a line, then 0D with NO DATA: CR hands out 0D" (by_cr (after_no_data (after_lines fresh_session "010C") "010D")) (hands_out "010D") ∷
    example "0D with NO DATA, first of all" (by_cr (after_no_data fresh_session "010D")) (hands_out "010D") ∷
    example "as its command, without spaces and in capitals" (by_cr (after_no_data fresh_session " 01 0d")) (hands_out "010D") ∷
    example "one of 128 bytes whole" (by_cr (reply_says 64 (bytes_say 200 fresh_session (replicate 128 50 ++ (13 ∷ []))).next []).next) (ascii "\r", ObdCommand, replicate 128 50) ∷
    example "and once more, when CR gets NO DATA, a line or a rejection"
    (by_cr (after_no_data (after_no_data fresh_session "010D") "") ∷ by_cr (after_lines (after_no_data fresh_session "010D") "") ∷
    by_cr (after_reject (after_no_data fresh_session "010D") "" "?") ∷ []) (hands_out "010D" ∷ hands_out "010D" ∷ hands_out "010D" ∷ []) ∷
    example "the next with a line, or with NO DATA, takes its place"
    (by_cr (after_lines (after_no_data fresh_session "010D") "010C") ∷ by_cr (after_no_data (after_no_data fresh_session "010D") "010C") ∷ []) (hands_out "010C" ∷ hands_out "010C" ∷ []) ∷
    example "0C with a line, then 0D rejected, also with the text NO DATA: CR hands out 0C"
    (map (λ (t : String). by_cr (after_reject (after_lines fresh_session "010C") "010D" t)) ("NO DATA" ∷ "?" ∷ "" ∷ [])) (hands_out "010C" ∷ hands_out "010C" ∷ hands_out "010C" ∷ []) ∷
    example "0D with NO DATA, then 0C rejected: CR hands out 0D" (by_cr (after_reject (after_no_data fresh_session "010D") "010C" "NO DATA")) (hands_out "010D") ∷
    example "0D rejected with NO DATA, first of all: CR gets `?`" (by_cr (after_reject fresh_session "010D" "NO DATA")) is_unknown ∷
    example "ATZ after NO DATA: CR gets `?`" (by_cr (after_answers (after_no_data fresh_session "010D") ("ATZ" ∷ []))) is_unknown ∷
    example "other AT commands leave the last one"
    (map (λ (t : String). by_cr (after_answers (after_no_data fresh_session "010D") (t ∷ []))) ("ATH1" ∷ "ATI" ∷ "AT" ∷ [])) (hands_out "010D" ∷ hands_out "010D" ∷ hands_out "010D" ∷ []) ∷
    example "1, 5 and 6 leave it, and the command handed out; NO DATA with linefeeds takes 12 bytes"
    (reply_leaves 64 after_reply [] ∷ reply_leaves 64 (after_line after_reply "ATI") [] ∷ reply_leaves 64 (after_line after_reply "010C") (0 ∷ []) ∷
    reply_leaves 12 (after_line after_reply "010C") speed_line ∷ reply_leaves 11 (after_line after_reply "010C") [] ∷ [])
    ((refused 1, ascii "010D", Reading, []) ∷ (refused 1, ascii "010D", AtCommand, ascii "ATI") ∷ (refused 5, ascii "010D", ObdCommand, ascii "010C") ∷
    (refused 6, ascii "010D", ObdCommand, ascii "010C") ∷ (refused 6, ascii "010D", ObdCommand, ascii "010C") ∷ []) ∷
    example "and without linefeeds 10"
    (reply_leaves 9 (after_line (after_answers after_reply quiet) "010C") [] ∷ reply_leaves 10 (after_line (after_answers after_reply quiet) "010C") [] ∷ [])
    ((refused 6, ascii "010D", ObdCommand, ascii "010C") ∷ (result Reading, ascii "010C", Reading, []) ∷ []) ∷
    example "an exchange with no lines" (exchanged 60 fresh_session (ascii "010D\r") [])
    (record { next = after_no_data fresh_session "010D"; text = with_prompt "010D\rNO DATA"; handed = ascii "010D" ∷ [] }) ∷
    example "and of CR after it" (exchanged 60 (after_no_data fresh_session "010D") (ascii "\r") [])
    (record { next = after_no_data fresh_session "010D"; text = with_prompt "\rNO DATA"; handed = ascii "010D" ∷ [] }) ∷
    []
