-- Where a host, a chip or a vehicle does what document 01's rules do not foresee, and what these make of it; docs/HOSTS.md tells of each. The replies are such as ELM327
-- chips are described to send; what is expected of them follows from document 01's rules alone.
use Rattle.std.specs.Prelude.{Bool, true, false, List, [], ◌∷◌, ◌++◌, map, ℕ}
use Rattle.std.proofs.Math.Option.{some}
use Prim.Native.String.{String}
use Rattle.wire.specs.Answer.{Answer, result, refused}
use Rattle.wire.specs.Text.{ascii, joined}
use Rattle.hex_text.specs.Digits.{hex_byte}
use Rattle.pid.specs.Lengths.{mode01_lengths, length_in, entries}
use Rattle.line_list.specs.Lines.{lines_bytes}
use Rattle.value.specs.Values.{values_bytes}
use Rattle.reply_lines.specs.Decode.{lines_of_reply}
use Rattle.reply_values.specs.Values.{values_of}
use Rattle.server_state.specs.declared.FeatureSupport.TheVariants as support
use Rattle.server_state.specs.State.{count_in}
use Rattle.client_session.specs.declared.Failure.TheVariants as failure
use Rattle.client_session.specs.Session.{Client}
use Rattle.client_session.specs.Call.{Progress, sent, over, values, ClientSaid}
use Rattle.client_session.specs.Start.{init_says, query_says}
use Rattle.client_session.specs.Piece.{failure_says}
use Rattle.cards.specs.Example.{Example, example}
use Rattle.cards.specs.Client.{new, reply}
use Rattle.cards.specs.Learning.{framed, finish_with}

-- ---- pieces and replies

-- what each of some pieces says and sends, and the session after them; each but a dropped one completes a reply
abbrev said_to : Client → List String → List (Answer Progress)
said_to c [] = []
said_to c (t ∷ ts) = (reply c t).answer ∷ said_to (reply c t).next ts

abbrev sent_to : Client → List String → List (List ℕ)
sent_to c [] = []
sent_to c (t ∷ ts) = (reply c t).text ∷ sent_to (reply c t).next ts

abbrev hearing : Client → List String → Client
hearing c [] = c
hearing c (t ∷ ts) = hearing (reply c t).next ts

-- one PID asked, of any number of ECUs
abbrev asks : Client → ℕ → ClientSaid
asks c p = query_says 80 c (p ∷ []) 0 false

-- several PIDs asked of a framed session
abbrev asks_all : List ℕ → ClientSaid
asks_all pids = query_says 80 framed pids 0 true

-- a line of a reply, framed or not: its ECU+1, length and data
abbrev line_of : Bool → String → List ℕ
line_of framing t = lines_bytes (lines_of_reply framing (ascii t))

-- ---- the answer to ATZ, and a read that is given up

-- ATZ is sent
abbrev resetting : Client
resetting = (init_says 80 new).next

-- what the chip sends for ATZ, ATE0, ATL0, ATS0 and ATSP0, with ATZ's answer in two pieces; that for ATH1 is still to come
abbrev in_two : List String
in_two = "ATZ\r\r\n\r\nELM327" ∷ " v1.5\r\n\r\n>" ∷ "ATE0\rOK\r\n\r\n>" ∷ "OK\r\r>" ∷ "OK\r\r>" ∷ "OK\r\r>" ∷ []

-- the same in one piece, and then the answer to ATH1
abbrev in_one : List String
in_one = "ATZ\r\r\n\r\nELM327 v1.5\r\n\r\n>" ∷ "ATE0\rOK\r\n\r\n>" ∷ "OK\r\r>" ∷ "OK\r\r>" ∷ "OK\r\r>" ∷ "OK\r\r>" ∷ []

-- the commands of the initialisation after ATZ, and nothing after the last
abbrev set_up : List (List ℕ)
set_up = ascii "ATE0\r" ∷ ascii "ATL0\r" ∷ ascii "ATS0\r" ∷ ascii "ATSP0\r" ∷ ascii "ATH1\r" ∷ [] ∷ []

-- a reply to engine speed
abbrev speed : String
speed = "7E804410C1AF8\r\r>"

-- engine speed asked, and the answer to ATH1 read
abbrev one_behind : ClientSaid
one_behind = finish_with (asks (hearing resetting in_two) 0x0C) "OK\r\r>"

-- engine speed asked, and the read given up
abbrev given_up : ClientSaid
given_up = failure_says 80 (asks framed 0x0C).next failure.Read

abbrev pub hosts : List Example
hosts =
    example "ATZ's answer in one piece: what goes out" (sent_to resetting in_one) set_up ∷
    example "and the first query's value" (finish_with (asks (hearing resetting in_one) 0x0C) speed).text (0x0C ∷ 0xE9 ∷ 0x0F ∷ 0x04 ∷ 0x41 ∷ 0x0C ∷ 0x1A ∷ 0xF8 ∷ []) ∷
    example "in two pieces: the same goes out" (sent_to resetting in_two) set_up ∷
    example "and the initialisation is over before ATH1 is answered"
    (said_to resetting in_two) (result sent ∷ result sent ∷ result sent ∷ result sent ∷ result sent ∷ result over ∷ []) ∷
    example "ATH1's answer is that of the first query, which has no values" one_behind.answer (result (values 0)) ∷
    example "and the first query's is that of the second, here of 0D"
    (finish_with (asks one_behind.next 0x0D) speed).text (0x0C ∷ 0xE9 ∷ 0x0F ∷ 0x04 ∷ 0x41 ∷ 0x0C ∷ 0x1A ∷ 0xF8 ∷ []) ∷
    example "an empty piece stands for ATZ's answer as well" (reply resetting "").text (ascii "ATE0\r") ∷
    example "a read that is given up" given_up.answer (refused 7) ∷
    example "and the late reply is that of the next query, here of 0D"
    (finish_with (asks given_up.next 0x0D) speed).text (0x0C ∷ 0xE9 ∷ 0x0F ∷ 0x04 ∷ 0x41 ∷ 0x0C ∷ 0x1A ∷ 0xF8 ∷ []) ∷
    []

-- ---- replies of vehicles

-- engine speed with the frame filled up by 00
abbrev padded00 : ClientSaid
padded00 = finish_with (asks framed 0x0C) "7E804410C1AF8000000\r\r>"

-- PIDs 0C, 0D, 05 and 11 in two frames
abbrev two_frames : ClientSaid
two_frames = finish_with (asks_all (0x0C ∷ 0x0D ∷ 0x05 ∷ 0x11 ∷ [])) "7E8100A410C1AF80D20\r7E821057B1130000000\r\r>"

-- the same with headers off
abbrev two_lines : ClientSaid
two_lines = finish_with (query_says 80 new (0x0C ∷ 0x0D ∷ 0x05 ∷ 0x11 ∷ []) 0 true) "00A\r0:410C1AF80D20\r1:057B1130000000\r\r>"

-- two messages of the chip in the place of data
abbrev messages : List String
messages = "STOPPED\r\r>" ∷ "UNABLE TO CONNECT\r\r>" ∷ []

-- engine speed from the ECU of a 29-bit id 18DAF1..
abbrev long_id : ℕ → List ℕ
long_id e = ascii "18DAF1" ++ (hex_byte e ++ ascii "04410C1AF8\r\r>")

abbrev pub vehicles : List Example
vehicles =
    example "a frame padded with 00: PID 00 with what is left, which stands first" padded00.text
    (0x00 ∷ 0xE9 ∷ 0x0F ∷ 0x04 ∷ 0x41 ∷ 0x00 ∷ 0x00 ∷ 0x00 ∷ 0x0C ∷ 0xE9 ∷ 0x0F ∷ 0x04 ∷ 0x41 ∷ 0x0C ∷ 0x1A ∷ 0xF8 ∷ []) ∷
    example "whose count is learned, 1" (count_in padded00.next.server.ecu_counts 0x00) 2 ∷
    example "padded with AA: a PID outside the table" (finish_with (asks framed 0x0C) "7E804410C1AF8AAAAAA\r\r>").text
    (0x0C ∷ 0xE9 ∷ 0x0F ∷ 0x04 ∷ 0x41 ∷ 0x0C ∷ 0x1A ∷ 0xF8 ∷ 0xAA ∷ 0xE9 ∷ 0x0F ∷ 0x04 ∷ 0x41 ∷ 0xAA ∷ 0xAA ∷ 0xAA ∷ []) ∷
    example "padded with 55: PID 55 twice, of two bytes and of none" (finish_with (asks framed 0x0D) "7E803410D2055555555\r\r>").text
    (0x0D ∷ 0xE9 ∷ 0x0F ∷ 0x03 ∷ 0x41 ∷ 0x0D ∷ 0x20 ∷ 0x55 ∷ 0xE9 ∷ 0x0F ∷ 0x04 ∷ 0x41 ∷ 0x55 ∷ 0x55 ∷ 0x55 ∷ 0x55 ∷ 0xE9 ∷ 0x0F ∷ 0x02 ∷ 0x41 ∷ 0x55 ∷ []) ∷
    example "a padded frame of E0, three bytes: five are learned"
    (length_in (finish_with (asks framed 0xE0) "7E80541E0010203AAAA\r\r>").next.server.pid_lengths 0xE0) (some 5) ∷
    example "two frames with headers on: no value" two_frames.answer (result (values 0)) ∷
    example "and multi-PID support is No" two_frames.next.server.multi_pid support.No ∷
    example "a second frame that starts with a data byte of 41: a value of F8"
    (finish_with (asks_all (0x0D ∷ 0x05 ∷ 0x0C ∷ [])) "7E81008410D20057B0C\r7E82141F80000000000\r\r>").text
    (0xF8 ∷ 0xE9 ∷ 0x0F ∷ 0x07 ∷ 0x41 ∷ 0xF8 ∷ 0x00 ∷ 0x00 ∷ 0x00 ∷ 0x00 ∷ 0x00 ∷ []) ∷
    example "two frames with headers off: the first one's values" two_lines.text
    (0x0C ∷ 0x00 ∷ 0x04 ∷ 0x41 ∷ 0x0C ∷ 0x1A ∷ 0xF8 ∷ 0x0D ∷ 0x00 ∷ 0x03 ∷ 0x41 ∷ 0x0D ∷ 0x20 ∷ []) ∷
    example "and multi-PID support is Yes" two_lines.next.server.multi_pid support.Yes ∷
    example "the messages as lines, framed" (map (line_of true) messages) ((1 ∷ 1 ∷ 0xED ∷ []) ∷ (1 ∷ 0 ∷ []) ∷ []) ∷
    example "and not framed" (map (line_of false) messages) ((0 ∷ 0 ∷ []) ∷ (0 ∷ 2 ∷ 0xAB ∷ 0xEC ∷ []) ∷ []) ∷
    example "they have no value" (map (λ (t : String). (finish_with (asks framed 0x0C) t).answer) messages) (result (values 0) ∷ result (values 0) ∷ []) ∷
    example "the query is remembered: it is repeated by CR"
    (map (λ (t : String). (asks (finish_with (asks framed 0x0C) t).next 0x0C).text) messages) (ascii "\r" ∷ ascii "\r" ∷ []) ∷
    example "and untested multi-PID support is No"
    (map (λ (t : String). (finish_with (asks_all (0x0C ∷ 0x0D ∷ [])) t).next.server.multi_pid) messages) (support.No ∷ support.No ∷ []) ∷
    example "STOPPED after a value: the count of ECUs so far is learned, 1"
    (count_in (finish_with (asks framed 0x0C) "7E804410C1AF8\rSTOPPED\r\r>").next.server.ecu_counts 0x0C) 2 ∷
    example "a 29-bit id 18DAF110: ECU 18D, and data from the id on" (lines_bytes (lines_of_reply true (long_id 0x10)))
    (0x8E ∷ 0x03 ∷ 6 ∷ 0x11 ∷ 0x00 ∷ 0x44 ∷ 0x10 ∷ 0xC1 ∷ 0xAF ∷ []) ∷
    example "no ECU of such an id gives a value"
    (joined (map (λ e. values_bytes (values_of mode01_lengths (lines_of_reply true (long_id e)))) (entries (λ e. e) 0 256))) [] ∷
    example "a header of three bytes, 48 6B 10: ECU 486, and data from its last digit on" (line_of true "486B10410C1AF822\r\r>")
    (0x87 ∷ 0x09 ∷ 5 ∷ 0x04 ∷ 0x10 ∷ 0xC1 ∷ 0xAF ∷ 0x82 ∷ []) ∷
    example "no value; and after a line SEARCHING... the value alone"
    (map (λ (t : String). (finish_with (asks framed 0x0C) t).text) ("486B10410C1AF822\r\r>" ∷ "SEARCHING...\r7E804410C1AF8\r\r>" ∷ []))
    ([] ∷ (0x0C ∷ 0xE9 ∷ 0x0F ∷ 0x04 ∷ 0x41 ∷ 0x0C ∷ 0x1A ∷ 0xF8 ∷ []) ∷ []) ∷
    example "a line that is marked as wrong: its value, and one of AE" (finish_with (asks framed 0x0C) "7E804410C1AF8 <DATA ERROR\r\r>").text
    (0x0C ∷ 0xE9 ∷ 0x0F ∷ 0x04 ∷ 0x41 ∷ 0x0C ∷ 0x1A ∷ 0xF8 ∷ 0xAE ∷ 0xE9 ∷ 0x0F ∷ 0x02 ∷ 0x41 ∷ 0xAE ∷ []) ∷
    example "a chip that has reset sends no header: ECU 410, one byte AF" (line_of true "41 0C 1A F8\r\r>") (0x91 ∷ 0x08 ∷ 1 ∷ 0xAF ∷ []) ∷
    []
