-- Examples of replies with a plus. Document 02 §4; what is expected follows from the sentences of documents 01 and 02, and from the lengths of 0C, 0D, 1A and 2B.
use Rattle.std.specs.Prelude.{Bool, true, false, List, [], ◌∷◌, map, ℕ}
use Rattle.std.proofs.Math.Option.{some}
use Prim.Native.String.{String}
use Rattle.wire.specs.Text.{ascii}
use Rattle.pid.specs.Lengths.{length_in}
use Rattle.line_list.specs.Lines.{Line, line}
use Rattle.reply_lines.specs.Decode.{lines_of_reply}
use Rattle.server_state.specs.declared.FeatureSupport.TheVariants as support
use Rattle.server_state.specs.State.{count_in}
use Rattle.client_session.specs.Session.{Client}
use Rattle.client_session.specs.Start.{query_says}
use Rattle.client_session.specs.Call.{ClientSaid}
use Rattle.cards.specs.Example.{Example, example}
use Rattle.cards.specs.Client.{new}
use Rattle.cards.specs.Learning.{framed, finish_with}

-- the lines of a reply, framed or not
abbrev lines_of : Bool → String → List Line
lines_of framing t = lines_of_reply framing (ascii t)

-- one PID asked of a session, and the reply finished
abbrev asked : Client → ℕ → String → ClientSaid
asked c p t = finish_with (query_says 80 c (p ∷ []) 0 false) t

-- E0 with two bytes, the first one's pair bad
abbrev learned : ClientSaid
learned = asked framed 0xE0 "7E8 04 41 E0 +1 02\r\r>"

-- 0D of the ids +12 and +13
abbrev two_ids : ClientSaid
two_ids = asked framed 0x0D "+12 03 41 0D 20\r+13 03 41 0D 21\r\r>"

abbrev pub pluses : List Example
pluses =
    example "a pair with a plus is skipped" (map (lines_of false) ("+41\r\r>" ∷ "+4\r\r>" ∷ "4+\r\r>" ∷ "++\r\r>" ∷ []))
    ((line 0 [] ∷ []) ∷ (line 0 [] ∷ []) ∷ (line 0 [] ∷ []) ∷ (line 0 [] ∷ []) ∷ []) ∷
    example "where it stands: the characters after it stay in their pairs" (map (lines_of false) ("41+C1AF8\r\r>" ∷ "+410C1AF8\r\r>" ∷ "41 0D +2 0\r\r>" ∷ []))
    ((line 0 (0x41 ∷ 0x1A ∷ 0xF8 ∷ []) ∷ []) ∷ (line 0 (0x10 ∷ 0xC1 ∷ 0xAF ∷ []) ∷ []) ∷ (line 0 (0x41 ∷ 0x0D ∷ []) ∷ []) ∷ []) ∷
    example "an id with a plus is 000, which is known" (map (lines_of true) ("+12 04 41 0D 20\r\r>" ∷ "+E8 03 41 0D 20\r\r>" ∷ "7+8 03 41 0D 20\r\r>" ∷ "7E+ 03 41 0D 20\r\r>" ∷ []))
    ((line 1 (0x41 ∷ 0x0D ∷ 0x20 ∷ []) ∷ []) ∷ (line 1 (0x41 ∷ 0x0D ∷ 0x20 ∷ []) ∷ []) ∷ (line 1 (0x41 ∷ 0x0D ∷ 0x20 ∷ []) ∷ []) ∷ (line 1 (0x41 ∷ 0x0D ∷ 0x20 ∷ []) ∷ []) ∷ []) ∷
    example "a length byte with one, which is compared with nothing" (lines_of true "7E8 +3 41 0D 20\r\r>") (line 0x7E9 (0x41 ∷ 0x0D ∷ 0x20 ∷ []) ∷ []) ∷
    example "a framed line of under 5 characters is no hex and keeps it; of 5 it is hex" (map (lines_of true) ("A+1\r\r>" ∷ "+41\r\r>" ∷ "++++\r\r>" ∷ "+++++\r\r>" ∷ []))
    ((line 0 (0x41 ∷ 0x2B ∷ 0x31 ∷ []) ∷ []) ∷ (line 0 (0x2B ∷ 0x34 ∷ 0x31 ∷ []) ∷ []) ∷ (line 0 (0x2B ∷ 0x2B ∷ 0x2B ∷ 0x2B ∷ []) ∷ []) ∷ (line 1 [] ∷ []) ∷ []) ∷
    example "unframed `41+C1AF8`: a value of 1A" (asked new 0x0C "41+C1AF8\r\r>").text (0x1A ∷ 0x00 ∷ 0x03 ∷ 0x41 ∷ 0x1A ∷ 0xF8 ∷ []) ∷
    example "`+1 41 0D 20`: without its first pair it starts with 41" (asked new 0x0D "+1 41 0D 20\r\r>").text (0x0D ∷ 0x00 ∷ 0x03 ∷ 0x41 ∷ 0x0D ∷ 0x20 ∷ []) ∷
    example "framed `+12 04 41 0D 20` and `+E8 03 41 0D 20`: 0D of the ECU 000"
    (map (λ (t : String). (asked framed 0x0D t).text) ("+12 04 41 0D 20\r\r>" ∷ "+E8 03 41 0D 20\r\r>" ∷ []))
    ((0x0D ∷ 0x01 ∷ 0x03 ∷ 0x41 ∷ 0x0D ∷ 0x20 ∷ []) ∷ (0x0D ∷ 0x01 ∷ 0x03 ∷ 0x41 ∷ 0x0D ∷ 0x20 ∷ []) ∷ []) ∷
    example "`7E8 03 41 +D 20`: 20 without data" (asked framed 0x0D "7E8 03 41 +D 20\r\r>").text (0x20 ∷ 0xE9 ∷ 0x0F ∷ 0x02 ∷ 0x41 ∷ 0x20 ∷ []) ∷
    example "`A+1`: 2B" (asked framed 0x0D "A+1\r\r>").text (0x2B ∷ 0x00 ∷ 0x03 ∷ 0x41 ∷ 0x2B ∷ 0x31 ∷ []) ∷
    example "a length learned past a plus: 1" (length_in learned.next.server.pid_lengths 0xE0) (some 1) ∷
    example "which cuts the values to come, and the byte left is a PID without data" (asked learned.next 0xE0 "7E8 04 41 E0 01 02\r\r>").text
    (0x02 ∷ 0xE9 ∷ 0x0F ∷ 0x02 ∷ 0x41 ∷ 0x02 ∷ 0xE0 ∷ 0xE9 ∷ 0x0F ∷ 0x03 ∷ 0x41 ∷ 0xE0 ∷ 0x01 ∷ []) ∷
    example "two ids with a plus are one ECU" two_ids.text (0x0D ∷ 0x01 ∷ 0x03 ∷ 0x41 ∷ 0x0D ∷ 0x20 ∷ 0x0D ∷ 0x01 ∷ 0x03 ∷ 0x41 ∷ 0x0D ∷ 0x21 ∷ []) ∷
    example "and the count is 1" (count_in two_ids.next.server.ecu_counts 0x0D) 2 ∷
    example "0D asked with 0C and bad: multi-PID support is No"
    (finish_with (query_says 80 framed (0x0C ∷ 0x0D ∷ []) 0 true) "7E8 06 41 0C 1A F8 +D 20\r\r>").next.server.multi_pid support.No ∷
    []
