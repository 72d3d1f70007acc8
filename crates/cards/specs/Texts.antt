-- Examples of digits, texts and the lines of a reply. Document 01, client_session.rs and server_session.rs; document 02 §4; the ASCII table.
use Rattle.std.specs.Prelude.{true, false, List, [], ◌∷◌, ◌++◌, map, ℕ, replicate, Some, None}
use Rattle.std.proofs.Math.Option.{none, some}
use Rattle.wire.specs.Text.{ascii, same, begins, is_space, raised, has, high}
use Rattle.wire.specs.Bytes.{held}
use Rattle.hex_text.specs.Digits.{hex_digits, hex_byte, hex_bytes}
use Rattle.hex_text.specs.Read.{digit, hex_number, pair_bytes}
use Rattle.wire.specs.Answer.{number_of}
use Rattle.line_list.specs.Lines.{line}
use Rattle.query.specs.Query.{count_of, text_of_query}
use Rattle.reply_lines.specs.Lines.{text_lines}
use Rattle.reply_lines.specs.Decode.{lines_of_reply}
use Rattle.reply_lines.specs.Reader.{text_step, line_from, past_step, step_text, position_after}
use Rattle.cards.specs.Example.{Example, example}

-- a reply of one line, with an empty line before it, a space after it, and the prompt's line
abbrev speed_reply : List ℕ
speed_reply = ascii "\r410D20 \r\r>"

abbrev pub texts : List Example
texts =
    example "a quoted text" (ascii "OK\r>") (0x4F ∷ 0x4B ∷ 0x0D ∷ 0x3E ∷ []) ∷
    example "09 to 0D and 20" (map is_space (0x08 ∷ 0x09 ∷ 0x0D ∷ 0x0E ∷ 0x20 ∷ 0x21 ∷ [])) (false ∷ true ∷ true ∷ false ∷ true ∷ false ∷ []) ∷
    example "a to z raised" (map raised (ascii "`az{@1")) (ascii "`AZ{@1") ∷
    example "tests on texts"
    (same (ascii "ATI") (ascii "ATI") ∷ same (ascii "ATI") (ascii "AT") ∷ begins (ascii "ATI") (ascii "AT") ∷ begins (ascii "A") (ascii "AT") ∷ []) (true ∷ false ∷ true ∷ false ∷ []) ∷
    example "a byte in a text, and bytes of 80 or more" (has 62 (ascii "\r>") ∷ has 62 (ascii "\r") ∷ high (0x7F ∷ []) ∷ high (0x41 ∷ 0x80 ∷ []) ∷ []) (true ∷ false ∷ false ∷ true ∷ []) ∷
    example "digits" (map digit (ascii "09AFaf")) (map number_of (Some 0 ∷ Some 9 ∷ Some 10 ∷ Some 15 ∷ Some 10 ∷ Some 15 ∷ [])) ∷
    example "signs, and the neighbours of digits, are bad" (map digit (ascii "+-*/:@G`g")) (replicate 9 (number_of None)) ∷
    example "ids" (map (λ (s : List ℕ). hex_number s) (ascii "7e8" ∷ ascii "+12" ∷ ascii "7G8" ∷ ascii "++1" ∷ [])) (some 0x7E8 ∷ none ∷ none ∷ none ∷ []) ∷
    example "an id and a pair, good and bad" (hex_number (ascii "7E8") ∷ hex_number (ascii "8 0") ∷ hex_number (ascii "0c") ∷ hex_number (ascii "+c") ∷ hex_number (ascii "c+") ∷ [])
    (map number_of (Some 0x7E8 ∷ None ∷ Some 0x0C ∷ None ∷ None ∷ [])) ∷
    example "a bad pair and an odd last digit are skipped" (pair_bytes (ascii "1g2A3")) (0x2A ∷ []) ∷
    example "digits written" (hex_digits 3 0x7E8 ++ (hex_digits 3 0x00C ++ (hex_byte 0x0C ++ hex_bytes (0x41 ∷ 0xAF ∷ [])))) (ascii "7E800C0C41AF") ∷
    example "a query's text with no count, 5, 16 and 255" (map (text_of_query (0x0C ∷ [])) (map count_of (None ∷ Some 5 ∷ Some 16 ∷ Some 255 ∷ [])))
    (ascii "010C" ∷ ascii "010C 5" ∷ ascii "010C 16" ∷ ascii "010C 255" ∷ []) ∷
    example "a kept query's text" (held {N = 18} (record { bytes = ascii "010C 1" ++ replicate 12 0xFF; len = 6 })) (ascii "010C 1") ∷
    example "the line of a reply: where it starts and ends, and where the next starts" (line_from speed_reply 0) (text_step (Some (record { start = 1; end = 7; next = 9 }))) ∷
    example "no line after it" (line_from speed_reply 9) (text_step None) ∷
    example "a reader's position and text after a step" (past_step 0 (line_from speed_reply 0) ∷ step_text speed_reply (line_from speed_reply 0)) (9 ∷ ascii "410D20") ∷
    example "where it stands after two, and the second's text" (position_after 2 speed_reply 0 ∷ step_text speed_reply (line_from speed_reply 9)) (9 ∷ []) ∷
    example "the lines of the reply" (text_lines speed_reply) (ascii "410D20" ∷ []) ∷
    example "bytes after the prompt's line count" (text_lines (ascii "\n41 0C\t\r>x\r 41\t0D \r")) (ascii "41 0C" ∷ ascii "41\t0D" ∷ []) ∷
    example "an inner tab is a bad character" (lines_of_reply false (ascii "41\t0D20\r>")) (line 0 (0x41 ∷ 0xD2 ∷ []) ∷ []) ∷
    example "a bad id is 000, and the length byte is compared with nothing" (lines_of_reply true (ascii "X12 FF 41 0D 20\r>")) (line 1 (0x41 ∷ 0x0D ∷ 0x20 ∷ []) ∷ []) ∷
    []
