-- What a vehicle gave, worked out by hand from document 01: card 5's line with its ECU unknown, and a line of 7E9 with a PID outside the table; how many queries fit.
use mathlib.Core.Path.{◌≡◌, refl}
use mathlib.Core.List.{List, [], ◌∷◌}
use lib.ListN.{length}
use Rattle.wire.specs.Answer.{result, refused}
use Rattle.wire.specs.Text.{ascii}
use Rattle.hex_text.specs.Digits.{hex_digit}
use Rattle.group.specs.Group.{group_bytes, list_of}
use Rattle.line_list.specs.Lines.{line}
use Rattle.value.specs.Values.{value_format, values_bytes, read_record}
use Rattle.pid.specs.J1979.{j1979}
use Rattle.query.specs.Query.{text_of_query}
use Rattle.reply.specs.Reply.{line_text, reply_text}
use Rattle.bench.specs.Script.{Query, query}
use Rattle.agreement.specs.Vehicle.{given}
use Rattle.agreement.specs.Ends.{reach}
use Rattle.agreement.specs.Demand.{givens, commands, first_parts}

two_pids : values_bytes (given (line 0 (0x41 ∷ 0x0C ∷ 0x1A ∷ 0xF8 ∷ 0x0D ∷ 0x20 ∷ []) ∷ [])) ≡
    0x0C ∷ 0xE9 ∷ 0x0F ∷ 0x04 ∷ 0x41 ∷ 0x0C ∷ 0x1A ∷ 0xF8 ∷ 0x0D ∷ 0xE9 ∷ 0x0F ∷ 0x03 ∷ 0x41 ∷ 0x0D ∷ 0x20 ∷ []
unfolding value_format group_bytes j1979
two_pids = refl

outside_table : values_bytes (given (line 0x7EA (0x41 ∷ 0xE0 ∷ 0x0D ∷ 0x0C ∷ []) ∷ line 0 (0x42 ∷ 0x0D ∷ 0x20 ∷ []) ∷ [])) ≡ 0xE0 ∷ 0xEA ∷ 0x0F ∷ 0x04 ∷ 0x41 ∷ 0xE0 ∷ 0x0D ∷ 0x0C ∷ []
unfolding value_format group_bytes j1979
outside_table = refl

-- two queries of the worked script: their commands, less spaces; parts of nine bytes each, so that two fit in 18 and one in 17
abbrev twice : List Query
twice = let q = query (0x0C ∷ []) 2 (line 0 (0x41 ∷ 0x0C ∷ 0x1A ∷ 0xF8 ∷ []) ∷ []) in q ∷ q ∷ []

own-texts : commands twice ≡ ascii "010C1" ∷ ascii "010C1" ∷ []
unfolding text_of_query hex_digit
own-texts = refl

two_fit : reach 18 twice (givens twice) ≡ record { fit = 2; answer = result tt }
unfolding reply_text line_text hex_digit value_format group_bytes j1979
two_fit = refl

one_fits : reach 17 twice (givens twice) ≡ record { fit = 1; answer = refused 6 }
unfolding reply_text line_text hex_digit value_format group_bytes j1979
one_fits = refl

-- records of two parts, and the bytes of the first
two_parts_lem : length (list_of (read_record (0x00 ∷ 0x01 ∷ 0x0D ∷ 0xE9 ∷ 0x0F ∷ 0x03 ∷ 0x41 ∷ 0x0D ∷ 0x20 ∷ []))) ≡ 2
unfolding read_record value_format
two_parts_lem = refl

first_part : first_parts 1 (0x01 ∷ 0x0D ∷ 0xE9 ∷ 0x0F ∷ 0x03 ∷ 0x41 ∷ 0x0D ∷ 0x20 ∷ 0x00 ∷ []) ≡ 0x01 ∷ 0x0D ∷ 0xE9 ∷ 0x0F ∷ 0x03 ∷ 0x41 ∷ 0x0D ∷ 0x20 ∷ []
unfolding first_parts read_record value_format group_bytes
first_part = refl
