-- Document 01, server_session.rs, `reply`: "each line as header if on (three digits of the ECU, 7E8 when unknown; two of the length; a space after each if
-- spaces are on), data in capital hex, ending; then ending and `>`." "No lines: `NO DATA`".
use Rattle.std.specs.Prelude.{Bool, cond, List, [], ◌∷◌, ◌++◌, map, ℕ, zero, suc, length}
use Rattle.wire.specs.Text.{ascii}
use Rattle.hex_text.specs.Digits.{hex_digits, hex_byte}
use Rattle.line_list.specs.Lines.{Line}
use Rattle.reply.specs.Shape.{chip_reply}

-- the id of ECU+1: 7E8 when unknown
abbrev pub ecu_id : ℕ → ℕ
ecu_id zero = 0x7E8
ecu_id (suc id) = id

abbrev pub space_if : Bool → List ℕ
space_if spaces = cond spaces (32 ∷ []) []

-- data in capital hex, with a space between two bytes if spaces are on
abbrev pub further_hex : Bool → List ℕ → List ℕ
further_hex spaces [] = []
further_hex spaces (b ∷ s) = space_if spaces ++ (hex_byte b ++ further_hex spaces s)

abbrev pub data_hex : Bool → List ℕ → List ℕ
data_hex spaces [] = []
data_hex spaces (b ∷ s) = hex_byte b ++ further_hex spaces s

abbrev pub header : Bool → Line → List ℕ
header spaces l = hex_digits 3 (ecu_id l.ecu) ++ (space_if spaces ++ (hex_byte (length l.bytes) ++ space_if spaces))

-- a line as text, by spaces and headers
unfoldable pub line_text : Bool → Bool → Line → List ℕ
line_text spaces headers l = cond headers (header spaces l) [] ++ data_hex spaces l.bytes

-- the reply, by linefeeds, spaces and headers: "No lines: `NO DATA`"
unfoldable pub reply_text : Bool → Bool → Bool → List Line → List ℕ
reply_text linefeeds spaces headers [] = chip_reply linefeeds (ascii "NO DATA" ∷ [])
reply_text linefeeds spaces headers (l ∷ ls) = chip_reply linefeeds (map (line_text spaces headers) (l ∷ ls))
