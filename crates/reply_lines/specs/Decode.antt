-- Document 01, client_session.rs: "Framed: id, length byte (compared with nothing), data; a bad id is 000. Under 5 characters: ECU unknown, raw characters as
-- data." Unframed a line is data alone, its ECU unknown. "Bad pairs and an odd last digit are skipped." Document 02 §2: a 00 is skipped, before anything is counted.
use Rattle.std.specs.Prelude.{◌≡◌, Bool, cond, List, map, ℕ, suc, ltb, length, take, drop}
use Rattle.std.proofs.Math.Option.{get_or}
use Rattle.wire.specs.Put.{Put}
use Rattle.hex_text.specs.Read.{hex_number, pair_bytes}
use Rattle.line_list.specs.Lines.{Line, line}
use Rattle.reply_lines.specs.Lines.{text_lines, characters}
use Rattle.reply_lines.specs.declared.Decoded.{Decoded}

-- the line of a framed line's characters
abbrev pub framed_line : List ℕ → Line
framed_line s = cond (ltb (length s) 5) (line 0 s) (line (suc (get_or (hex_number (take 3 s)) 0)) (pair_bytes (drop 5 s)))

-- the line of a text
unfoldable pub text_line : Bool → List ℕ → Line
text_line framing s = cond framing (framed_line (characters s)) (line 0 (pair_bytes (characters s)))

-- the lines of a reply
unfoldable pub lines_of_reply : Bool → List ℕ → List Line
lines_of_reply framing reply = map (text_line framing) (text_lines reply)

-- r and the buffer left are those of the line l, with buffer lent
pub record DecodedAs (l : Line) (buffer : List ℕ) (r : Decoded) (left : List ℕ) : Type 0 where
  pub ecu : r.ecu ≡ l.ecu
  pub bytes : Put buffer 0 l.bytes r.len left
