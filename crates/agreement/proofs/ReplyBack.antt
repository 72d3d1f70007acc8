-- The client reads back the lines that the server replied with, in the settings of a framed initialisation: linefeeds and spaces off, headers on. An unknown ECU
-- comes back as 7E8, and NO DATA as a line without data.
use mathlib.Core.Path.{◌≡◌, refl, sym, ap, ◌∙◌}
use mathlib.Core.Bool.{true, false}
use mathlib.Core.List.{List, [], ◌∷◌, ◌++◌, map}
use Prim.Native.Nat.{ℕ, zero, suc, ◌≤◌, ◌<◌}
use native.Mathlib.Omega.{arith}
use lib.ListN.{length}
use Rattle.group.specs.Format.{Each}
use Rattle.wire.specs.Text.{has, is_space}
use Rattle.hex_text.specs.Digits.{hex_digits, hex_byte, hex_bytes}
use Rattle.hex_text.specs.Read.{digit}
use Rattle.line_list.specs.Lines.{Line, line, Fits}
use Rattle.reply.specs.Shape.{chip_reply}
use Rattle.reply.specs.Reply.{ecu_id, further_hex, data_hex, line_text, reply_text}
use Rattle.reply_lines.specs.Lines.{text_lines}
use Rattle.reply_lines.specs.Decode.{text_line, lines_of_reply}
use Rattle.reply_lines.proofs.BackLaws.{plain_line, empty_line_lem, prompt_line, framed_plain, framed_back}
use Rattle.line_list.proofs.LineLaws.{AllBytes}

-- a line with its ECU known
abbrev pub known : Line → Line
known l = line (suc (ecu_id l.ecu)) l.bytes

further : (s : List ℕ) → further_hex false s ≡ hex_bytes s
further [] = refl
further (b ∷ s) = rw (further s)

plainly : (s : List ℕ) → data_hex false s ≡ hex_bytes s
plainly [] = refl
plainly (b ∷ s) = rw (further s)

-- a line's text with its header and no spaces
abbrev chars : Line → List ℕ
chars l = hex_digits 3 (ecu_id l.ecu) ++ (hex_byte (length l.bytes) ++ hex_bytes l.bytes)

some_chars : (l : Line) → 0 < length (chars l)
some_chars l = omega arith

line_as : (l : Line) → line_text false true l ≡ chars l
unfolding line_text
line_as l = rw (plainly l.bytes)

id_small : (e : ℕ) → e ≤ 4096 → ecu_id e < 4096
id_small zero h = omega arith
id_small (suc n) h = omega arith

texts : (ls : List Line) → text_lines (chip_reply false (map (line_text false true) ls)) ≡ map (line_text false true) ls
texts [] = empty_line_lem (62 ∷ []) ∙ prompt_line
texts (l ∷ ls) =
    let rest = chip_reply false (map (line_text false true) ls) in
    ap (λ (t : List ℕ). text_lines (t ++ (13 ∷ rest))) (line_as l) ∙
    plain_line (chars l) rest (framed_plain (ecu_id l.ecu) (length l.bytes) l.bytes) (some_chars l) ∙
    (λ i. sym (line_as l) i ∷ texts ls i)

decoded : (ls : List Line) → Each Fits ls → AllBytes ls → map (text_line true) (map (line_text false true) ls) ≡ map known ls
decoded [] f b = refl
decoded (l ∷ ls) f b =
    let one = ap (text_line true) (line_as l) ∙ framed_back (ecu_id l.ecu) (length l.bytes) l.bytes (id_small l.ecu f.0.known) b.0 in
    (λ i. one i ∷ decoded ls f.1 b.1 i)

-- the lines that the client reads: those of the vehicle, each with its ECU known; and of NO DATA one of ECU 000, without data (card 3)
abbrev pub lines_back : List Line → List Line
lines_back [] = line 1 [] ∷ []
lines_back (l ∷ ls) = map known (l ∷ ls)

no_data_lem : lines_of_reply true (reply_text false false true []) ≡ lines_back []
unfolding reply_text lines_of_reply text_lines text_line has is_space digit
no_data_lem = refl

pub reply_back : (ls : List Line) → Each Fits ls → AllBytes ls → lines_of_reply true (reply_text false false true ls) ≡ lines_back ls
unfolding reply_text lines_of_reply
reply_back [] f b = no_data_lem
reply_back (l ∷ ls) f b = ap (map (text_line true)) (texts (l ∷ ls)) ∙ decoded (l ∷ ls) f b
