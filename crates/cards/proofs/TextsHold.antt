-- The examples of digits, texts and lines hold, by computation.
use mathlib.Core.Path.{◌≡◌, refl}
use mathlib.Core.List.{[], ◌∷◌}
use Prim.Native.Nat.{ℕ, ◌/◌, ◌%◌}
use native.Mathlib.Omega.{arith}
use Rattle.wire.specs.Put.{Put}
use Rattle.wire.specs.Text.{ascii, is_space, raised, has, high}
use Rattle.hex_text.specs.Digits.{hex_digit, hex_byte}
use Rattle.hex_text.specs.Read.{digit}
use Rattle.query.specs.Query.{text_of_query}
use Rattle.reply_lines.specs.Lines.{text_lines}
use Rattle.reply_lines.specs.Decode.{text_line, lines_of_reply, DecodedAs}
use Rattle.reply_lines.specs.Reader.{line_from}
use Rattle.line_list.specs.Lines.{line}
use Rattle.cards.specs.Example.{AsExpected}
use Rattle.cards.specs.Texts.{texts}
use Rattle.cards.proofs.ExampleLaws.{◌&◌}

pub texts_hold : AsExpected texts
unfolding is_space raised has high hex_digit digit text_of_query text_lines text_line lines_of_reply line_from
texts_hold =
    refl & refl & refl & refl & refl & refl & refl & refl & refl & refl &
    refl & refl & refl & refl & refl & refl & refl & refl & refl & refl &
    refl & tt

-- `OK` stored from position 1 on, in a buffer of four bytes and in one of two
pub put_fits : Put (9 ∷ 9 ∷ 9 ∷ 9 ∷ []) 1 (ascii "OK") 3 (9 ∷ 0x4F ∷ 0x4B ∷ 9 ∷ [])
put_fits = record { next = refl; bytes = refl }

pub put_cut : Put (9 ∷ 9 ∷ []) 1 (ascii "OK") 2 (9 ∷ 0x4F ∷ [])
put_cut = record { next = refl; bytes = refl }

-- a line of 7E8 decoded into a buffer of four bytes
pub decoded : DecodedAs (line 0x7E9 (0x41 ∷ 0x0D ∷ 0x20 ∷ [])) (9 ∷ 9 ∷ 9 ∷ 9 ∷ []) (record { ecu = 0x7E9; len = 3 }) (0x41 ∷ 0x0D ∷ 0x20 ∷ 9 ∷ [])
decoded = record { ecu = refl; bytes = record { next = refl; bytes = refl } }

-- a byte's digits go by the low eight bits
pub byte_low : (n : ℕ) → hex_byte (n % 256) ≡ hex_byte n
byte_low n =
    let high : n % 256 / 16 % 16 ≡ n / 16 % 16 = omega arith in
    let low : n % 256 % 16 ≡ n % 16 = omega arith in
    rw (high, low)
