-- The server's lines stand in the datasheet's frame, and its data lines have the datasheet's form.
use mathlib.Core.Path.{◌≡◌, refl}
use mathlib.Core.Bool.{Bool, true, false, not, cond}
use mathlib.Core.List.{List, [], ◌∷◌, map}
use Prim.Native.Nat.{ℕ, ◌/◌, ◌%◌, ◌<◌}
use native.Mathlib.Omega.{arith}
use lib.Dec.{T, eqb}
use lib.ListN.{length, get_or}
use Rattle.wire.specs.Text.{ascii, any}
use Rattle.wire.proofs.Cases.{unless, at_below}
use Rattle.wire.proofs.All.{All}
use Rattle.wire.proofs.TextLaws.{any_none}
use Rattle.hex_text.specs.Digits.{hex_digit}
use Rattle.group.specs.Format.{Each}
use Rattle.line_list.specs.Lines.{Line, Fits}
use Rattle.client_state.specs.Settings.{Settings}
use Rattle.reply.specs.Shape.{chip_reply}
use Rattle.reply.specs.Reply.{space_if, data_hex, line_text, reply_text}
use Rattle.reply.proofs.ByteLaws.{line_all}
use Rattle.shape.specs.Datasheet.{breaks_line, Framed, prompt, line_then, capitals, fills, pairs_form, data_form}
use Rattle.shape.specs.Sent.{DataLines, ReplyLines}

-- ---- the frame

-- no line holds a byte of the frame
abbrev pub Plain : List (List ℕ) → Type 0
Plain ls = Each (λ l. any breaks_line l ≡ false) ls

pub chip_framed : (linefeeds : Bool) (ls : List (List ℕ)) → Plain ls → Framed linefeeds ls (chip_reply linefeeds ls)
chip_framed true [] p = prompt
chip_framed false [] p = prompt
chip_framed true (l ∷ ls) p = line_then l ls (chip_reply true ls) p.0 (chip_framed true ls p.1)
chip_framed false (l ∷ ls) p = line_then l ls (chip_reply false ls) p.0 (chip_framed false ls p.1)

-- ---- the lines of a reply hold none

digit_plain : (d : ℕ) → d < 16 → breaks_line (hex_digit d) ≡ false
unfolding hex_digit
digit_plain d h = unless (breaks_line (hex_digit d)) (at_below 16 (λ d. not (breaks_line (hex_digit d))) tt d h)

space_plain : (spaces : Bool) → All (λ c. breaks_line c ≡ false) (space_if spaces)
space_plain true = (refl, tt)
space_plain false = tt

line_plain : (spaces headers : Bool) (l : Line) → any breaks_line (line_text spaces headers l) ≡ false
line_plain spaces headers l =
    any_none breaks_line (line_text spaces headers l) (line_all (λ c. breaks_line c ≡ false) digit_plain spaces (space_plain spaces) headers l)

lines_plain : (spaces headers : Bool) (ls : List Line) → Plain (map (line_text spaces headers) ls)
lines_plain spaces headers [] = tt
lines_plain spaces headers (l ∷ ls) = (line_plain spaces headers l, lines_plain spaces headers ls)

-- the lines that a reply is written with
abbrev pub line_texts : Bool → Bool → List Line → List (List ℕ)
line_texts spaces headers [] = ascii "NO DATA" ∷ []
line_texts spaces headers (l ∷ ls) = map (line_text spaces headers) (l ∷ ls)

texts_plain : (spaces headers : Bool) (ls : List Line) → Plain (line_texts spaces headers ls)
texts_plain spaces headers [] = (refl, tt)
texts_plain spaces headers (l ∷ ls) = lines_plain spaces headers (l ∷ ls)

pub reply-framed : (linefeeds spaces headers : Bool) (ls : List Line) → Framed linefeeds (line_texts spaces headers ls) (reply_text linefeeds spaces headers ls)
unfolding reply_text
reply-framed linefeeds spaces headers [] = chip_framed linefeeds _ (texts_plain spaces headers [])
reply-framed linefeeds spaces headers (l ∷ ls) = chip_framed linefeeds _ (texts_plain spaces headers (l ∷ ls))

-- ---- the form of a data line

is_true : (t : Bool) → T t → t ≡ true
is_true true h = refl
is_true false h = absurd h

is_capital : (n : ℕ) → any (eqb (hex_digit (n % 16))) capitals ≡ true
unfolding hex_digit
is_capital n = is_true _ (at_below 16 (λ d. any (eqb (hex_digit d)) capitals) tt (n % 16) (omega arith))

-- a digit that the form has
is_digit : (d : ℕ) → d < 16 → cond (eqb (get_or capitals d 0) 0x23) (any (eqb (hex_digit d)) capitals) (eqb (hex_digit d) (get_or capitals d 0)) ≡ true
unfolding hex_digit
is_digit d h = is_true _ (at_below 16 (λ d. cond (eqb (get_or capitals d 0) 0x23) (any (eqb (hex_digit d)) capitals) (eqb (hex_digit d) (get_or capitals d 0))) tt d h)

data_fills : (spaces : Bool) (s : List ℕ) → fills (pairs_form spaces (length s)) (data_hex spaces s) ≡ true
data_fills spaces [] = refl
data_fills spaces (b ∷ []) = rw (is_capital (b / 16), is_capital b)
data_fills true (b ∷ c ∷ s) = rw (is_capital (b / 16), is_capital b) (data_fills true (c ∷ s))
data_fills false (b ∷ c ∷ s) = rw (is_capital (b / 16), is_capital b) (data_fills false (c ∷ s))

line-fills : (spaces headers : Bool) (l : Line) → Fits l → fills (data_form spaces headers (length l.bytes)) (line_text spaces headers l) ≡ true
unfolding line_text
line-fills spaces false l f = data_fills spaces l.bytes
line-fills true true l f =
    let n = length l.bytes in
    let high : n / 16 % 16 ≡ n / 16 = omega (arith, f.short) in
    rw (high, is_digit (n / 16) (omega (arith, f.short)), is_digit (n % 16) (omega arith)) (simp is_capital (data_fills true l.bytes))
line-fills false true l f =
    let n = length l.bytes in
    let high : n / 16 % 16 ≡ n / 16 = omega (arith, f.short) in
    rw (high, is_digit (n / 16) (omega (arith, f.short)), is_digit (n % 16) (omega arith)) (simp is_capital (data_fills false l.bytes))

lines_fill : (s : Settings) (ls : List Line) → Each Fits ls → DataLines s ls (map (line_text s.spaces s.headers) ls)
lines_fill s [] f = tt
lines_fill s (l ∷ ls) f = (line-fills s.spaces s.headers l f.0, lines_fill s ls f.1)

pub texts_fill : (s : Settings) (ls : List Line) → Each Fits ls → ReplyLines s ls (line_texts s.spaces s.headers ls)
texts_fill s [] f = refl
texts_fill s (l ∷ ls) f = lines_fill s (l ∷ ls) f
