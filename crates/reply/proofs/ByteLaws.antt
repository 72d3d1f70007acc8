-- Laws of the bytes of a reply: lines are capital hex digits and spaces, and the only prompt stands at the end.
use mathlib.Core.Path.{◌≡◌, refl, ap, ◌∙◌}
use mathlib.Core.Bool.{Bool, true, false, not, cond}
use mathlib.Core.List.{List, [], ◌∷◌, ◌++◌, map, append_assoc}
use Prim.Native.Nat.{ℕ, ◌<◌}
use lib.ListN.{length}
use lib.Dec.{T, eqb, leb}
use Rattle.wire.specs.Text.{ascii, any, has, high}
use Rattle.wire.proofs.Cases.{by_test, from_no, unless, below, at_below}
use Rattle.wire.proofs.TextLaws.{any_append, any_none, has-append}
use Rattle.client_state.specs.Settings.{line_ending}
use Rattle.hex_text.specs.Digits.{hex_digit, hex_digits, hex_byte}
use Rattle.wire.proofs.All.{All, all_append}
use Rattle.hex_text.proofs.DigitLaws.{digits_all}
use Rattle.line_list.specs.Lines.{Line}
use Rattle.reply.specs.Shape.{chip_reply}
use Rattle.reply.specs.Reply.{ecu_id, space_if, further_hex, data_hex, header, line_text, reply_text}

-- all that the chip sends for some lines of text but the prompt
abbrev chip_body : Bool → List (List ℕ) → List ℕ
chip_body linefeeds [] = line_ending linefeeds
chip_body linefeeds (l ∷ ls) = l ++ (line_ending linefeeds ++ chip_body linefeeds ls)

chip_prompt : (linefeeds : Bool) (ls : List (List ℕ)) → chip_reply linefeeds ls ≡ chip_body linefeeds ls ++ (62 ∷ [])
chip_prompt linefeeds [] = refl
chip_prompt linefeeds (l ∷ ls) =
    rw (append_assoc l (line_ending linefeeds ++ chip_body linefeeds ls) (62 ∷ []), append_assoc (line_ending linefeeds) (chip_body linefeeds ls) (62 ∷ []), chip_prompt linefeeds ls)

-- a reply without its prompt
unfoldable pub reply_body : Bool → Bool → Bool → List Line → List ℕ
reply_body linefeeds spaces headers [] = chip_body linefeeds (ascii "NO DATA" ∷ [])
reply_body linefeeds spaces headers (l ∷ ls) = chip_body linefeeds (map (line_text spaces headers) (l ∷ ls))

pub reply_prompt : (linefeeds spaces headers : Bool) (ls : List Line) → reply_text linefeeds spaces headers ls ≡ reply_body linefeeds spaces headers ls ++ (62 ∷ [])
unfolding reply_text reply_body
reply_prompt linefeeds spaces headers [] = chip_prompt linefeeds (ascii "NO DATA" ∷ [])
reply_prompt linefeeds spaces headers (l ∷ ls) = chip_prompt linefeeds (map (line_text spaces headers) (l ∷ ls))

-- What holds of the sixteen digits, and of a space if spaces are on, holds of every byte of a line; and what holds of the endings and of `NO DATA`
-- besides holds of every byte before the prompt.
module _ (P : ℕ → Type 0) (digit : (d : ℕ) → d < 16 → P (hex_digit d)) (spaces : Bool) (space : All P (space_if spaces)) where
  further_all : (s : List ℕ) → All P (further_hex spaces s)
  further_all [] = tt
  further_all (b ∷ s) =
      all_append P (space_if spaces) (hex_byte b ++ further_hex spaces s) space
      (all_append P (hex_byte b) (further_hex spaces s) (digits_all P digit 2 b) (further_all s))

  data_all : (s : List ℕ) → All P (data_hex spaces s)
  data_all [] = tt
  data_all (b ∷ s) = all_append P (hex_byte b) (further_hex spaces s) (digits_all P digit 2 b) (further_all s)

  header_all : (headers : Bool) (l : Line) → All P (cond headers (header spaces l) [])
  header_all true l =
      let size = hex_byte (length l.bytes) in
      all_append P (hex_digits 3 (ecu_id l.ecu)) (space_if spaces ++ (size ++ space_if spaces)) (digits_all P digit 3 (ecu_id l.ecu))
      (all_append P (space_if spaces) (size ++ space_if spaces) space
      (all_append P size (space_if spaces) (digits_all P digit 2 (length l.bytes)) space))
  header_all false l = tt

  pub line_all : (headers : Bool) (l : Line) → All P (line_text spaces headers l)
  unfolding line_text
  line_all headers l = all_append P (cond headers (header spaces l) []) (data_hex spaces l.bytes) (header_all headers l) (data_all l.bytes)

  module _ (linefeeds : Bool) (ending : All P (line_ending linefeeds)) (nothing : All P (ascii "NO DATA")) where
    lines_all : (headers : Bool) (ls : List Line) → All P (chip_body linefeeds (map (line_text spaces headers) ls))
    lines_all headers [] = ending
    lines_all headers (l ∷ ls) =
        let rest = chip_body linefeeds (map (line_text spaces headers) ls) in
        all_append P (line_text spaces headers l) (line_ending linefeeds ++ rest) (line_all headers l)
        (all_append P (line_ending linefeeds) rest ending (lines_all headers ls))

    pub body_all : (headers : Bool) (ls : List Line) → All P (reply_body linefeeds spaces headers ls)
    unfolding reply_body
    body_all headers [] =
        all_append P (ascii "NO DATA") (line_ending linefeeds ++ line_ending linefeeds) nothing
        (all_append P (line_ending linefeeds) (line_ending linefeeds) ending ending)
    body_all headers (l ∷ ls) = lines_all headers (l ∷ ls)

-- A test that no digit passes, nor a space, CR, LF or a letter of `NO DATA`: nothing before the prompt passes it.
module _ (f : ℕ → Bool) where
  none_any : (s : List ℕ) → any f s ≡ false → All (λ c. f c ≡ false) s
  none_any [] q = tt
  none_any (c ∷ s) q =
      by_test (f c)
      (λ e. let r : true ≡ false = rw e at q in from_no (cc))
      (λ e. (e, none_any s (rw e at q)))

  module _ (digits : T (below 16 (λ d. not (f (hex_digit d))))) (others : any f (ascii " \r\nNO DATA") ≡ false) where
    each : All (λ c. f c ≡ false) (ascii " \r\nNO DATA")
    each = none_any (ascii " \r\nNO DATA") others

    space_none : (spaces : Bool) → All (λ c. f c ≡ false) (space_if spaces)
    space_none true = (each.0, tt)
    space_none false = tt

    ending_none : (linefeeds : Bool) → All (λ c. f c ≡ false) (line_ending linefeeds)
    ending_none true = (each.1.0, (each.1.1.0, tt))
    ending_none false = (each.1.0, tt)

    pub body_none : (linefeeds spaces headers : Bool) (ls : List Line) → any f (reply_body linefeeds spaces headers ls) ≡ false
    body_none linefeeds spaces headers ls =
        any_none f (reply_body linefeeds spaces headers ls)
        (body_all (λ c. f c ≡ false) (λ d h. unless (f (hex_digit d)) (at_below 16 (λ d. not (f (hex_digit d))) digits d h)) spaces (space_none spaces) linefeeds (ending_none linefeeds)
        each.1.1.1 headers ls)

-- the prompt stands at the end alone
pub body_prompt : (linefeeds spaces headers : Bool) (ls : List Line) → has 62 (reply_body linefeeds spaces headers ls) ≡ false
unfolding has hex_digit
body_prompt linefeeds spaces headers ls = body_none (λ c. eqb c 62) tt refl linefeeds spaces headers ls

-- no 00, so that a client discards nothing of it (document 02 §2)
pub body_nulls : (linefeeds spaces headers : Bool) (ls : List Line) → has 0 (reply_body linefeeds spaces headers ls) ≡ false
unfolding has hex_digit
body_nulls linefeeds spaces headers ls = body_none (λ c. eqb c 0) tt refl linefeeds spaces headers ls

pub reply-nulls : (linefeeds spaces headers : Bool) (ls : List Line) → has 0 (reply_text linefeeds spaces headers ls) ≡ false
unfolding has
reply-nulls linefeeds spaces headers ls =
    ap (has 0) (reply_prompt linefeeds spaces headers ls)
    ∙ has-append 0 (reply_body linefeeds spaces headers ls) (62 ∷ [])
    ∙ rw (body_nulls linefeeds spaces headers ls)

-- no byte of 80 or more
pub reply_low : (linefeeds spaces headers : Bool) (ls : List Line) → high (reply_text linefeeds spaces headers ls) ≡ false
unfolding high hex_digit
reply_low linefeeds spaces headers ls =
    ap (any (leb 128)) (reply_prompt linefeeds spaces headers ls)
    ∙ any_append (leb 128) (reply_body linefeeds spaces headers ls) (62 ∷ [])
    ∙ rw (body_none (leb 128) tt refl linefeeds spaces headers ls)
