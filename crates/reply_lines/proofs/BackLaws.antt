-- Lines read back: a text of plain characters that ends in CR is one line of a reply, and capital hex in the framed form decodes to what it was written from.
use mathlib.Core.Path.{◌≡◌, refl, ap, ◌∙◌}
use mathlib.Core.Bool.{true, false, not}
use mathlib.Core.List.{List, [], ◌∷◌, ◌++◌, reverse_aux, reverse, reverse-reverse}
use Prim.Native.Nat.{ℕ, suc, ◌≤◌, ◌<◌}
use native.Mathlib.Omega.{arith}
use lib.Dec.{T, eqb}
use lib.ListN.{length}
use borrow.Author.Tests.{le-leb, lt-leb, lt-ltb, ne_eqb}
use Rattle.wire.specs.Text.{has, is_space}
use Rattle.wire.proofs.Cases.{at_below}
use Rattle.hex_text.specs.Digits.{hex_digit, hex_digits, hex_byte, hex_bytes}
use Rattle.wire.proofs.All.{All, all_append}
use Rattle.hex_text.proofs.DigitLaws.{digit_between, digits_all, bytes_all, bytes_back, id_back}
use Rattle.line_list.specs.Lines.{line}
use Rattle.reply_lines.specs.Lines.{split_cr, is_trimmed, trim_start, trimmed, stays, text_lines, characters}
use Rattle.reply_lines.specs.Decode.{text_line}
use Rattle.reply_lines.proofs.DecodeLaws.{line-framed}

-- a character that no scan over a reply stops at
abbrev pub Plain : ℕ → Type 0
Plain c = (33 ≤ c) × (c ≡ 62 → ⊥)

pub plain_end : (c : ℕ) → 33 ≤ c → is_trimmed c ≡ false
unfolding is_space
plain_end c h = simp (ne_eqb c 0 (omega arith), le-leb 9 c (omega arith), lt-leb c 13 (omega arith), ne_eqb c 32 (omega arith))

plain_split : (s rest : List ℕ) → All Plain s → split_cr (s ++ (13 ∷ rest)) ≡ s ∷ split_cr rest
plain_split [] rest a = refl
plain_split (c ∷ s) rest a = let h = a.0.0 in rw (ne_eqb c 13 (omega arith), plain_split s rest a.1)

plain_start : (s : List ℕ) → All Plain s → trim_start s ≡ s
plain_start [] a = refl
plain_start (c ∷ s) a = rw (plain_end c a.0.0)

plain_reversed : (s t : List ℕ) → All Plain s → All Plain t → All Plain (reverse_aux s t)
plain_reversed [] t a b = b
plain_reversed (c ∷ s) t a b = plain_reversed s (c ∷ t) a.1 (a.0, b)

plain_trimmed : (s : List ℕ) → All Plain s → trimmed s ≡ s
plain_trimmed s a =
    ap (λ (t : List ℕ). reverse (trim_start (reverse t))) (plain_start s a)
    ∙ ap reverse (plain_start (reverse s) (plain_reversed s [] a tt))
    ∙ reverse-reverse s

plain_prompt : (s : List ℕ) → All Plain s → has 62 s ≡ false
unfolding has
plain_prompt [] a = refl
plain_prompt (c ∷ s) a = rw (ne_eqb c 62 a.0.1, plain_prompt s a.1)

plain_stays : (s : List ℕ) → All Plain s → 0 < length s → stays s ≡ true
plain_stays s a h = rw (lt-ltb 0 (length s) h, plain_prompt s a)

-- plain characters up to a CR are a line
pub plain_line : (s rest : List ℕ) → All Plain s → 0 < length s → text_lines (s ++ (13 ∷ rest)) ≡ s ∷ text_lines rest
unfolding text_lines
plain_line s rest a h = rw (plain_split s rest a, plain_trimmed s a, plain_stays s a h)

-- nothing up to a CR is none
pub empty_line_lem : (rest : List ℕ) → text_lines (13 ∷ rest) ≡ text_lines rest
unfolding text_lines
empty_line_lem rest = refl

-- the prompt is none
pub prompt_line : text_lines (62 ∷ []) ≡ []
unfolding text_lines is_space has
prompt_line = refl

-- ---- digits

pub plain_characters : (s : List ℕ) → All Plain s → characters s ≡ s
plain_characters [] a = refl
plain_characters (c ∷ s) a = let h = a.0.0 in rw (ne_eqb c 0 (omega arith), ne_eqb c 32 (omega arith), plain_characters s a.1)

-- they are plain
digit_plain : (d : ℕ) → d < 16 → Plain (hex_digit d)
unfolding hex_digit
digit_plain d h = (omega (arith, (digit_between d h).0), λ e. prompt (hex_digit d) e (at_below 16 (λ d. not (eqb (hex_digit d) 62)) tt d h))
  where
    prompt : (c : ℕ) → c ≡ 62 → T (not (eqb c 62)) → ⊥
    prompt c e t = rw e at t

pub framed_plain : (n k : ℕ) (d : List ℕ) → All Plain (hex_digits 3 n ++ (hex_byte k ++ hex_bytes d))
framed_plain n k d =
    all_append Plain (hex_digits 3 n) (hex_byte k ++ hex_bytes d) (digits_all Plain digit_plain 3 n)
    (all_append Plain (hex_byte k) (hex_bytes d) (digits_all Plain digit_plain 2 k) (bytes_all Plain digit_plain d))

-- an id, a length byte, whatever it says, and data
pub framed_back : (n k : ℕ) (d : List ℕ) → n < 4096 → All (λ b. b < 256) d → text_line true (hex_digits 3 n ++ (hex_byte k ++ hex_bytes d)) ≡ line (suc n) d
framed_back n k d h a =
    line-framed (hex_digits 3 n ++ (hex_byte k ++ hex_bytes d)) (hex_digits 3 n ++ hex_byte k) (hex_bytes d) (plain_characters _ (framed_plain n k d)) refl
    ∙ rw (id_back n h, bytes_back d a)
