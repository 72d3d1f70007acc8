-- Laws of a line's text: the id of its ECU, and the digits of its data as a loop writes them.
use mathlib.Core.Path.{◌≡◌, refl}
use mathlib.Core.Bool.{Bool, true, false, cond}
use mathlib.Core.List.{List, [], ◌∷◌, ◌++◌, append_assoc}
use Prim.Native.Nat.{ℕ, zero, suc, ◌+◌, ◌-◌, ◌/◌, ◌%◌, ◌≤◌, ◌<◌}
use native.Mathlib.Numerals.{add-one}
use native.Mathlib.Omega.{arith}
use lib.Dec.{eqb, eqb→eq}
use lib.ListN.{length, take, drop, get_or, set, length-append, drop_of_length-le}
use Rattle.std.proofs.lemmas.List.{take_more}
use lib.Seq.{sets, drop-cons}
use Rattle.wire.specs.Put.{Put}
use Rattle.wire.proofs.PutLaws.{put_length, put_none, put_then}
use Rattle.hex_text.specs.Digits.{hex_digit, hex_byte}
use Rattle.wire.specs.Text.{ascii}
use Rattle.wire.proofs.Cases.{from_no, at_below}
use Rattle.group.specs.Group.{got}
use Rattle.group.proofs.GroupLaws.{then_got}
use Rattle.line_list.specs.Lines.{Line, line_format}
use Rattle.group.specs.Format.{read_all}
use Rattle.reply.specs.Reply.{ecu_id, space_if, further_hex, data_hex, header, line_text}

-- where there is room for two texts, the first leaves room for the second
pub room_after : {out o₁ t : List ℕ} {at a : ℕ} (u : List ℕ) → at + length (t ++ u) ≤ length out → Put out at t a o₁ → a + length u ≤ length o₁
room_after {out} {o₁} {t} {at} {a} u h p = omega (arith, length-append t u, put_length p, p.next)

-- Data: none, or its first byte and those after it

data_none : (spaces : Bool) (s : List ℕ) → length s < 1 → data_hex spaces s ≡ []
data_none spaces s h = rw (drop_of_length-le s {i = 0} (omega arith))

data_first : (spaces : Bool) (s : List ℕ) → 1 ≤ length s → data_hex spaces s ≡ hex_byte (get_or s 0 0) ++ further_hex spaces (drop 1 s)
data_first spaces s h = rw (drop-cons s 0 0 (omega arith))

-- A line as its writers follow one another: its header if on, its first byte, and those after it

module _ (spaces headers : Bool) (l : Line) {out o₁ : List ℕ} {at a₁ : ℕ} (p : Put out at (cond headers (header spaces l) []) a₁ o₁) where
  pub line_none : length l.bytes < 1 → Put out at (line_text spaces headers l) a₁ o₁
  unfolding line_text
  line_none h = rw (data_none spaces l.bytes h) (put_then p (put_none o₁ a₁))

  module _ (some : 1 ≤ length l.bytes) {o₂ : List ℕ} {a₂ : ℕ} (q : Put o₁ a₁ (hex_byte (get_or l.bytes 0 0)) a₂ o₂) where
    pub line_room : at + length (line_text spaces headers l) ≤ length out → a₂ + length (further_hex spaces (drop 1 l.bytes)) ≤ length o₂
    unfolding line_text
    line_room h = room_after (further_hex spaces (drop 1 l.bytes)) (rw (data_first spaces l.bytes some) at (room_after (data_hex spaces l.bytes) h p)) q

    pub line_puts : {left : List ℕ} {r : ℕ} → Put o₂ a₂ (further_hex spaces (drop 1 l.bytes)) r left → Put out at (line_text spaces headers l) r left
    unfolding line_text
    line_puts k = rw (data_first spaces l.bytes some) (put_then p (put_then q k))

-- The loops: one byte more, and the stores of a turn where there is room for them

further_append : (spaces : Bool) (s t : List ℕ) → further_hex spaces (s ++ t) ≡ further_hex spaces s ++ further_hex spaces t
further_append spaces [] t = refl
further_append spaces (b ∷ s) t = simp (further_append spaces s t, append_assoc)

further-next : (spaces : Bool) (s : List ℕ) (i : ℕ) {out o₁ o₂ : List ℕ} {at to a : ℕ} → i < length s →
    Put out at (further_hex spaces (take i s)) to o₁ → Put o₁ to (space_if spaces ++ hex_byte (get_or s i 0)) a o₂ → Put out at (further_hex spaces (take (i + 1) s)) a o₂
further-next spaces s i h p q = rw (take_more s i 0 h, further_append spaces (take i s) (get_or s i 0 ∷ [])) (put_then p q)

stored : (out : List ℕ) (at : ℕ) (t : List ℕ) → at + length t ≤ length out → Put out at t (at + length t) (sets out at t)
stored out at t h = record { next = omega arith; bytes = refl }

-- the digits as a table
digit-listed : (d : ℕ) → d < 16 → get_or (ascii "0123456789ABCDEF") d 0 ≡ hex_digit d
unfolding hex_digit
digit-listed d h = eqb→eq _ _ (at_below 16 (λ d. eqb (get_or (ascii "0123456789ABCDEF") d 0) (hex_digit d)) tt d h)

module _ (s : List ℕ) (i : ℕ) {out₀ out : List ℕ} {at₀ at : ℕ} (h : i < length s) where
  pub joined_turn : {x y : ℕ} → x ≡ hex_digit (get_or s i 0 / 16 % 16) → y ≡ hex_digit (get_or s i 0 % 16) → at + 2 ≤ length out →
      Put out₀ at₀ (further_hex false (take i s)) at out → Put out₀ at₀ (further_hex false (take (i + 1) s)) (at + 2) (set (set out at x) (at + 1) y)
  joined_turn e f k p = further-next false s i h p (rw (e, f, add-one) (stored out at (hex_byte (get_or s i 0)) k))

  pub spaced_turn : {x y : ℕ} → x ≡ get_or s i 0 / 16 → y ≡ get_or s i 0 % 16 → get_or s i 0 < 256 → at + 3 ≤ length out →
      Put out₀ at₀ (further_hex true (take i s)) at out → Put out₀ at₀ (further_hex true (take (i + 1) s)) (at + 3)
      (set (set (set out at 32) (at + 1) (get_or (ascii "0123456789ABCDEF") x 0)) (at + 2) (get_or (ascii "0123456789ABCDEF") y 0))
  spaced_turn e f l k p =
      let two : at + 2 ≡ suc (suc at) = omega arith in
      let high : get_or s i 0 / 16 % 16 ≡ get_or s i 0 / 16 = omega arith in
      further-next true s i h p
      (rw (e, f, digit-listed (get_or s i 0 / 16) (omega arith), digit-listed (get_or s i 0 % 16) (omega arith), two, add-one, high)
      (stored out at (32 ∷ hex_digit (get_or s i 0 / 16) ∷ hex_digit (get_or s i 0 % 16) ∷ []) k))

-- only an empty list has no lines
pub no_lines : (n : ℕ) (s rest : List ℕ) → read_all line_format n s ≡ got [] rest → length s ≡ 0
no_lines zero [] rest q = refl
no_lines (suc n) [] rest q = refl
no_lines zero (b ∷ s) rest q = from_no cc
no_lines (suc n) (b ∷ s) rest q =
    let (l, t, p, k) = then_got (line_format.read (b ∷ s)) _ [] rest q in
    let (ms, u, p₂, k₂) = then_got (read_all line_format n t) _ [] rest k in
    from_no cc
