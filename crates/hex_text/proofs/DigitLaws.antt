-- Laws of the digits written: they read back, they are as many as the width says, and nothing else is among them.
use mathlib.Core.Path.{◌≡◌, refl, sym, ap, ◌∙◌}
use mathlib.Core.List.{List, [], ◌∷◌, ◌++◌}
use mathlib.Core.Option.{Option, some}
use Prim.Native.Nat.{ℕ, zero, suc, ◌+◌, ◌*◌, ◌/◌, ◌%◌, ◌^◌, ◌≤◌, ◌<◌}
use native.Mathlib.Nat.{pow-succ', one-le-pow, mod-lt, mul_assoc, div-add-mod, mul-add-mod_self_left, mod-eq_of_lt}
use native.Mathlib.Omega.{arith}
use lib.Dec.{ltb}
use lib.ListN.{length, length-append}
use borrow.Author.Tests.{ltb-true}
use Rattle.wire.specs.Put.{Put}
use Rattle.wire.proofs.PutLaws.{put_then}
use Rattle.wire.proofs.Cases.{by_test, at_below, holds, held}
use Rattle.wire.proofs.All.{All, all_append}
use Rattle.hex_text.specs.Read.{digit, shifted, digits_after, hex_number, pair_bytes}
use Rattle.hex_text.specs.Digits.{hex_digit, hex_digits, hex_byte, hex_bytes}

-- ---- one digit

-- it reads back, by a computed test over all sixteen
pub digit_back : (d : ℕ) → d < 16 → digit (hex_digit d) ≡ some d
unfolding digit hex_digit
digit_back d h = held d (digit (hex_digit d)) (at_below 16 (λ d. holds d (digit (hex_digit d))) tt d h)

-- it lies between 0 and F, so below 128
pub digit_between : (d : ℕ) → d < 16 → (48 ≤ hex_digit d) × (hex_digit d ≤ 70)
unfolding hex_digit
digit_between d h = by_test (ltb d 10) (λ e. let l = ltb-true d 10 e in rw e (omega arith)) (λ e. rw e (omega arith))

-- ---- the digits of a number, of any width

-- as many as the width says
pub digits_length : (w n : ℕ) → length (hex_digits w n) ≡ w
digits_length zero n = refl
digits_length (suc w) n =
    length-append (hex_digits w (n / 16)) (hex_digit (n % 16) ∷ []) ∙ rw (digits_length w (n / 16)) (omega arith)

-- the number of a text with one character more at its end
after_more : (o : Option ℕ) (s : List ℕ) (c : ℕ) → digits_after o (s ++ (c ∷ [])) ≡ shifted (digits_after o s) (digit c)
after_more o [] c = refl
after_more o (x ∷ s) c = after_more (shifted o (digit x)) s c

number_more : (s : List ℕ) (c : ℕ) → 0 < length s → hex_number (s ++ (c ∷ [])) ≡ shifted (hex_number s) (digit c)
number_more [] c h = absurd (omega arith)
number_more (x ∷ s) c h = after_more (digit x) s c

-- the lowest digit and those above it
mod_more : (n m : ℕ) → 0 < m → 16 * (n / 16 % m) + n % 16 ≡ n % (16 * m)
mod_more n m h =
    let r = 16 * (n / 16 % m) + n % 16 in
    let q = n / 16 / m in
    let small : r < 16 * m = omega (arith, mod-lt (n / 16) h) in
    let whole : 16 * m * q + r ≡ n = omega (arith, div-add-mod (n / 16) m, mul_assoc 16 m q) in
    sym (mod-eq_of_lt small) ∙ sym (mul-add-mod_self_left (16 * m) q r) ∙ ap (λ k. k % (16 * m)) whole

-- they read back, cut to the width: one law for pairs and ids
pub digits_back : (w n : ℕ) → hex_number (hex_digits (suc w) n) ≡ some (n % 16 ^ suc w)
digits_back zero n = digit_back (n % 16) (omega arith)
digits_back (suc w) n =
    let m = 16 ^ suc w in
    let low = mod_more n m (one-le-pow (suc w) 16 (omega arith)) ∙ ap (λ k. n % k) (sym (pow-succ' 16 (suc w))) in
    number_more (hex_digits (suc w) (n / 16)) (hex_digit (n % 16)) (omega (arith, digits_length (suc w) (n / 16))) ∙
    rw (digits_back w (n / 16), digit_back (n % 16) (omega arith)) (ap some low)

-- a byte, an id
pub byte_back : (b : ℕ) → b < 256 → hex_number (hex_byte b) ≡ some b
byte_back b h = digits_back 1 b ∙ ap some (mod-eq_of_lt h)

pub id_back : (n : ℕ) → n < 4096 → hex_number (hex_digits 3 n) ≡ some n
id_back n h = digits_back 2 n ∙ ap some (mod-eq_of_lt h)

-- what holds of the sixteen digits holds of every character of a number, and of data
module _ (P : ℕ → Type 0) (h : (d : ℕ) → d < 16 → P (hex_digit d)) where
  pub digits_all : (w n : ℕ) → All P (hex_digits w n)
  digits_all zero n = tt
  digits_all (suc w) n =
      all_append P (hex_digits w (n / 16)) (hex_digit (n % 16) ∷ []) (digits_all w (n / 16)) (h (n % 16) (omega arith), tt)

  pub bytes_all : (s : List ℕ) → All P (hex_bytes s)
  bytes_all [] = tt
  bytes_all (b ∷ s) = all_append P (hex_byte b) (hex_bytes s) (digits_all 2 b) (bytes_all s)

-- ---- data in capital hex

-- two characters a byte
pub bytes_length : (s : List ℕ) → length (hex_bytes s) ≡ 2 * length s
bytes_length [] = refl
bytes_length (b ∷ s) = rw (bytes_length s) (omega arith)

-- the pairs give the bytes back
pub bytes_back : (s : List ℕ) → All (λ b. b < 256) s → pair_bytes (hex_bytes s) ≡ s
bytes_back [] a = refl
bytes_back (b ∷ s) a = rw (byte_back b a.0, bytes_back s a.1)

-- ---- as the writers store them
