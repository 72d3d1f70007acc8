-- Laws of lines: what their writers go by, that each is one line, and how long they are.
use mathlib.Core.Path.{◌≡◌, refl}
use mathlib.Core.List.{List, [], ◌∷◌, ◌++◌, map}
use Prim.Native.Nat.{ℕ, suc, ◌+◌, ◌*◌, ◌≤◌, ◌<◌}
use native.Mathlib.Numerals.{add-one}
use native.Mathlib.Omega.{arith}
use lib.ListN.{length, drop, get_or, length-append, drop_of_length-le}
use lib.Seq.{drop-cons}
use Rattle.wire.specs.Answer.{Answer, result, refused, if_result}
use Rattle.wire.specs.Put.{Put}
use Rattle.wire.specs.Text.{joined}
use Rattle.wire.proofs.PutLaws.{put_rest, put_nil}
use Rattle.wire.proofs.All.{All, all_append}
use Rattle.hex_text.specs.Digits.{hex_byte}
use Rattle.hex_text.proofs.DigitLaws.{digit_between, digits_all}
use Rattle.query.specs.Query.{decimal}
use Rattle.query.proofs.QueryLaws.{query-length, query_short}
use Rattle.hire_text.specs.Hire.{separator, hex_line, refused_line}

-- a line for each part, and one where a number ended the run
abbrev pub hex_lines : List (List ℕ) → List ℕ
hex_lines ps = joined (map hex_line ps)

abbrev pub stop_line : Answer (Unit {0}) → List ℕ
stop_line a = if_result a refused_line (λ u. [])

-- what stands before the byte at a position, and after the last
pub separator_more : (s : List ℕ) (i : ℕ) → i < length s → separator (drop i s) ≡ 32
separator_more s i h = rw (drop-cons s i 0 h)

pub separator_end : (s : List ℕ) (i : ℕ) → length s ≤ i → separator (drop i s) ≡ 10
separator_end s i h = rw (drop_of_length-le s h)

-- the turn and the end of the loop that writes a line
module _ {out left : List ℕ} {at r : ℕ} (s : List ℕ) (i : ℕ) (p : Put out at (hex_line (drop i s)) r left) where
  pub line-next : {o₁ o₂ : List ℕ} {a₁ a₂ : ℕ} → i < length s → Put out at (hex_byte (get_or s i 0)) a₁ o₁ → Put o₁ a₁ (separator (drop (i + 1) s) ∷ []) a₂ o₂ →
      Put o₂ a₂ (hex_line (drop (i + 1) s)) r left
  line-next h b e =
      let p₁ : Put out at (hex_byte (get_or s i 0) ++ ((separator (drop (suc i) s) ∷ []) ++ hex_line (drop (suc i) s))) r left = rw (drop-cons s i 0 h) at p in
      rw add-one (put_rest (put_rest p₁ b) (rw add-one at e))

  pub line_end_lem : length s ≤ i → (r ≡ at) × (left ≡ out)
  line_end_lem h = put_nil (rw (drop_of_length-le s h) at p)

-- LF ends a part's line, and every other character is a space or above it
pair_high : (b : ℕ) → All (λ c. 32 ≤ c) (hex_byte b)
pair_high b = digits_all (λ c. 32 ≤ c) (λ d h. omega (arith, (digit_between d h).0)) 2 b

pub one_line : (b : ℕ) (s : List ℕ) → (t : List ℕ) × (hex_line (b ∷ s) ≡ t ++ (10 ∷ [])) × All (λ c. 32 ≤ c) t
one_line b [] = (hex_byte b, refl, pair_high b)
one_line b (c ∷ s) = let (t, q, high) = one_line c s in (hex_byte b ++ (32 ∷ t), rw q, all_append (λ c. 32 ≤ c) (hex_byte b) (32 ∷ t) (pair_high b) (omega arith, high))

-- three characters for each byte: two digits and what follows them
line-length : (s : List ℕ) → length (hex_line s) ≡ 3 * length s
line-length [] = refl
line-length (b ∷ s) = omega (arith, line-length s)

pub lines_length : (ps : List (List ℕ)) → length (hex_lines ps) ≡ 3 * length (joined ps)
lines_length [] = refl
lines_length (p ∷ ps) = omega (arith, length-append (hex_line p) (hex_lines ps), length-append p (joined ps), line-length p, lines_length ps)

-- and at most 12 more: a number takes three digits at most, as a query of six PIDs and a count has at most 18 characters
refused_length : (n : ℕ) → length (refused_line n) ≤ 12
unfolding refused_line
refused_length n =
    let six : List ℕ = 0 ∷ 0 ∷ 0 ∷ 0 ∷ 0 ∷ 0 ∷ [] in
    omega (arith, query-length six (suc n), query_short six (suc n) (omega arith), length-append (decimal n) (10 ∷ []))

pub stop_length : (a : Answer (Unit {0})) → length (stop_line a) ≤ 12
stop_length (result u) = omega arith
stop_length (refused n) = refused_length n
