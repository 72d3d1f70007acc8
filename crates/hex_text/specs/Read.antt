-- Hex digits read. Document 01, client_session.rs: "A hex digit is 0 to 9, A to F or a to f." "Bad pairs and an odd last digit are skipped." Document 02 §4 ends
-- 01's "A pair may also be `+` and a digit, an id `+` and two": "Pairs and ids with a plus now count as bad hex: the pair is skipped, the id becomes 000."
use Rattle.std.specs.Prelude.{Bool, cond, ◌&&◌, List, [], ◌∷◌, ◌++◌, ℕ, ◌+◌, ◌-◌, ◌*◌, leb}
use Rattle.std.proofs.Math.Option.{Option, none, some}

abbrev pub within : ℕ → ℕ → ℕ → Bool
within lo hi c = leb lo c && leb c hi

-- the digit's number: 0 to 9, A to F, a to f
unfoldable pub digit : ℕ → Option ℕ
digit c =
    cond (within 48 57 c) (some (c - 48))
    (cond (within 65 70 c) (some (c - 55))
    (cond (within 97 102 c) (some (c - 87)) none))

-- a number and one digit more
abbrev pub shifted : Option ℕ → Option ℕ → Option ℕ
shifted none d = none
shifted (some n) none = none
shifted (some n) (some d) = some (16 * n + d)

abbrev pub digits_after : Option ℕ → List ℕ → Option ℕ
digits_after n [] = n
digits_after n (c ∷ s) = digits_after (shifted n (digit c)) s

-- the number of a pair's two characters or of an id's three, none where one is bad
abbrev pub hex_number : List ℕ → Option ℕ
hex_number [] = none
hex_number (c ∷ s) = digits_after (digit c) s

abbrev pub kept : Option ℕ → List ℕ
kept none = []
kept (some b) = b ∷ []

-- the bytes of the good pairs of a text
abbrev pub pair_bytes : List ℕ → List ℕ
pair_bytes [] = []
pair_bytes (a ∷ []) = []
pair_bytes (a ∷ b ∷ s) = kept (hex_number (a ∷ b ∷ [])) ++ pair_bytes s
