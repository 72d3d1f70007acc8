-- Hex digits written. Document 01, server_session.rs: "three digits of the ECU", "two of the length", "data in capital hex".
use Rattle.std.specs.Prelude.{cond, List, [], ◌∷◌, ◌++◌, ℕ, zero, suc, ◌+◌, ◌/◌, ◌%◌, ltb}

-- the capital digit of a number below 16
unfoldable pub hex_digit : ℕ → ℕ
hex_digit n = cond (ltb n 10) (48 + n) (55 + n)

-- the low digits of a number, as many as the width says, highest first
abbrev pub hex_digits : ℕ → ℕ → List ℕ
hex_digits zero n = []
hex_digits (suc w) n = hex_digits w (n / 16) ++ (hex_digit (n % 16) ∷ [])

-- a byte is a pair of digits
abbrev pub hex_byte : ℕ → List ℕ
hex_byte b = hex_digits 2 b

-- data in capital hex: a pair for each byte, nothing between them
abbrev pub hex_bytes : List ℕ → List ℕ
hex_bytes [] = []
hex_bytes (b ∷ s) = hex_byte b ++ hex_bytes s
