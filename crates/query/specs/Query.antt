-- Document 01, client_session.rs: "Query: 01, the PIDs, then a space and the decimal ECU count if given."
use Rattle.std.specs.Prelude.{cond, List, [], ◌∷◌, ◌++◌, ℕ, zero, suc, ◌+◌, ◌/◌, ◌%◌, ltb, Option, Some, None}
use Rattle.wire.specs.Text.{ascii}
use Rattle.hex_text.specs.Digits.{hex_bytes}

-- a number below 1000 in decimal
abbrev pub decimal : ℕ → List ℕ
decimal n =
    cond (ltb n 10) ((48 + n) ∷ [])
    (cond (ltb n 100) ((48 + n / 10) ∷ (48 + n % 10) ∷ [])
    ((48 + n / 100) ∷ (48 + n / 10 % 10) ∷ (48 + n % 10) ∷ []))

-- the count, given as count+1, 0 for none
abbrev pub count_text : ℕ → List ℕ
count_text zero = []
count_text (suc n) = 32 ∷ decimal n

-- how many ECUs a query waits for, if it says so, as such a number
abbrev pub count_of : Option ℕ → ℕ
count_of None = 0
count_of (Some n) = suc n

unfoldable pub text_of_query : List ℕ → ℕ → List ℕ
text_of_query pids count = ascii "01" ++ (hex_bytes pids ++ count_text count)
