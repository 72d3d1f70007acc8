-- Scripts: calls one after the other. A call is a kind, the length of its argument in two bytes, the lower first, and the argument, as far as the script reaches.
use Rattle.std.specs.Prelude.{List, [], ◌∷◌, ℕ, zero, suc, ◌+◌, ◌*◌, length, take, drop}

abbrev pub argument_length : ℕ → ℕ → ℕ
argument_length low high = low + high * 256

-- at most n calls of a script, where call says what one does
abbrev pub calls_within : {T : Type 0} → (T → ℕ → List ℕ → T) → ℕ → T → List ℕ → T
calls_within call zero t s = t
calls_within call (suc n) t [] = t
calls_within call (suc n) t (kind ∷ []) = t
calls_within call (suc n) t (kind ∷ low ∷ []) = t
calls_within call (suc n) t (kind ∷ low ∷ high ∷ s) =
    calls_within call n (call t kind (take (argument_length low high) s)) (drop (argument_length low high) s)

-- a script has no more calls than bytes
unfoldable pub calls : {T : Type 0} → (T → ℕ → List ℕ → T) → T → List ℕ → T
calls call t s = calls_within call (length s) t s

-- something over and over
abbrev pub rounds : {T : Type 0} → (T → T) → ℕ → T → T
rounds once zero t = t
rounds once (suc n) t = rounds once n (once t)
