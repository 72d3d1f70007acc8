-- Document 01, client_session.rs: "Lines are split at CR and trimmed of 09 to 0D and 20; empty ones and those holding `>` go; only 20 is removed inside."
-- Document 02 §2 ends 01's "00 is an ordinary character": "A 00 that the finish or the line reader meets is skipped." At the ends of a line it goes with what is
-- trimmed there; inside it stays in the text, which is a part of the reply, and goes with 20 where the characters are read. NullLaws has that these are the lines of
-- the reply without its 00.
use Rattle.std.specs.Prelude.{Bool, cond, not, ◌&&◌, ◌||◌, List, [], ◌∷◌, map, reverse, ℕ, eqb, ltb, length}
use Rattle.wire.specs.Text.{has, is_space, passing, without_nulls}

-- a character before the first line
abbrev pub onto : ℕ → List (List ℕ) → List (List ℕ)
onto c [] = (c ∷ []) ∷ []
onto c (l ∷ ls) = (c ∷ l) ∷ ls

-- the lines between CRs: one more than there are CRs
abbrev pub split_cr : List ℕ → List (List ℕ)
split_cr [] = [] ∷ []
split_cr (c ∷ s) = cond (eqb c 13) ([] ∷ split_cr s) (onto c (split_cr s))

-- what goes at both ends of a line: 00, 09 to 0D and 20
abbrev pub is_trimmed : ℕ → Bool
is_trimmed c = eqb c 0 || is_space c

abbrev pub trim_start : List ℕ → List ℕ
trim_start [] = []
trim_start (c ∷ s) = cond (is_trimmed c) (trim_start s) (c ∷ s)

abbrev pub trim_end : List ℕ → List ℕ
trim_end s = reverse (trim_start (reverse s))

abbrev pub trimmed : List ℕ → List ℕ
trimmed s = trim_end (trim_start s)

-- a trimmed line that stays: not empty, and without a prompt
abbrev pub stays : List ℕ → Bool
stays s = ltb 0 (length s) && not (has 62 s)

-- the lines of a reply, as parts of it
unfoldable pub text_lines : List ℕ → List (List ℕ)
text_lines reply = passing stays (map trimmed (split_cr reply))

-- a text, spaces removed
abbrev pub unspaced : List ℕ → List ℕ
unspaced s = passing (λ c. not (eqb c 32)) s

-- a line's characters: 00 is skipped, and 20 removed
abbrev pub characters : List ℕ → List ℕ
characters s = unspaced (without_nulls s)
