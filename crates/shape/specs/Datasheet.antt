-- What the chip sends for a command, as the ELM327 datasheet has it by common descriptions, in bytes of its own: no definition that the server writes with stands here.
use Rattle.std.specs.Prelude.{◌≡◌, Bool, true, false, cond, ◌&&◌, ◌||◌, List, [], ◌∷◌, ◌++◌, ℕ, zero, suc, ◌/◌, ◌%◌, eqb, get_or}
use Rattle.wire.specs.Text.{ascii, any}

-- ---- The frame. Every line ends in CR, with linefeeds on in CR LF. After the last line stands an empty one, then the prompt, and nothing after it.

-- CR, LF or the prompt `>`, of which a line holds none
abbrev pub breaks_line : ℕ → Bool
breaks_line c = eqb c 0x0D || (eqb c 0x0A || eqb c 0x3E)

abbrev pub ending : Bool → List ℕ
ending false = 0x0D ∷ []
ending true = 0x0D ∷ 0x0A ∷ []

-- Some lines, which may be empty, and the text that they are sent as.
pub data Framed (linefeeds : Bool) : List (List ℕ) → List ℕ → Type 0 where
  prompt : Framed linefeeds [] (ending linefeeds ++ (0x3E ∷ []))
  line_then : (l : List ℕ) (ls : List (List ℕ)) (rest : List ℕ) → any breaks_line l ≡ false →
      Framed linefeeds ls rest → Framed linefeeds (l ∷ ls) (l ++ (ending linefeeds ++ rest))

-- ---- A line of data. Each byte is a pair of capital hex digits, with spaces on a space between two pairs. With headers on there stand before them the id, as three
-- digits, and the number of the bytes, as a pair, with spaces on a space after each.

abbrev pub capitals : List ℕ
capitals = ascii "0123456789ABCDEF"

-- a number below 256 as a pair
abbrev pub pair_of : ℕ → List ℕ
pair_of n = get_or capitals (n / 16) 0 ∷ get_or capitals (n % 16) 0 ∷ []

-- a text of a form, in which `#` stands for a capital hex digit and any other byte for itself
abbrev pub fills : List ℕ → List ℕ → Bool
fills [] [] = true
fills [] (c ∷ text) = false
fills (f ∷ form) [] = false
fills (f ∷ form) (c ∷ text) = cond (eqb f 0x23) (any (eqb c) capitals) (eqb c f) && fills form text

abbrev pub gap : Bool → List ℕ
gap spaces = cond spaces (ascii " ") []

-- so many bytes; docs/DIFFERENCES.md has the space that a chip sends after the last pair
abbrev pub pairs_form : Bool → ℕ → List ℕ
pairs_form spaces zero = []
pairs_form spaces (suc zero) = ascii "##"
pairs_form spaces (suc (suc n)) = ascii "##" ++ (gap spaces ++ pairs_form spaces (suc n))

-- a line of so many bytes
abbrev pub data_form : Bool → Bool → ℕ → List ℕ
data_form spaces false n = pairs_form spaces n
data_form spaces true n = ascii "###" ++ (gap spaces ++ (pair_of n ++ (gap spaces ++ pairs_form spaces n)))
