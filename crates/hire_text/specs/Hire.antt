-- What the program `hire` prints. Document 01, "The bench run": "The program `hire` (repeat on, no piece lengths, a record buffer of 65,536 bytes) reads a script
-- from standard input, prints each query's part as capital hex bytes with single spaces and LF, and stops at a line `refused N`, LF too; a malformed or too long
-- script prints only that." (It has no parts.)
use Rattle.std.specs.Prelude.{true, List, [], ◌∷◌, ◌++◌, map, ℕ}
use Rattle.wire.specs.Answer.{if_result}
use Rattle.wire.specs.Text.{ascii, joined}
use Rattle.hex_text.specs.Digits.{hex_byte}
use Rattle.query.specs.Query.{decimal}
use Rattle.bench.specs.Run.{Run, run_says}

-- "capital hex bytes with single spaces and LF": a space stands after each byte but the last, which LF follows
abbrev pub separator : List ℕ → ℕ
separator [] = 10
separator (b ∷ s) = 32

abbrev pub hex_line : List ℕ → List ℕ
hex_line [] = []
hex_line (b ∷ s) = hex_byte b ++ ((separator s ∷ []) ++ hex_line s)

-- "a line `refused N`, LF too"
unfoldable pub refused_line : ℕ → List ℕ
refused_line n = ascii "refused " ++ (decimal n ++ (10 ∷ []))

-- all that is printed of a run: a line for "each query's part", and where a number ended the run its line
abbrev pub run_text : Run → List ℕ
run_text r = joined (map hex_line r.parts) ++ if_result r.answer refused_line (λ u. [])

-- of a run as `hire` makes it, with a record buffer of so many bytes: "repeat on, no piece lengths"
unfoldable pub text_of_record : ℕ → List ℕ → List ℕ
text_of_record room s = run_text (run_says true [] room s)

-- what `hire` prints of a script: "a record buffer of 65,536 bytes"
abbrev pub hire_prints : List ℕ → List ℕ
hire_prints s = text_of_record 65536 s
