-- Document 01, pid.rs: "The 256-entry table of known lengths, most entries unknown"; "A learned length may be 0, so unknown needs a mark of its own."
use Rattle.std.specs.Prelude.{Bool, cond, ◌||◌, List, [], ◌∷◌, ℕ, zero, suc, ltb, leb, eqb, get_or}
use Rattle.std.proofs.Math.Option
use Rattle.std.proofs.Math.Option.{Option, none, some}
use Rattle.pid.specs.J1979.{j1979}

-- the mark of an unknown length: no byte count reaches it
abbrev pub unknown : ℕ
unknown = 256

-- what an entry says: any number that is no byte count is unknown
abbrev pub entry_length : ℕ → Option ℕ
entry_length n = cond (ltb n unknown) (some n) none

-- n entries of a function, from i on
abbrev pub entries : (ℕ → ℕ) → ℕ → ℕ → List ℕ
entries f i zero = []
entries f i (suc n) = f i ∷ entries f (suc i) n

-- the table: an entry for each PID
unfoldable pub mode01_lengths : List ℕ
mode01_lengths = entries (λ p. Option.get_or (j1979 p) unknown) 0 256

-- the length of a PID in a table, which has an entry for every PID
abbrev pub length_in : List ℕ → ℕ → Option ℕ
length_in lengths p = entry_length (get_or lengths p 0)

-- "105 entries are known: 00 to 65, 80, A0, C0": whether a PID is one of these
abbrev pub listed : ℕ → Bool
listed p = leb p 0x65 || (eqb p 0x80 || (eqb p 0xA0 || eqb p 0xC0))
