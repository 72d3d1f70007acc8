-- Document 01, "The bench run": "What a vehicle gave is read from the script alone, with a list per query and PID, empty at first. Lines go in order. Past 41
-- comes a PID, then its data: the table's length, or the rest of the line for a PID outside the table; then the next PID, until the line ends. Each appends its
-- value, ECU+1 as the line has it, 7E8+1 when unknown, to its PID's list. Two vehicles gave the same when all these lists agree."
-- It shares nothing with the client's walk over a reply but the table of lengths.
use Rattle.std.specs.Prelude.{cond, List, [], ◌∷◌, ◌++◌, ◌≡◌, ℕ, zero, suc, ◌+◌, eqb, length}
use Rattle.std.proofs.Math.Option.{Option, none, some}
use Rattle.pid.specs.J1979.{j1979}
use Rattle.line_list.specs.Lines.{Line}
use Rattle.value.specs.Values.{Value, value, of_pid}

-- "ECU+1 as the line has it, 7E8+1 when unknown"
abbrev pub given_ecu : ℕ → ℕ
given_ecu zero = 0x7E8 + 1
given_ecu (suc e) = suc e

-- how many bytes belong to a PID, of those left on the line
abbrev pub owed : Option ℕ → ℕ → ℕ
owed none left = left
owed (some n) left = n

-- The bytes that still belong to the PID under way, and the values after it.
pub record Taken : Type 0 where
  pub own : List ℕ
  pub later : List Value

-- byte by byte, with so many still owed to the PID under way
abbrev pub takes : ℕ → ℕ → List ℕ → Taken
takes e n [] = record { own = []; later = [] }
takes e zero (p ∷ s) =
    let t = takes e (owed (j1979 p) (length s)) s in
    record { own = []; later = value p e t.own ∷ t.later }
takes e (suc n) (b ∷ s) =
    let t = takes e n s in
    record { own = b ∷ t.own; later = t.later }

-- a line's values, past 41
abbrev pub given_line : ℕ → List ℕ → List Value
given_line e [] = []
given_line e (m ∷ s) = cond (eqb m 0x41) (takes e 0 s).later []

-- what a vehicle gave a query, all PIDs in one list
abbrev pub given : List Line → List Value
given [] = []
given (l ∷ ls) = given_line (given_ecu l.ecu) l.bytes ++ given ls

-- "Two vehicles gave the same when all these lists agree": the lists of one query, one for each PID, and query by query
abbrev pub SameValues : List Value → List Value → Type 0
SameValues vs ws = (p : ℕ) → of_pid p vs ≡ of_pid p ws

abbrev pub SameQueries : List (List Value) → List (List Value) → Type 0
SameQueries [] [] = Unit {0}
SameQueries [] (ws ∷ wss) = ⊥
SameQueries (vs ∷ vss) [] = ⊥
SameQueries (vs ∷ vss) (ws ∷ wss) = SameValues vs ws × SameQueries vss wss
