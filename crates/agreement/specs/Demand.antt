-- Demand 3, its words one by one: "For every list of queries and any two runs of it, each from fresh sessions with framing on and the ATZ echo and
-- answer arriving as one piece, the two hire records are equal exactly when the two vehicles gave every query the same values in the same order, PID by PID, an
-- unknown ECU read as 7E8." Document 02 §1: "its equality of records becomes equality of bytes, and so does the third demand." What a vehicle gave is still told PID
-- by PID. Here the two runs may be of two lists: the demand asks less. proofs/Agreement.antt proves it, and `run_two` calls `bench::run` twice and ensures it.
use Rattle.std.specs.Prelude.{◌≡◌, Bool, ◌↔◌, List, [], ◌∷◌, map, ℕ, suc, ◌≤◌, ◌<◌, length, take, get_or}
use Rattle.wire.specs.Answer.{result, if_result}
use Rattle.group.specs.Group.{list_of}
use Rattle.group.specs.Format.{write_row}
use Rattle.value.specs.Values.{Value, part_format, read_record}
use Rattle.reply_lines.specs.Lines.{unspaced}
use Rattle.reply_values.specs.Values.{answer_order}
use Rattle.query.specs.Query.{text_of_query}
use Rattle.bench.specs.Script.{Query, script}
use Rattle.bench.specs.declared.BenchRun.{BenchRun}
use Rattle.bench.specs.Run.{Run, run_says, run_answer, recorded, run_lent}
use Rattle.agreement.specs.Lines.{GoodLines}
use Rattle.agreement.specs.Vehicle.{given, SameQueries}
use Rattle.agreement.specs.Ends.{Reach, stopped, reach}

-- "A line is 41 and one or more PID values of the table's length; a PID outside the table stands alone on its line, with one length throughout its run", here L. Of "Every
-- query brings a line list of one line or more" document 02 §13 ends "of one line or more": "Hire records may now include queries without any line"
abbrev pub GoodQueries : (ℕ → ℕ) → List Query → Type 0
GoodQueries L [] = Unit {0}
GoodQueries L (q ∷ qs) = GoodLines L q.lines × GoodQueries L qs

-- what a vehicle gave, query by query
abbrev pub givens : List Query → List (List Value)
givens qs = map (λ (q : Query). given q.lines) qs

-- "the queries' own texts less spaces"
abbrev pub command_of : Query → List ℕ
command_of q = unspaced (text_of_query q.pids q.count)

abbrev pub commands : List Query → List (List ℕ)
commands qs = map command_of qs

-- the bytes of a record's first n parts: as many of its own as these parts, as they are read, take when they are written
unfoldable pub first_parts : ℕ → List ℕ → List ℕ
first_parts n r = take (length (write_row part_format (take n (list_of (read_record r))))) r

-- A run: what one call of `bench::run` was lent, and what it returned.
pub record Drive : Type 0 where
  -- "whichever way each run's later replies are divided into pieces, and with repeat on or off in each run"
  pub repeat : Bool
  pub pieces : List ℕ
  pub script_bytes : List ℕ
  -- the record buffer as it was lent and as it is left, and the answer
  pub lent_buffer : List ℕ
  pub buffer : List ℕ
  pub run : BenchRun

abbrev pub drive : Bool → List ℕ → List ℕ → List ℕ → List ℕ → BenchRun → Drive
drive repeat pieces script lent left run = record { repeat = repeat; pieces = pieces; script_bytes = script; lent_buffer = lent; buffer = left; run = run }

-- all that it comes to
abbrev pub comes_to : Drive → Run
comes_to d = run_says d.repeat d.pieces (length d.lent_buffer) d.script_bytes

-- What is known of a call: its script is bytes, and the contract of `bench::run` holds.
pub record Ran (d : Drive) : Type 0 where
  pub bytes : (i : ℕ) → i < length d.script_bytes → get_or d.script_bytes i 0 < 256
  pub ran : recorded d.run d.buffer ≡ run_lent (comes_to d) d.lent_buffer

-- the list of queries; none where the script gets a number before the run
abbrev pub queries : Drive → List Query
queries d = if_result (script d.script_bytes) (λ n. []) (λ qs. qs)

-- the hire record: the bytes that stand in the buffer; and how many queries' parts stand, as it is read
abbrev pub hire_record : Drive → List ℕ
hire_record d = take d.run.written d.buffer

abbrev pub parts_standing : Drive → ℕ
parts_standing d = length (list_of (read_record (hire_record d)))

-- The premises.

-- the first n queries are the demand's, a PID outside the table with one length throughout them
abbrev pub GoodFirst : ℕ → Drive → Type 0
GoodFirst n d = (L : ℕ → ℕ) × GoodQueries L (take n (queries d))

-- all queries are; and those that ran: those whose parts stand, and the one that ended the run
abbrev pub GoodAll : Drive → Type 0
GoodAll d = GoodFirst (length (queries d)) d

abbrev pub GoodRan : Drive → Type 0
GoodRan d = GoodFirst (suc (parts_standing d)) d

-- how far the limits let the run go, by what the vehicle gave
abbrev pub reaches : Drive → Reach
reaches d = if_result (script d.script_bytes) stopped (λ qs. reach (length d.lent_buffer) qs (givens qs))

-- "Every query brings a line list .. that fits the limits"; document 01: "A line list fits the limits when its script gets no number before the run, its `reply` has
-- at most 4,096 bytes under the settings then in force, and the record with its part fits the buffer"
abbrev pub EveryFits : Drive → Type 0
EveryFits d = (reaches d).answer ≡ result tt

-- What holds of any run, whatever its lines.
pub record AnyRun (d : Drive) : Type 0 where
  -- all parts that it wrote are read, and they are the whole record
  pub each : parts_standing d ≡ length (comes_to d).parts
  pub all : first_parts (parts_standing d) (hire_record d) ≡ hire_record d
  -- where no number ended it, each query has its part
  pub whole : run_answer d.run.answer ≡ result tt → parts_standing d ≡ length (queries d)
  -- "the OBD commands handed to the vehicle are exactly the queries' own texts less spaces, one for each query in the list's order, repeats included", with lines or
  -- without: "each is still handed out under its own text" (document 02 §13). Where 8 or 6 ends the run, up to the query that ended it. They are told by the
  -- definition of the run: a call returns none
  pub handed : (comes_to d).handed ≡ take (suc (parts_standing d)) (commands (queries d))

-- What holds of a run whose queries, as far as they ran, are the demand's.
pub record Holds (d : Drive) : Type 0 where
  -- the parts stand of just those queries, from the first on, that fit the limits; and what ended the run, or that nothing did
  pub stand : parts_standing d ≡ (reaches d).fit
  pub answer : run_answer d.run.answer ≡ (reaches d).answer
  -- a part's values are those that the vehicle gave, "by rising PID, and within a PID in reply order" (document 02 §1)
  pub values : list_of (read_record (hire_record d)) ≡ take (parts_standing d) (map answer_order (givens (queries d)))

-- "the two hire records are equal exactly when the two vehicles gave every query the same values in the same order, PID by PID"; "its equality of records becomes
-- equality of bytes, and so does the third demand" (document 02 §1); "no values on one side matches only no values on the other" (document 02 §13)
abbrev pub Equal : Drive → Drive → Type 0
Equal d e = (hire_record d ≡ hire_record e) ↔ SameQueries (givens (queries d)) (givens (queries e))

-- the same of the first n parts and of the first n queries
abbrev pub EqualFirst : ℕ → Drive → Drive → Type 0
EqualFirst n d e = (first_parts n (hire_record d) ≡ first_parts n (hire_record e)) ↔ SameQueries (take n (givens (queries d))) (take n (givens (queries e)))

-- What holds of two runs.
pub record Agreement (d e : Drive) : Type 0 where
  pub any_one : AnyRun d
  pub any_two : AnyRun e
  pub one : GoodRan d → Holds d
  pub two : GoodRan e → Holds e
  pub equal : GoodAll d → GoodAll e → EveryFits d → EveryFits e → Equal d e
  -- "Where 8 or 6 ends a run, the claim holds, in both runs, of the queries before that point, whose parts stand" (document 01); of the commands handed out `any_one` and
  -- `any_two` have it
  pub before : (n : ℕ) → n ≤ parts_standing d → n ≤ parts_standing e → GoodFirst n d → GoodFirst n e → EqualFirst n d e
