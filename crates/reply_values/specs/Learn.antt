-- What finishing a query learns. Document 01, client_session.rs: "An unknown length is learned for the queried PID only, from lines starting 41 and that PID,
-- if all have the same (those over 255 skipped)." "A PID's count is the number of different ids giving it when framed (lines of unknown ECU left out; 255
-- when more, as in Rust), else its occurrences; it is learned once." "Duplicate queried PIDs count twice towards the two."
use Rattle.std.specs.Prelude.{Bool, true, false, cond, not, ◌&&◌, ◌||◌, List, [], ◌∷◌, ◌++◌, ℕ, suc, ◌+◌, min, eqb, leb, ltb, length, set}
use Rattle.std.proofs.Math.Option.{Option, none, some}
use Rattle.wire.specs.Text.{any, has}
use Rattle.pid.specs.Lengths.{length_in}
use Rattle.line_list.specs.Lines.{Line}
use Rattle.value.specs.Values.{Value, of_pid}
use Rattle.server_state.specs.declared.FeatureSupport.{FeatureSupport}
use Rattle.server_state.specs.declared.FeatureSupport.TheVariants as support
use Rattle.server_state.specs.State.{decided}

-- the data lengths that lines starting 41 and a PID show, "those over 255 skipped"
abbrev pub shown_by : ℕ → List ℕ → List ℕ
shown_by p [] = []
shown_by p (m ∷ []) = []
shown_by p (m ∷ q ∷ d) = cond (eqb m 0x41 && eqb q p && leb (length d) 255) (length d ∷ []) []

abbrev pub shown_lengths : ℕ → List Line → List ℕ
shown_lengths p [] = []
shown_lengths p (l ∷ ls) = shown_by p l.bytes ++ shown_lengths p ls

-- "if all have the same": there is one at least, and none of the others differs from it
abbrev pub agreed : List ℕ → Option ℕ
agreed [] = none
agreed (n ∷ ns) = cond (any (λ m. not (eqb n m)) ns) none (some n)

-- the table with what was learned of a PID's length, by its length so far
abbrev pub with_length : List ℕ → ℕ → Option ℕ → Option ℕ → List ℕ
with_length lengths p (some known) learned = lengths
with_length lengths p none none = lengths
with_length lengths p none (some n) = set lengths p n

-- the lengths after a reply to one PID
unfoldable pub learn_length : List ℕ → ℕ → List Line → List ℕ
learn_length lengths p ls = with_length lengths p (length_in lengths p) (agreed (shown_lengths p ls))

-- the lengths after a reply to a query: only a query of one PID (`query_pid`) may learn its length
abbrev pub lengths_after : Bool → List ℕ → List ℕ → List Line → List ℕ
lengths_after true pids lengths ls = lengths
lengths_after false [] lengths ls = lengths
lengths_after false (p ∷ ps) lengths ls = learn_length lengths p ls

-- the known ids among some values, each where it stands last
abbrev pub different_ids : List Value → List ℕ
different_ids [] = []
different_ids (v ∷ vs) = cond (eqb v.ecu 0 || has v.ecu (different_ids vs)) (different_ids vs) (v.ecu ∷ different_ids vs)

-- how many ECUs gave a PID, by its values
abbrev pub ecus_giving : Bool → List Value → ℕ
ecus_giving true vs = min 255 (length (different_ids vs))
ecus_giving false vs = min 255 (length vs)

-- the counts of the PIDs from p on: one is learned once, and 0 is none
abbrev pub learn_counts : Bool → ℕ → List ℕ → List Value → List ℕ
learn_counts framing p [] vs = []
learn_counts framing p (n ∷ ns) vs = cond (eqb n 0) (ecus_giving framing (of_pid p vs)) n ∷ learn_counts framing (suc p) ns vs

-- how many of the queried PIDs have a value
abbrev pub given_pids : List ℕ → List Value → ℕ
given_pids [] vs = 0
given_pids (p ∷ ps) vs = min 1 (length (of_pid p vs)) + given_pids ps vs

-- multi-PID support after a reply to a query: one of `query_pids` tells of it, and is answered where two of its PIDs are given
abbrev pub multi_after : Bool → List ℕ → List Value → FeatureSupport → FeatureSupport
multi_after several pids vs m = cond several (decided m (cond (ltb (given_pids pids vs) 2) support.No support.Yes)) m
