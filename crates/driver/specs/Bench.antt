-- A bench run in the log: one call, which sends the record.
use Rattle.std.specs.Prelude.{Bool, List, ℕ, length}
use Rattle.wire.specs.Answer.{Answer, result, refused}
use Rattle.bench.specs.Run.{Recorded, run_says, run_lent}
use Rattle.driver_log.specs.Log.{Turn, answered, Logged, logged_of}

-- a number of document 01 as itself, and a run through all queries as 64
abbrev pub run_code : Answer (Unit {0}) → ℕ
run_code (result u) = 64
run_code (refused n) = n

-- a run as the host sees it is noted at the start of the log; what would be sent are the parts of the record that stand
abbrev pub run_noted : List ℕ → Recorded → Turn (Unit {0})
run_noted log r = answered 0 log (run_code r.answer) 0 r.written tt r.out

abbrev pub bench_logged : Bool → List ℕ → List ℕ → List ℕ → List ℕ → Logged
bench_logged repeat script pieces buffer log = logged_of (run_noted log (run_lent (run_says repeat pieces (length buffer) script) buffer))
