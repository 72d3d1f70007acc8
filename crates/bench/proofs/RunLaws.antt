-- The run of a script: its number before anything runs, the initialisation's number, or its queries.
use mathlib.Core.Path.{◌≡◌, ◌∙◌}
use mathlib.Core.Bool.{Bool}
use mathlib.Core.List.{List, []}
use Prim.Native.Nat.{ℕ}
use lib.ListN.{length}
use Rattle.wire.specs.declared.Refusal.{Refusal}
use Rattle.wire.specs.Answer.{Answer, refused, number, if_result}
use Rattle.client_session.specs.Call.{Progress, refusal_of, client_answer}
use Rattle.bench.specs.Script.{Query, script}
use Rattle.std.specs.Prelude.{Ok, Err}
use Rattle.bench.specs.declared.Work.{Work}
use Rattle.client_session.specs.declared.ClientAnswer.{ClientAnswer}
use Rattle.client_session.specs.declared.ClientError.{ClientError}
use Rattle.bench.specs.declared.BenchRun.{BenchRun}
use Rattle.bench.specs.Run.{Round, Run, ended, after, asked, initialised, run_says, recorded, run_lent}
use Rattle.bench.specs.Steps.{RoundStep, bench_of, Comes, IsScript, queries_of}

-- by what the initialisation came to
abbrev begun : ℕ → Round → Answer Progress → List Query → Run
begun room t a qs = if_result a (λ n. ended n t.handed) λ p. after [] t.handed (asked room t.bench qs)

module _ (repeat : Bool) (lengths s buffer : List ℕ) where
  abbrev says : Run
  says = run_says repeat lengths (length buffer) s

  -- the script gets a number
  pub script_refused : (q : Refusal) (r : BenchRun) → script s ≡ refused (number q) → r ≡ record { answer = Err q; written = 0 } → recorded r buffer ≡ run_lent says buffer
  unfolding run_says
  script_refused q r e k = rw (k, e)

  -- it gets none, and the initialisation comes to a turn
  module _ (is : IsScript s) (t : RoundStep) (w : Work) (does : Comes (initialised repeat lengths) t w) where
    begins : says ≡ begun (length buffer) (initialised repeat lengths) (client_answer t.answer) (queries_of s)
    unfolding run_says
    begins = rw (is.1, does.answer)

    pub begin_refused : (error : ClientError) (q : Refusal) (r : BenchRun) → t.answer ≡ Err error → q ≡ refusal_of error → r ≡ record { answer = Err q; written = 0 } →
        recorded r buffer ≡ run_lent says buffer
    begin_refused error q r e f k = rw (k, f, begins, e)

    pub begin_asks : (r : BenchRun) (left : List ℕ) {a : ClientAnswer} → t.answer ≡ Ok a →
        recorded r left ≡ run_lent (asked (length buffer) (bench_of t.bench w.store) (queries_of s)) buffer → recorded r left ≡ run_lent says buffer
    begin_asks r left none e = e ∙ rw (begins, none, does.bench)
