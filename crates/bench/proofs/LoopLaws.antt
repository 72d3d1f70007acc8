-- Laws of the run over the queries of a script: a part in the record, and what is left of the run at a position of the script and of the record.
use mathlib.Core.Bool.{true, false}
use mathlib.Core.Path.{◌≡◌, refl, sym, ap, subst, ◌∙◌}
use mathlib.Core.List.{List, [], ◌∷◌, append-nil}
use Prim.Native.Nat.{ℕ, ◌+◌, ◌-◌, ◌≤◌}
use native.Mathlib.Omega.{arith}
use lib.Dec.{ltb}
use lib.ListN.{length, take, drop, length-append}
use lib.Seq.{sets, length-sets}
use borrow.Author.Tests.{ltb-false}
use Rattle.wire.specs.declared.Refusal.{Refusal}
use Rattle.wire.specs.Answer.{Answer, result, refused, number}
use Rattle.wire.specs.Put.{Put}
use Rattle.wire.specs.Text.{joined}
use Rattle.wire.proofs.Cases.{by_test, from_no}
use Rattle.wire.proofs.PutLaws.{put_then}
use Rattle.client_session.specs.Session.{client}
use Rattle.bench.specs.Script.{Query, query_format}
use Rattle.bench.specs.Steps.{PartStep, query_step, query_at}
use Rattle.bench.specs.declared.QueryPlace.{QueryPlace}
use Rattle.std.specs.Prelude.{Ok, Err, Some, None}
use Rattle.std.specs.Prelude as rust
use Rattle.std.specs.Result.{is_err}
use Rattle.bench.proofs.StepLaws.{QueryHere, step_end, step_none}
use Rattle.bench.proofs.ScriptLaws.{ahead_start}
use Rattle.bench.proofs.QueryLaws.{query_lawful, query_some}
use Rattle.group.proofs.WalkLaws.{Ahead, ahead_end, ahead_none, ahead_thing}
use Rattle.bench.specs.declared.Bench as code
use Rattle.bench.specs.declared.BenchRun.{BenchRun}
use Rattle.bench.specs.declared.Work.{Work}
use Rattle.bench.specs.Run.{Part, start_says, asking, finished, part, Run, after, asked, run_answer, Recorded, recorded, run_lent}
use Rattle.bench.specs.Steps.{bench_of, part_text, PartDoes, IsScript, or_none, queries_of, standing, added, lent_from}

-- what the host sees is its answer, its length and the buffer
recorded-same : {x y : Recorded} → x.answer ≡ y.answer → x.written ≡ y.written → x.out ≡ y.out → x ≡ y
recorded-same a w o = λ i. record { answer = a i; written = w i; out = o i }

run_refused : (a : rust.Result (Unit {0}) Refusal) → is_err a ≡ true → (n : ℕ) × (run_answer a ≡ refused n)
run_refused (Ok u) k = from_no (cc)
run_refused (Err q) k = (number q, refl)

run_complete : (a : rust.Result (Unit {0}) Refusal) → is_err a ≡ false → run_answer a ≡ result tt
run_complete (Ok u) k = refl
run_complete (Err q) k = from_no (cc)

-- ---- the others after a part

-- after a number nothing follows
number-last : (room at : ℕ) (buffer : List ℕ) (a : Answer (List ℕ)) (handed : List (List ℕ)) (others : List ℕ → Run) (n : ℕ) → (added room a).answer ≡ refused n →
    lent_from at (standing room a handed others) buffer ≡ lent_from at (added room a) buffer
number-last room at buffer (refused m) handed others n e = refl
number-last room at buffer (result bytes) handed others n e =
    by_test (ltb room (length bytes)) (λ t. rw t) (λ t. let none = rw t at e in from_no (cc))

-- after a part that fits the others follow where it ends
after_lent : (at : ℕ) (buffer bytes : List ℕ) (handed : List (List ℕ)) (others : Run) → at + length bytes ≤ length buffer →
    lent_from at (after (bytes ∷ []) handed others) buffer ≡ lent_from (at + length bytes) others (sets buffer at bytes)
after_lent at buffer bytes handed others fits =
    let p : Put buffer at bytes (at + length bytes) (sets buffer at bytes) = record { next = omega arith; bytes = refl } in
    recorded-same refl (omega (arith, length-append bytes (joined others.parts))) (sym (put_then p (record { next = refl; bytes = refl })).bytes)

-- A part stands from position at to position end, and left is the record's buffer then.
record Stands (at : ℕ) (buffer : List ℕ) (a : Answer (List ℕ)) (handed : List (List ℕ)) (others : List ℕ → Run) (end : ℕ) (left : List ℕ) : Type 0 where
  bytes : List ℕ
  size : end ≡ at + length bytes
  inside : end ≤ length left
  same_length : length left ≡ length buffer
  follow : lent_from at (standing (length buffer - at) a handed others) buffer ≡ lent_from end (others bytes) left

-- after a part that stands the others follow
part_stands : (at : ℕ) (buffer : List ℕ) (a : Answer (List ℕ)) (handed : List (List ℕ)) (others : List ℕ → Run) → at ≤ length buffer →
    (added (length buffer - at) a).answer ≡ result tt →
    Stands at buffer a handed others (lent_from at (added (length buffer - at) a) buffer).written (lent_from at (added (length buffer - at) a) buffer).out
part_stands at buffer (refused m) handed others inside e = from_no (cc)
part_stands at buffer (result bytes) handed others inside e =
    by_test (ltb (length buffer - at) (length bytes))
    (λ t. let none = rw t at e in from_no (cc))
    (λ t.
    let h = ltb-false (length buffer - at) (length bytes) t in
    let same = length-sets buffer at bytes in
    rw (t, append-nil bytes)
    (record {
      bytes = bytes;
      size = refl;
      inside = omega (arith, same);
      same_length = same;
      follow = rw t (after_lent at buffer bytes handed (others bytes) (omega arith));
    }))

-- ---- what is left of a run

-- With the script read up to a position, and the record written up to a position: the queries that are ahead make the rest of the whole run.
pub record Left (whole : Recorded) (s : List ℕ) (b : code.Bench) (place at : ℕ) (buffer store : List ℕ) : Type 0 where
  pub queries : List Query
  pub ahead : Ahead query_format s place queries
  pub inside : at ≤ length buffer
  pub rest : whole ≡ lent_from at (asked (length buffer - at) (bench_of b store) queries) buffer

-- at the start all of it is left
pub left_start : (s : List ℕ) (b : code.Bench) (place at : ℕ) (buffer store : List ℕ) → IsScript s → place ≡ 0 → at ≡ 0 →
    Left (run_lent (asked (length buffer) (bench_of b store) (queries_of s)) buffer) s b place at buffer store
left_start s b place at buffer store (qs, h) p z =
    let room : length buffer ≡ length buffer - at = omega arith in
    record {
      queries = qs;
      ahead = ahead_start s place qs h p;
      inside = omega arith;
      rest =
          ap (λ n. run_lent (asked n (bench_of b store) (queries_of s)) buffer) room ∙
          ap (λ a. run_lent (asked (length buffer - at) (bench_of b store) (or_none a)) buffer) h ∙
          recorded-same refl (omega arith) (ap (λ n. sets buffer n (joined (asked (length buffer - at) (bench_of b store) qs).parts)) (sym z));
    }

module _ {whole : Recorded} {s : List ℕ} {b : code.Bench} {place at : ℕ} {buffer store : List ℕ} (l : Left whole s b place at buffer store) where
  -- at the end nothing is left
  pub left_done : query_step (Ok None) ≡ query_at s place → recorded (record { answer = Ok tt; written = at }) buffer ≡ whole
  left_done e =
      let none = ahead_end query_format s place l.queries l.ahead (step_end s place e) in
      sym (l.rest ∙ ap (λ qs. lent_from at (asked (length buffer - at) (bench_of b store) qs) buffer) none ∙ recorded-same refl (omega arith) refl)

  -- and no step is refused
  pub left-read : (n : Refusal) → query_step (Err n) ≡ query_at s place → ⊥
  left-read n e = let none = step_none s place n e in ahead_none query_format s place l.queries l.ahead none.0 none.1

  -- a query has been asked, and r is what became of its part
  module _ (q : Query) (a : QueryPlace) (w : QueryHere s place q a) (p : PartStep) (u : Work)
      (does :
      PartDoes
      (finished
      (asking (bench_of b store) (start_says (client b.client) (take (a.pids + a.few - a.pids) (drop a.pids s)) a.count)
      (take (a.next.at - a.list) (drop a.list s))))
      p u)
      (r : BenchRun) (buffer₁ : List ℕ)
      (e : recorded r buffer₁ ≡ lent_from at (added (length buffer - at) (part_text p.answer (take p.written u.reply))) buffer) where
    abbrev room : ℕ
    room = length buffer - at

    abbrev answer : Answer (List ℕ)
    answer = part_text p.answer (take p.written u.reply)

    abbrev says : Part
    says = part (bench_of b store) q

    its_pids : take (a.pids + a.few - a.pids) (drop a.pids s) ≡ q.pids
    its_pids = let width : a.pids + a.few - a.pids ≡ a.few = omega arith in ap (λ n. take n (drop a.pids s)) width ∙ w.its_pids

    does_part : PartDoes says p u
    unfolding part
    does_part =
        subst (λ (x : Part). PartDoes x p u)
        (λ i. finished (asking (bench_of b store) (start_says (client b.client) (its_pids i) (w.its_count i)) (w.its_lines i)))
        does

    abbrev others : List Query → List ℕ → Run
    others qs bytes = asked (room - length bytes) (bench_of p.bench u.store) qs

    one_more : (qs : List Query) → l.queries ≡ q ∷ qs → whole ≡ lent_from at (standing room answer says.handed (others qs)) buffer
    one_more qs f =
        let told = sym does_part.answer in
        let then = sym does_part.bench in
        l.rest ∙
        ap (λ qs. lent_from at (asked room (bench_of b store) qs) buffer) f ∙
        (λ i. lent_from at (standing room (told i) says.handed (λ bytes. asked (room - length bytes) (then i) qs)) buffer)

    -- a number ends the run
    pub left_refused : is_err r.answer ≡ true → recorded r buffer₁ ≡ whole
    left_refused k =
        let (qs, f, _) = ahead_thing query_format s place l.queries l.ahead query_lawful query_some w.here in
        let (n, none) = run_refused r.answer k in
        e ∙ sym (one_more qs f ∙ number-last room at buffer answer says.handed (others qs) n (sym (ap (λ (x : Recorded). x.answer) e) ∙ none))

    -- the part stands
    pub left-next : is_err r.answer ≡ false → Left whole s p.bench a.next.at r.written buffer₁ u.store
    left-next k =
        let (qs, f, g) = ahead_thing query_format s place l.queries l.ahead query_lawful query_some w.here in
        let t = part_stands at buffer answer says.handed (others qs) l.inside (sym (ap (λ (x : Recorded). x.answer) e) ∙ run_complete r.answer k) in
        let end = ap (λ (x : Recorded). x.written) e in
        let out = ap (λ (x : Recorded). x.out) e in
        let size : r.written ≡ at + length t.bytes = end ∙ t.size in
        let same : length buffer₁ ≡ length buffer = ap length out ∙ t.same_length in
        let fewer : room - length t.bytes ≡ length buffer₁ - r.written = omega arith in
        record {
          queries = qs;
          ahead = g;
          inside = omega (arith, end, same, t.inside, t.same_length);
          rest =
              one_more qs f ∙
              t.follow ∙
              (λ i. lent_from (sym end i) (asked (fewer i) (bench_of p.bench u.store) qs) (sym out i));
        }
