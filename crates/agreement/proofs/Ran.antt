-- A list of queries: what ends its run and which commands are handed out, on every script; and, where the first n queries are the demand's, that their parts are what the
-- vehicle gave.
use mathlib.Core.Path.{◌≡◌, refl, sym, ap, subst, ◌∙◌}
use mathlib.Core.Bool.{Bool, true, false}
use mathlib.Core.List.{List, [], ◌∷◌, map}
use Prim.Native.Nat.{ℕ, zero, suc, ◌-◌, ◌≤◌, ◌<◌}
use native.Mathlib.Omega.{arith}
use lib.Dec.{ltb}
use lib.ListN.{length, take}
use borrow.Author.Tests.{ltb-true, ltb-false, lt-ltb, le-ltb}
use Rattle.group.specs.Format.{Each}
use Rattle.wire.specs.Answer.{result, refused}
use Rattle.wire.proofs.Cases.{by_test}
use Rattle.wire.proofs.All.{Bytes}
use Rattle.pid.specs.Lengths.{mode01_lengths}
use Rattle.value.specs.Values.{Value, part_format}
use Rattle.value.proofs.RecordLaws.{RecordFits}
use Rattle.reply.specs.Reply.{reply_text}
use Rattle.reply_values.specs.Values.{answer_order}
use Rattle.reply_values.proofs.OrderLaws.{order_fit}
use Rattle.bench.specs.Script.{Query, script, InLimits}
use Rattle.bench.proofs.ScriptLaws.{AllAreBytes, script_limits, script_bytes_lem}
use Rattle.bench.specs.Run.{Bench, Run, ended, initialised, part, asked, run_says}
use Rattle.agreement.specs.Vehicle.{given}
use Rattle.agreement.specs.Ends.{Reach, too_long, reach, Limited}
use Rattle.agreement.specs.Demand.{GoodQueries, givens, command_of, commands}
use Rattle.agreement.proofs.Started.{Between, started}
use Rattle.agreement.proofs.Agree.{Agree, agree_fresh}
use Rattle.agreement.proofs.Asked.{Ready, Gives, Fails, outcome}
use Rattle.agreement.proofs.Parts.{ordered, part_size, given_fits}

abbrev AllReady : List Query → Type 0
AllReady [] = Unit {0}
AllReady (q ∷ qs) = Ready q × AllReady qs

-- a script's queries are such
ready : (qs : List Query) → Each InLimits qs → AllAreBytes qs → AllReady qs
ready [] l b = tt
ready (q ∷ qs) l b = (
  record {
    some = l.0.some;
    few = l.0.few;
    counted = l.0.counted;
    pids = b.0.pids;
    fit = l.0.fit;
    many = l.0.short;
    bytes = b.0.lines;
  },
  ready qs l.1 b.1,
)

script-ready : (s : List ℕ) (qs : List Query) → Bytes s → script s ≡ result qs → AllReady qs
script-ready s qs b e = ready qs (script_limits s qs e) (script_bytes_lem s qs b e)

-- what their vehicle gave can be read back
ready_fits : (qs : List Query) → AllReady qs → RecordFits (ordered qs)
ready_fits [] ok = tt
ready_fits (q ∷ qs) ok = (order_fit (given q.lines) (given_fits q.lines ok.0.fit), ready_fits qs ok.1)

-- how far a run goes is within the list
pub reach_few : (room : ℕ) (qs : List Query) (vss : List (List Value)) → (reach room qs vss).fit ≤ length vss
reach_few room [] vss = omega arith
reach_few room (q ∷ qs) [] = omega arith
reach_few room (q ∷ qs) (vs ∷ vss) =
    by_test (too_long q)
    (λ e. rw e (omega arith))
    (λ e.
    by_test (ltb room (length (part_format.write vs)))
    (λ f. rw (e, f) (omega arith))
    (λ f. rw (e, f) (omega (arith, reach_few (room - length (part_format.write vs)) qs vss))))

pub take-first : (n k : ℕ) (vss : List (List Value)) → n ≤ k → take n (take k vss) ≡ take n vss
take-first zero k vss h = refl
take-first (suc n) zero vss h = absurd (omega arith)
take-first (suc n) (suc k) [] h = refl
take-first (suc n) (suc k) (vs ∷ vss) h = ap (λ wss. vs ∷ wss) (take-first n k vss (omega arith))

pub length-ordered : (qs : List Query) → length (ordered qs) ≡ length qs
length-ordered [] = refl
length-ordered (q ∷ qs) = ap suc (length-ordered qs)

-- where it ends among the first n queries, of which the values are what was given, it goes as far as what was given lets it
pub reach-given : (n room : ℕ) (qs : List Query) (vss : List (List Value)) → length vss ≡ length qs → take n vss ≡ take n (ordered qs) → (reach room qs vss).fit < n →
    reach room qs vss ≡ reach room qs (givens qs)
reach-given n room [] vss l e h = refl
reach-given n room (q ∷ qs) [] l e h = absurd (omega arith)
reach-given zero room (q ∷ qs) (vs ∷ vss) l e h = absurd (omega arith)
reach-given (suc n) room (q ∷ qs) (vs ∷ vss) l e h =
    let one : vs ≡ answer_order (given q.lines) = cc in
    let others : take n vss ≡ take n (ordered qs) = cc in
    let size : length (part_format.write vs) ≡ length (part_format.write (given q.lines)) = ap (λ vs. length (part_format.write vs)) one ∙ sym (part_size q) in
    by_test (too_long q)
    (λ t. rw t refl)
    (λ t.
    by_test (ltb room (length (part_format.write vs)))
    (λ f. let g = rw size at f in rw (t, f, g) refl)
    (λ f.
    let g = rw size at f in
    let k = rw (t, f) at h in
    let left = room - length (part_format.write vs) in
    let rest = reach-given n left qs vss (omega arith) others (omega arith) in
    rw (t, f, g) (ap (λ (r : Reach). record { fit = suc r.fit; answer = r.answer }) (rest ∙ ap (λ k. reach (room - k) qs (givens qs)) size))))

-- What is known of the runs of some queries, by a client that knows some lengths: what ends them, that each query that ran was handed out under its own text, and that the
-- values of the first n are what the vehicle gave, where these n are the demand's.
pub record Known (lengths : List ℕ) (qs : List Query) (run : ℕ → Run) : Type 0 where
  pub limited : Limited qs run
  pub fits : RecordFits limited.values
  pub handed : (room : ℕ) → (run room).handed ≡ take (suc (reach room qs limited.values).fit) (commands qs)
  pub first : (L : ℕ → ℕ) (n : ℕ) → Agree L lengths → GoodQueries L (take n qs) → take n limited.values ≡ take n (ordered qs)

-- a query, and then the others
module _ (b : Bench) (q : Query) (qs : List Query) where
  abbrev lengths : List ℕ
  lengths = b.client.server.pid_lengths

  abbrev runs : ℕ → Run
  runs room = asked room b (q ∷ qs)

  abbrev others : ℕ → Run
  others room = asked room (part b q).bench qs

  abbrev reply : List ℕ
  reply = reply_text false false true q.lines

  -- 8 ends the run
  stops : AllReady (q ∷ qs) → 4096 < length reply → Fails q (part b q) → Known lengths (q ∷ qs) runs
  stops ok m f =
      let e = f.answer in
      let t : too_long q ≡ true = lt-ltb 4096 (length reply) m in
      record {
        limited = record {
          values = ordered (q ∷ qs);
          each = length-ordered (q ∷ qs);
          parts = λ room. rw (e, t) refl;
          answer = λ room. rw (e, t) refl;
        };
        fits = ready_fits (q ∷ qs) ok;
        handed = λ room. rw (e, t, f.handed) refl;
        first = λ L n a good. refl;
      }

  -- the first n of its values and the others'
  first-values : (g : Gives lengths q (part b q)) (vss : List (List Value)) →
      ((L : ℕ → ℕ) (n : ℕ) → Agree L (part b q).bench.client.server.pid_lengths → GoodQueries L (take n qs) → take n vss ≡ take n (ordered qs)) →
      (L : ℕ → ℕ) (n : ℕ) → Agree L lengths → GoodQueries L (take n (q ∷ qs)) → take n (g.values ∷ vss) ≡ take n (ordered (q ∷ qs))
  first-values g vss rest L zero a good = refl
  first-values g vss rest L (suc n) a good =
      let (same, agree) = g.gave L a good.0 in
      (λ i. same i ∷ rest L n agree good.1 i)

  -- its part stands, or 6 ends the run
  goes : length reply ≤ 4096 → Gives lengths q (part b q) → Known (part b q).bench.client.server.pid_lengths qs others → Known lengths (q ∷ qs) runs
  goes few g rest =
      let e = g.answer in
      let vs = g.values in
      let bytes = part_format.write vs in
      let t : too_long q ≡ false = le-ltb 4096 (length reply) few in
      record {
        limited = record {
          values = vs ∷ rest.limited.values;
          each = ap suc rest.limited.each;
          parts = λ room.
              by_test (ltb room (length bytes)) (λ f. rw (e, t, f) refl) (λ f. rw (e, t, f, rest.limited.parts (room - length bytes)) refl);
          answer = λ room.
              by_test (ltb room (length bytes)) (λ f. rw (e, t, f) refl) (λ f. rw (e, t, f, rest.limited.answer (room - length bytes)) refl);
        };
        fits = (g.fit, rest.fits);
        handed = λ room.
            by_test (ltb room (length bytes))
            (λ f. rw (e, g.handed, t, f) refl)
            (λ f. rw (e, g.handed, t, f) (ap (λ cs. command_of q ∷ cs) (rest.handed (room - length bytes))));
        first = first-values g rest.limited.values rest.first;
      }

-- ---- the list

list_known : (b : Bench) (qs : List Query) → Between b → AllReady qs → Known b.client.server.pid_lengths qs (λ room. asked room b qs)
list_known b [] m ok = record {
  limited = record { values = []; each = refl; parts = λ room. refl; answer = λ room. refl };
  fits = tt;
  handed = λ room. refl;
  first = λ L n a good. refl;
}
list_known b (q ∷ qs) m ok =
    let o = outcome b q m ok.0 in
    by_test (too_long q)
    (λ t. let h = ltb-true 4096 _ t in stops b q qs ok h (o.fails h))
    (λ t. let h = ltb-false 4096 _ t in let g = o.gives h in goes b q qs h g (list_known (part b q).bench qs g.between ok.1))

-- ---- the run

module _ (repeat : Bool) (ks s : List ℕ) (bytes : Bytes s) where
  pub run_known : (qs : List Query) → script s ≡ result qs → Known mode01_lengths qs (λ room. run_says repeat ks room s)
  unfolding run_says
  run_known qs e =
      let t = started repeat ks in
      rw (e, t.answer, t.handed)
      (subst (λ lengths. Known lengths qs (λ room. asked room (initialised repeat ks).bench qs)) t.lengths
      (list_known (initialised repeat ks).bench qs t.between (script-ready s qs bytes e)))

  -- where all queries are the demand's, the run comes to what the script alone tells: neither the piece lengths nor repeat come into it
  pub run_given : (L : ℕ → ℕ) (room : ℕ) (qs : List Query) → script s ≡ result qs → GoodQueries L (take (suc (length qs)) qs) →
      run_says repeat ks room s ≡ (let r = reach room qs (givens qs) in
      record { answer = r.answer; parts = map part_format.write (take r.fit (ordered qs)); handed = take (suc r.fit) (commands qs) })
  run_given L room qs e good =
      let k = run_known qs e in
      let vss = k.limited.values in
      let fit = (reach room qs vss).fit in
      let n = suc (length qs) in
      let inside : fit < n = omega (arith, reach_few room qs vss, k.limited.each) in
      let all = k.first L n (agree_fresh L) good in
      let first : take fit vss ≡ take fit (ordered qs) = sym (take-first fit n vss (omega arith)) ∙ ap (take fit) all ∙ take-first fit n (ordered qs) (omega arith) in
      (λ i. record { answer = k.limited.answer room i; parts = (k.limited.parts room ∙ ap (map part_format.write) first) i; handed = k.handed room i }) ∙
      ap (λ (r : Reach). record { answer = r.answer; parts = map part_format.write (take r.fit (ordered qs)); handed = take (suc r.fit) (commands qs) })
      (reach-given n room qs vss k.limited.each all inside)

  -- a script that is refused is not run
  pub run_refused : (n room : ℕ) → script s ≡ refused n → run_says repeat ks room s ≡ ended n []
  unfolding run_says
  run_refused n room e = rw e refl
