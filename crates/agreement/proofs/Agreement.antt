-- Demand 3: two runs have the same bytes for a record exactly when the two vehicles gave the same.
use mathlib.Core.Path.{◌≡◌, refl, sym, ap, ◌∙◌}
use mathlib.Core.List.{List, [], ◌∷◌, ◌++◌, map, append_assoc}
use mathlib.Core.Logic.{◌↔◌}
use Prim.Native.Nat.{ℕ, zero, suc, ◌-◌, ◌≤◌, ◌<◌}
use native.Mathlib.Omega.{arith}
use lib.Dec.{ltb}
use borrow.Author.Tests.{ltb-true, ltb-false}
use lib.ListN.{length, take, drop, length-take, length-append, length-map}
use lib.Seq.{sets, take_all, take-take, take-append_seam}
use Rattle.group.specs.Format.{write_row}
use Rattle.group.specs.Group.{list_of}
use Rattle.wire.specs.Answer.{Answer, result, refused}
use Rattle.wire.specs.Put.{Put}
use Rattle.wire.specs.Text.{joined}
use Rattle.wire.proofs.PutLaws.{put_front}
use Rattle.wire.proofs.Cases.{by_test, from_no}
use Rattle.wire.proofs.All.{Bytes, all_from}
use Rattle.value.specs.Values.{Value, part_format, read_record, of_pid}
use Rattle.value.proofs.RecordLaws.{RecordFits, record_back, record_same}
use Rattle.reply_values.specs.Values.{answer_order}
use Rattle.reply_values.proofs.OrderLaws.{order_pids, order_same}
use Rattle.bench.specs.Script.{Query, script}
use Rattle.bench.specs.Run.{Run, Recorded}
use Rattle.agreement.specs.Vehicle.{given, SameValues, SameQueries}
use Rattle.agreement.specs.Ends.{Reach, too_long, reach}
use Rattle.agreement.specs.Demand.{givens, commands, first_parts, Drive, Ran, queries, hire_record, parts_standing, comes_to, GoodFirst, GoodAll, GoodRan, reaches, EveryFits}
use Rattle.agreement.specs.Demand.{AnyRun, Holds, Agreement}
use Rattle.agreement.proofs.Parts.{ordered}
use Rattle.agreement.proofs.Agree.{agree_fresh}
use Rattle.agreement.proofs.Ran.{take-first, reach_few, reach-given, length-ordered, run_known, run_refused}

-- ---- the first n of some lists

fits_first : (n : ℕ) (vss : List (List Value)) → RecordFits vss → RecordFits (take n vss)
fits_first zero vss h = tt
fits_first (suc n) [] h = tt
fits_first (suc n) (vs ∷ vss) h = (h.0, fits_first n vss h.1)

take_whole : (vss : List (List Value)) → take (length vss) vss ≡ vss
take_whole [] = refl
take_whole (vs ∷ vss) = ap (λ wss. vs ∷ wss) (take_whole vss)

-- parts as a row of the record
joined_row : (vss : List (List Value)) → joined (map part_format.write vss) ≡ write_row part_format vss
joined_row [] = refl
joined_row (vs ∷ vss) = ap (λ s. part_format.write vs ++ s) (joined_row vss)

-- the first n of them are its first bytes
row_split : (n : ℕ) (vss : List (List Value)) → write_row part_format vss ≡ write_row part_format (take n vss) ++ write_row part_format (drop n vss)
row_split zero vss = refl
row_split (suc n) [] = refl
row_split (suc n) (vs ∷ vss) =
    let part = part_format.write vs in
    ap (λ s. part ++ s) (row_split n vss) ∙ sym (append_assoc part (write_row part_format (take n vss)) (write_row part_format (drop n vss)))

first_parts_lem : (n : ℕ) (vss : List (List Value)) → RecordFits vss → first_parts n (write_row part_format vss) ≡ write_row part_format (take n vss)
unfolding first_parts
first_parts_lem n vss h =
    let row = write_row part_format (take n vss) in
    rw (record_back vss h) (ap (take (length row)) (row_split n vss) ∙ take-append_seam row (write_row part_format (drop n vss)))

-- ---- equal bytes, and the same values PID by PID

iff_then : {A B C : Type 0} → A ↔ B → B ↔ C → A ↔ C
iff_then f g = ((λ a. g.0 (f.0 a)), (λ c. f.1 (g.1 c)))

-- a record has one reading, so equal bytes are equal values
same_rows : (vss wss : List (List Value)) → RecordFits vss → RecordFits wss → write_row part_format vss ≡ write_row part_format wss ↔ vss ≡ wss
same_rows vss wss h i = (record_same vss wss h i, ap (write_row part_format))

-- values that agree PID by PID have one order of an answer
same_order : (vs ws : List Value) → answer_order vs ≡ answer_order ws ↔ SameValues vs ws
same_order vs ws = ((λ e p. sym (order_pids vs p) ∙ ap (of_pid p) e ∙ order_pids ws p), order_same vs ws)

same-ordered : (qs rs : List Query) → ordered qs ≡ ordered rs ↔ SameQueries (givens qs) (givens rs)
same-ordered [] [] = ((λ e. tt), (λ h. refl))
same-ordered [] (r ∷ rs) = ((λ e. from_no cc), (λ h. absurd h))
same-ordered (q ∷ qs) [] = ((λ e. from_no cc), (λ h. absurd h))
same-ordered (q ∷ qs) (r ∷ rs) =
    let one = same_order (given q.lines) (given r.lines) in
    let rest = same-ordered qs rs in
    ((λ e. (one.0 (cc), rest.0 (cc))), (λ h i. one.1 h.0 i ∷ rest.1 h.1 i))

take-map : (n : ℕ) (f : Query → List Value) (qs : List Query) → take n (map f qs) ≡ map f (take n qs)
take-map zero f qs = refl
take-map (suc n) f [] = refl
take-map (suc n) f (q ∷ qs) = ap (λ vss. f q ∷ vss) (take-map n f qs)

same_taken : (n : ℕ) (qs rs : List Query) → take n (ordered qs) ≡ take n (ordered rs) ↔ SameQueries (take n (givens qs)) (take n (givens rs))
same_taken n qs rs =
    let o : (Query → List Value) = λ (q : Query). answer_order (given q.lines) in
    let g : (Query → List Value) = λ (q : Query). given q.lines in
    rw (take-map n o qs, take-map n o rs, take-map n g qs, take-map n g rs) (same-ordered (take n qs) (take n rs))

-- ---- how far a run goes

-- the parts that stand fit the room
reach_inside : (room : ℕ) (qs : List Query) (vss : List (List Value)) → length (joined (map part_format.write (take (reach room qs vss).fit vss))) ≤ room
reach_inside room [] vss = omega arith
reach_inside room (q ∷ qs) [] = omega arith
reach_inside room (q ∷ qs) (vs ∷ vss) =
    let bytes = part_format.write vs in
    by_test (too_long q)
    (λ e. rw e (omega arith))
    (λ e.
    by_test (ltb room (length bytes))
    (λ f. rw (e, f) (omega arith))
    (λ f.
    let left = room - length bytes in
    let rest = joined (map part_format.write (take (reach left qs vss).fit vss)) in
    rw (e, f) (omega (arith, length-append bytes rest, reach_inside left qs vss, ltb-false room (length bytes) f))))

-- where nothing ends it, to the end
reach-whole : (room : ℕ) (qs : List Query) (vss : List (List Value)) → length vss ≡ length qs → (reach room qs vss).answer ≡ result tt → (reach room qs vss).fit ≡ length qs
reach-whole room [] vss l a = refl
reach-whole room (q ∷ qs) [] l a = absurd (omega arith)
reach-whole room (q ∷ qs) (vs ∷ vss) l a =
    by_test (too_long q)
    (λ e. let b = rw e at a in from_no cc)
    (λ e.
    by_test (ltb room (length (part_format.write vs)))
    (λ f. let b = rw (e, f) at a in from_no cc)
    (λ f. let b = rw (e, f) at a in rw (e, f) (ap suc (reach-whole (room - length (part_format.write vs)) qs vss (omega arith) b))))

-- the values of a run's parts are what was given, in the order of an answer
ordered-givens : (qs : List Query) → ordered qs ≡ map answer_order (givens qs)
ordered-givens [] = refl
ordered-givens (q ∷ qs) = ap (λ vss. answer_order (given q.lines) ∷ vss) (ordered-givens qs)

-- ---- one run

-- What is known of a run: how many parts stand, of which values, and which commands were handed out; and of the first n queries, where these are the demand's, that the
-- values are what was given.
record Stands (d : Drive) : Type 0 where
  values : List (List Value)
  each : length values ≡ length (queries d)
  fits : RecordFits values
  count : ℕ
  few : count ≤ length values
  parts : (comes_to d).parts ≡ map part_format.write (take count values)
  inside : length (joined (map part_format.write (take count values))) ≤ length d.lent_buffer
  whole : (comes_to d).answer ≡ result tt → count ≡ length (queries d)
  handed : (comes_to d).handed ≡ take (suc count) (commands (queries d))
  first : (n : ℕ) → GoodFirst n d → take n values ≡ take n (ordered (queries d))
  reached : (n : ℕ) → GoodFirst n d → count < n → record { fit = count; answer = (comes_to d).answer } ≡ reaches d

module _ (d : Drive) (r : Ran d) where
  abbrev room : ℕ
  room = length d.lent_buffer

  bytes : Bytes d.script_bytes
  bytes = all_from (λ b. b < 256) d.script_bytes r.bytes

  by_script : (a : Answer (List Query)) → script d.script_bytes ≡ a → Stands d
  by_script (refused m) e =
      let run = run_refused d.repeat d.pieces d.script_bytes bytes m room e in
      record {
        values = [];
        each = rw e refl;
        fits = tt;
        count = 0;
        few = omega arith;
        parts = ap (λ (r : Run). r.parts) run;
        inside = omega arith;
        whole = λ a. from_no (cc (ap (λ (r : Run). r.answer) run));
        handed = ap (λ (r : Run). r.handed) run ∙ rw e refl;
        first = λ n g. rw e refl;
        reached = λ n g h. (λ i. record { fit = 0; answer = (run i).answer }) ∙ rw e refl;
      }
  by_script (result qs) e =
      let k = run_known d.repeat d.pieces d.script_bytes bytes qs e in
      let vss = k.limited.values in
      let first : ((n : ℕ) → GoodFirst n d → take n vss ≡ take n (ordered qs)) = λ n g. k.first g.0 n (agree_fresh g.0) (rw e at g.1) in
      record {
        values = vss;
        each = rw e k.limited.each;
        fits = k.fits;
        count = (reach room qs vss).fit;
        few = reach_few room qs vss;
        parts = k.limited.parts room;
        inside = reach_inside room qs vss;
        whole = λ a. rw e (reach-whole room qs vss k.limited.each (sym (k.limited.answer room) ∙ a));
        handed = rw e (k.handed room);
        first = λ n g. rw e (first n g);
        reached = λ n g h.
            (λ i. record { fit = (reach room qs vss).fit; answer = k.limited.answer room i }) ∙ rw e (reach-given n room qs vss k.limited.each (first n g) h);
      }

  stands : Stands d
  stands = by_script (script d.script_bytes) refl

  abbrev standing : List (List Value)
  standing = take stands.count stands.values

  standing_fits : RecordFits standing
  standing_fits = fits_first stands.count stands.values stands.fits

  -- what stands in the buffer is the row of these parts, since they fit into it
  record_is : hire_record d ≡ write_row part_format standing
  record_is =
      let t = stands in
      let w : d.run.written ≡ length (joined (comes_to d).parts) = ap (λ (x : Recorded). x.written) r.ran in
      let b : d.buffer ≡ sets d.lent_buffer 0 (joined (comes_to d).parts) = ap (λ (x : Recorded). x.out) r.ran in
      let inside : length (joined (comes_to d).parts) ≤ room = rw t.parts t.inside in
      let put : Put d.lent_buffer 0 (joined (comes_to d).parts) d.run.written d.buffer = record { next = omega arith; bytes = b } in
      put_front put ∙ take_all room (joined (comes_to d).parts) inside ∙ ap joined t.parts ∙ joined_row standing

  stand_is : parts_standing d ≡ stands.count
  stand_is =
      ap (λ s. length (list_of (read_record s))) record_is ∙
      ap (λ r. length (list_of r)) (record_back standing standing_fits) ∙ (omega (arith, length-take stands.count stands.values, stands.few))

  any_run : AnyRun d
  any_run =
      let t = stands in
      let n = t.count in
      record {
        each = stand_is ∙ (omega (arith, ap length t.parts, length-map standing part_format.write, length-take n t.values, t.few));
        all =
            ap (λ n. first_parts n (hire_record d)) stand_is ∙ ap (first_parts n) record_is ∙ first_parts_lem n standing standing_fits
            ∙ ap (write_row part_format) (take-take n n t.values (omega arith)) ∙ sym record_is;
        whole = λ a. stand_is ∙ t.whole (sym (ap (λ (x : Recorded). x.answer) r.ran) ∙ a);
        handed = t.handed ∙ ap (λ n. take (suc n) (commands (queries d))) (sym stand_is);
      }

  -- the first n parts are those of what the vehicle gave
  first_is : (n : ℕ) → GoodFirst n d → n ≤ parts_standing d → take n standing ≡ take n (ordered (queries d))
  first_is n g h = take-first n stands.count stands.values (omega (arith, stand_is)) ∙ stands.first n g

  -- and where all fit, all of them are
  all_is : GoodAll d → EveryFits d → standing ≡ ordered (queries d)
  all_is g f =
      let t = stands in
      let n = length (queries d) in
      let whole : t.count ≡ n =
      by_test (ltb t.count n)
      (λ e. t.whole (ap (λ (r : Reach). r.answer) (t.reached n g (ltb-true t.count n e)) ∙ f))
      (λ e. omega (arith, ltb-false t.count n e, t.few, t.each)) in
      ap (λ k. take k t.values) whole ∙ t.first n g ∙ ap (λ k. take k (ordered (queries d))) (sym (length-ordered (queries d))) ∙ take_whole (ordered (queries d))

  holds : GoodRan d → Holds d
  holds g =
      let t = stands in
      let n = suc (parts_standing d) in
      let s = stand_is in
      let reached = t.reached n g (omega (arith, s)) in
      record {
        stand = s ∙ ap (λ (r : Reach). r.fit) reached;
        answer = ap (λ (x : Recorded). x.answer) r.ran ∙ ap (λ (r : Reach). r.answer) reached;
        values =
            ap (λ s. list_of (read_record s)) record_is ∙ ap list_of (record_back standing standing_fits)
            ∙ sym (take-take t.count n t.values (omega arith)) ∙ ap (take t.count) (t.first n g) ∙ take-take t.count n (ordered (queries d)) (omega arith)
            ∙ ap (take t.count) (ordered-givens (queries d)) ∙ ap (λ k. take k (map answer_order (givens (queries d)))) (sym s);
      }

-- ---- two runs

pub agreement : (d e : Drive) → Ran d → Ran e → Agreement d e
agreement d e r s = record {
  any_one = any_run d r;
  any_two = any_run e s;
  one = holds d r;
  two = holds e s;
  equal = λ g h f i.
      let same = same_rows (standing d r) (standing e s) (standing_fits d r) (standing_fits e s) in
      rw (record_is d r, record_is e s) (iff_then same (rw (all_is d r g f, all_is e s h i) (same-ordered (queries d) (queries e))));
  before = λ n h i g k.
      let vss = standing d r in
      let wss = standing e s in
      let fits = standing_fits d r in
      let fits' = standing_fits e s in
      let same = same_rows (take n vss) (take n wss) (fits_first n vss fits) (fits_first n wss fits') in
      rw (record_is d r, record_is e s, first_parts_lem n vss fits, first_parts_lem n wss fits')
      (iff_then same (rw (first_is d r n g h, first_is e s n k i) (same_taken n (queries d) (queries e))));
}
