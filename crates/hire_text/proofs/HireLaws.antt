-- What a run's contract gives its text: how long it is, and each way out of `hire_text`.
use mathlib.Core.Path.{◌≡◌, sym, ap, ◌∙◌}
use mathlib.Core.Bool.{Bool, true}
use mathlib.Core.List.{List, []}
use Prim.Native.Nat.{ℕ, ◌+◌, ◌-◌, ◌*◌, ◌/◌, ◌≤◌, ◌<◌}
use native.Mathlib.Omega.{arith}
use lib.ListN.{length, take, length-append}
use lib.Seq.{sets, length-sets, take_all}
use Rattle.wire.specs.declared.Refusal.TheVariants.{SmallBuffer}
use Rattle.std.specs.Prelude.{Result, Ok, Err}
use Rattle.wire.specs.declared.Refusal.{Refusal}
use Rattle.wire.specs.Put.{Put, Written, count_written, put_whole}
use Rattle.wire.specs.Text.{joined}
use Rattle.wire.proofs.PutLaws.{put_then, put_front, put_whole_lem, whole_small, whole-stored, whole_told, whole_length}
use Rattle.bench.specs.declared.BenchRun.{BenchRun}
use Rattle.bench.specs.Run.{run_says, run_answer, Recorded, recorded, run_lent}
use Rattle.hire_text.proofs.LineLaws.{hex_lines, stop_line, lines_length, stop_length}
use Rattle.hire_text.proofs.StandLaws.{run_fits, run_parts}
use Rattle.hire_text.specs.Hire.{text_of_record}
use Rattle.hire_text.specs.Steps.{AreParts}

-- what was written stands inside the buffer, in any run
pub run_inside : (repeat : Bool) (ks s buffer left : List ℕ) (r : BenchRun) → recorded r left ≡ run_lent (run_says repeat ks (length buffer) s) buffer → r.written ≤ length left
run_inside repeat ks s buffer left r e =
    let bytes = joined (run_says repeat ks (length buffer) s).parts in
    let w : r.written ≡ length bytes = ap (λ (v : Recorded). v.written) e in
    let o : left ≡ sets buffer 0 bytes = ap (λ (v : Recorded). v.out) e in
    omega (arith, run_fits repeat ks (length buffer) s, ap length o, length-sets buffer 0 bytes)

module _ (s buffer left : List ℕ) (r : BenchRun) (e : recorded r left ≡ run_lent (run_says true [] (length buffer) s) buffer) where
  abbrev parts : List (List ℕ)
  parts = (run_says true [] (length buffer) s).parts

  pub buffer_left : left ≡ sets buffer 0 (joined parts)
  buffer_left = ap (λ (v : Recorded). v.out) e

  parts_stand : take r.written left ≡ joined parts
  parts_stand =
      let w : r.written ≡ length (joined parts) = ap (λ (v : Recorded). v.written) e in
      let fits = run_fits true [] (length buffer) s in
      let put : Put buffer 0 (joined parts) r.written left = record { next = omega arith; bytes = buffer_left } in
      put_front put ∙ take_all (length buffer) (joined parts) fits

  says : run_answer r.answer ≡ (run_says true [] (length buffer) s).answer
  says = ap (λ (v : Recorded). v.answer) e

  -- where a number ended the run, its line
  abbrev stop : List ℕ
  stop = stop_line (run_answer r.answer)

  text_size : length (text_of_record (length buffer) s) ≡ 3 * r.written + length stop
  unfolding text_of_record
  text_size =
      let w : r.written ≡ length (joined parts) = ap (λ (v : Recorded). v.written) e in
      let end = (run_says true [] (length buffer) s).answer in
      omega (arith, length-append (hex_lines parts) (stop_line end), lines_length parts, ap (λ a. length (stop_line a)) says)

  -- it stands at the front of a line of 12 bytes
  module _ {line₀ line : List ℕ} {size : ℕ} (p : Put line₀ 0 stop size line) (twelve : length line₀ ≡ 12) where
    whole-line : size ≡ length stop
    whole-line = let few = stop_length (run_answer r.answer) in omega (arith, put_whole_lem p (omega arith))

    stop_line_lem : take size line ≡ stop
    stop_line_lem = put_front p ∙ take_all (length line₀) stop (omega (arith, stop_length (run_answer r.answer)))

    -- there is no room for it, or for the lines before it
    pub no_room : (out : List ℕ) → length out < size → count_written (Err SmallBuffer) out ≡ put_whole out 0 (text_of_record (length buffer) s)
    no_room out h = whole_small out 0 (text_of_record (length buffer) s) (omega (arith, text_size, whole-line))

    pub too_few : (out : List ℕ) → size ≤ length out → (length out - size) / 3 < r.written → count_written (Err SmallBuffer) out ≡ put_whole out 0 (text_of_record (length buffer) s)
    too_few out h k = whole_small out 0 (text_of_record (length buffer) s) (omega (arith, text_size, whole-line))

    -- the lines of whatever parts the record's bytes are, and this line after them
    abbrev Lines : List ℕ → ℕ → List ℕ → Type 0
    Lines out n out₁ = (ps : List (List ℕ)) → AreParts ps → take r.written left ≡ joined ps → Put out 0 (hex_lines ps) n out₁

    text_put : {out out₁ out₂ : List ℕ} {n m : ℕ} → Lines out n out₁ → Put out₁ n (take size line) m out₂ → Put out 0 (text_of_record (length buffer) s) m out₂
    unfolding text_of_record
    text_put lines q = rw (← says) (put_then (lines parts (run_parts true [] (length buffer) s) parts_stand) (rw stop_line_lem at q))

    pub all_written : {out out₁ out₂ : List ℕ} {n m : ℕ} → size ≤ length out → r.written ≤ (length out - size) / 3 → Lines out n out₁ →
        Put out₁ n (take size line) m out₂ → count_written (Ok m) out₂ ≡ put_whole out 0 (text_of_record (length buffer) s)
    all_written h k lines q = whole-stored (omega arith) (omega (arith, text_size, whole-line)) (text_put lines q)

-- what a text that was written tells the caller: it is inside the buffer, whose length is as it was
pub text_inside : (out left text : List ℕ) {r : Result ℕ Refusal} {m : ℕ} → count_written r left ≡ put_whole out 0 text → r ≡ Ok m → (m ≤ length left) × (length left ≡ length out)
text_inside out left text {r} {m} e d =
    let q : count_written (Ok m) left ≡ put_whole out 0 text = rw d at e in
    let told = whole_told out 0 text (sym (ap (λ (w : Written). w.answer) q)) in
    let same : length left ≡ length out = ap (λ (w : Written). length w.out) q ∙ whole_length out 0 text in
    (omega (arith, told.0, told.1), same)
