-- What a step over the lines of a reply says: a walk by `next_line` keeps the lines that are left.
use mathlib.Core.Path.{◌≡◌, refl, sym, ap, ◌∙◌}
use mathlib.Core.Bool.{Bool}
use mathlib.Core.List.{List, [], ◌∷◌, map}
use mathlib.Core.Option.{Option, none, some}
use Prim.Native.Nat.{ℕ, zero, suc, ◌+◌, ◌-◌, ◌≤◌, ◌<◌, min}
use native.Mathlib.Omega.{arith}
use lib.Dec.{ltb}
use lib.ListN.{length, drop}
use borrow.Author.Tests.{ltb-true, ltb-false}
use Rattle.wire.proofs.Cases.{by_test}
use Rattle.reply_lines.specs.Lines.{trim_start, trimmed, stays, text_lines}
use Rattle.reply_lines.specs.Decode.{text_line, lines_of_reply}
use Rattle.reply_lines.specs.Reader.{text_step, line_from, step_text}
use Rattle.reply_lines.specs.Steps.{to_cr}
use Rattle.reply_lines.specs.declared.TextPlace.{TextPlace}
use Rattle.std.specs.Prelude as rust
use Rattle.reply_lines.proofs.TurnLaws.{part, cr_inside, next-after, text_fits, end_fits, text-part, text-line, text_skip, text_end, from-line, from_skip, from_end}

-- the next line that stays, from position at on
pub record LineHere (reply : List ℕ) (at : ℕ) (p : TextPlace) : Type 0 where
  pub starts : at ≤ p.start
  pub ordered : p.start ≤ p.end
  pub inside : p.end ≤ p.next
  pub after : at < p.next
  pub within : p.next ≤ length reply
  pub reads : text_lines (drop at reply) ≡ step_text reply (some p) ∷ text_lines (drop p.next reply)

-- what a step says of the lines that are left
abbrev pub Found : List ℕ → ℕ → Option TextPlace → Type 0
Found reply at none = text_lines (drop at reply) ≡ []
Found reply at (some p) = LineHere reply at p

-- what is found past a line that goes is found before it
found-past : (reply : List ℕ) (at next : ℕ) → at < next → text_lines (drop at reply) ≡ text_lines (drop next reply) → (o : Option TextPlace) → Found reply next o → Found reply at o
found-past reply at next h e none f = e ∙ f
found-past reply at next h e (some p) f = record {
  starts = omega (arith, f.starts);
  ordered = f.ordered;
  inside = f.inside;
  after = omega (arith, f.after);
  within = f.within;
  reads = e ∙ f.reads;
}

found_turn : (reply : List ℕ) (at : ℕ) → at < length reply → ((next : ℕ) → at < next → Found reply next (line_from reply next)) → Found reply at (line_from reply at)
found_turn reply at h rest =
    let cr = at + to_cr (drop at reply) in
    let next = min (cr + 1) (length reply) in
    let text = trim_start (part reply at cr) in
    let t = trimmed (part reply at cr) in
    let k = next-after reply at cr h refl next refl in
    by_test (stays t)
    (λ e.
    rw (from-line reply at cr h refl next refl text refl t refl e)
    (record {
      starts = omega (arith, text_fits reply at cr h refl text refl);
      ordered = omega arith;
      inside = omega (arith, end_fits reply at cr h refl next refl text refl t refl, cr_inside reply at cr h refl);
      after = k;
      within = omega arith;
      reads =
          text-line reply at cr h refl next refl text refl t refl e
          ∙ ap (λ (l : List ℕ). l ∷ text_lines (drop next reply)) (sym (text-part reply at cr h refl next refl text refl t refl));
    }))
    (λ e.
    rw (from_skip reply at cr h refl next refl text refl t refl e)
    (found-past reply at next k (text_skip reply at cr h refl next refl text refl t refl e) (line_from reply next) (rest next k)))

found : (n : ℕ) (reply : List ℕ) (at : ℕ) → length reply - at ≤ n → Found reply at (line_from reply at)
found zero reply at h = rw (from_end reply at (omega arith)) (text_end reply at (omega arith))
found (suc n) reply at h =
    by_test (ltb at (length reply))
    (λ e. found_turn reply at (ltb-true at (length reply) e) (λ next k. found n reply next (omega (arith, ltb-true at (length reply) e))))
    (λ e. let k = ltb-false at (length reply) e in rw (from_end reply at k) (text_end reply at k))

pub line-found : (reply : List ℕ) (at : ℕ) → Found reply at (line_from reply at)
line-found reply at = found (length reply - at) reply at (omega arith)

-- an answer with a line: its bounds, and the line with those that are left
pub step_line : (reply : List ℕ) (at : ℕ) {r : rust.Option TextPlace} {place : TextPlace} → text_step r ≡ line_from reply at → r ≡ rust.Some place → LineHere reply at place
step_line reply at {r} {place} q e =
    let p : line_from reply at ≡ some place = sym q ∙ ap text_step e in
    rw p at (line-found reply at)

-- an answer with none: no line is left
pub step_end : (reply : List ℕ) (at : ℕ) {r : rust.Option TextPlace} → text_step r ≡ line_from reply at → r ≡ rust.None → text_lines (drop at reply) ≡ []
step_end reply at {r} q e =
    let p : line_from reply at ≡ none = sym q ∙ ap text_step e in
    rw p at (line-found reply at)

-- ---- the same of the lines decoded

pub reply-line : (framing : Bool) (reply : List ℕ) (at : ℕ) (p : TextPlace) → LineHere reply at p →
    lines_of_reply framing (drop at reply) ≡ text_line framing (step_text reply (some p)) ∷ lines_of_reply framing (drop p.next reply)
unfolding lines_of_reply
reply-line framing reply at p h = ap (map (text_line framing)) h.reads

pub reply_end : (framing : Bool) (reply : List ℕ) (at : ℕ) → text_lines (drop at reply) ≡ [] → lines_of_reply framing (drop at reply) ≡ []
unfolding lines_of_reply
reply_end framing reply at h = ap (map (text_line framing)) h
