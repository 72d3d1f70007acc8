-- A reader that starts at 0 gives the lines of the reply: its step after n others gives the line after n others, and finds none where all are passed.
use mathlib.Core.Path.{◌≡◌, refl, sym, ap, ◌∙◌}
use mathlib.Core.List.{List, []}
use mathlib.Core.Option.{Option, none, some}
use Prim.Native.Nat.{ℕ, zero, suc, ◌+◌, ◌≤◌}
use native.Mathlib.Omega.{arith}
use lib.ListN.{length, drop, get_or, drop_of_length-le}
use lib.Seq.{drop-nil, get_or-drop}
use Rattle.wire.proofs.Cases.{from_no}
use Rattle.reply_lines.specs.Lines.{text_lines}
use Rattle.reply_lines.specs.declared.TextPlace.{TextPlace}
use Rattle.reply_lines.specs.Reader.{line_from, past_step, step_text, position_after}
use Rattle.reply_lines.proofs.LineLaws.{Found, line-found}

-- a step gives the first of the lines that are left, and leaves the others
given_step : (reply : List ℕ) (at : ℕ) (o : Option TextPlace) → Found reply at o → step_text reply o ≡ get_or (text_lines (drop at reply)) 0 []
given_step reply at none f = rw f
given_step reply at (some p) f = rw f.reads

left_step : (n : ℕ) (reply : List ℕ) (at : ℕ) (o : Option TextPlace) → Found reply at o →
    drop n (text_lines (drop (past_step at o) reply)) ≡ drop (suc n) (text_lines (drop at reply))
left_step n reply at none f = rw f (drop-nil n)
left_step n reply at (some p) f = rw f.reads

-- what n steps leave
pub walk-left : (n : ℕ) (reply : List ℕ) (at : ℕ) → text_lines (drop (position_after n reply at) reply) ≡ drop n (text_lines (drop at reply))
walk-left zero reply at = refl
walk-left (suc n) reply at = walk-left n reply (past_step at (line_from reply at)) ∙ left_step n reply at (line_from reply at) (line-found reply at)

-- the line that the step after them gives, nothing past the last one
pub walk_gives : (n : ℕ) (reply : List ℕ) → step_text reply (line_from reply (position_after n reply 0)) ≡ get_or (text_lines reply) n []
walk_gives n reply =
    let at = position_after n reply 0 in
    let m : n + 0 ≡ n = omega arith in
    given_step reply at (line_from reply at) (line-found reply at)
    ∙ ap (λ (ls : List (List ℕ)). get_or ls 0 []) (walk-left n reply 0)
    ∙ get_or-drop n (text_lines reply) 0 []
    ∙ rw m

none_found : (reply : List ℕ) (at : ℕ) (o : Option TextPlace) → Found reply at o → text_lines (drop at reply) ≡ [] → o ≡ none
none_found reply at none f e = refl
none_found reply at (some p) f e = let z = sym f.reads ∙ e in from_no cc

-- where all lines are passed no line is found
pub walk_ends : (n : ℕ) (reply : List ℕ) → length (text_lines reply) ≤ n → line_from reply (position_after n reply 0) ≡ none
walk_ends n reply h =
    let at = position_after n reply 0 in
    none_found reply at (line_from reply at) (line-found reply at) (walk-left n reply 0 ∙ drop_of_length-le (text_lines reply) h)
