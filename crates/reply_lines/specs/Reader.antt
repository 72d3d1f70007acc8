-- Document 01, client_session.rs: "A reader walks the lines of one lent reply, holding the reply and its position." Where each line stands, and where the reader
-- stands after it; WalkLaws has that the texts of a walk from 0 are `text_lines`, all and in order. Positions are those of the lent reply, its 00 counted.
use Rattle.std.specs.Prelude.{cond, List, [], ◌∷◌, ℕ, zero, suc, ◌+◌, ◌-◌, min, length, take, drop}
use Rattle.std.specs.Prelude as rust
use Rattle.std.proofs.Math.Option.{Option, none, some}
use Rattle.reply_lines.specs.Lines.{split_cr, trim_start, trimmed, stays}
use Rattle.reply_lines.specs.declared.TextPlace.{TextPlace}

-- where a line's text starts and ends in a reply, and where the next line is looked for, if there is one
abbrev pub text_step : rust.Option TextPlace → Option TextPlace
text_step (rust.Some p) = some p
text_step rust.None = none

-- the first line that stays, of lines that start at a position; the next one is looked for past the CR, or at the reply's end
abbrev pub line_among : ℕ → ℕ → List (List ℕ) → Option TextPlace
line_among size at [] = none
line_among size at (l ∷ ls) =
    let start = at + (length l - length (trim_start l)) in
    let next = min (at + length l + 1) size in
    cond (stays (trimmed l)) (some (record { start = start; end = start + length (trimmed l); next = next })) (line_among size next ls)

-- the first line that stays, of a reply from a position on
unfoldable pub line_from : List ℕ → ℕ → Option TextPlace
line_from reply at = line_among (length reply) at (split_cr (drop at reply))

-- where a reader at a position stands after a step: past the line, or where it was when no line was left
abbrev pub past_step : ℕ → Option TextPlace → ℕ
past_step at none = at
past_step at (some p) = p.next

-- the text of a step, a part of the reply; nothing when no line was left
abbrev pub step_text : List ℕ → Option TextPlace → List ℕ
step_text reply none = []
step_text reply (some p) = take (p.end - p.start) (drop p.start reply)

-- where a reader stands after n steps
abbrev pub position_after : ℕ → List ℕ → ℕ → ℕ
position_after zero reply at = at
position_after (suc n) reply at = position_after n reply (past_step at (line_from reply at))
