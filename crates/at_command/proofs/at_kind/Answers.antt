-- `at_command::at_kind` meets its contract. Past the first two tests a command is AT, a letter and the rest; its arm decides what the letter leaves.
use mathlib.Core.List.{List, [], ◌∷◌}
use mathlib.Core.Bool.{Bool, true}
use Rattle.std.proofs.Common.{◌≤◌, length}
use Rattle.wire.specs.Text.{begins}
use mathlib.Core.Path.{◌≡◌, refl, sym, ◌∙◌}
use Prim.Native.Nat.{ℕ}
use lib.ListN.{get_or, drop}
use Rattle.at_command.specs.Dialect.{at_kind}
use Rattle.at_command.proofs.KindLaws.{kind_other}
use Rattle.at_command.proofs.Laws.{kind_bare, after_at, no_letter}
use Rattle.at_command.proofs.at_kind.Goals as goal

-- past the first two tests a command is AT, a letter and the rest
letter : (text : List ℕ) {begun : Bool} {x : ℕ} → begun ≡ begins text (65 ∷ 84 ∷ []) → begun ≡ true → 3 ≤ length text → get_or text 2 0 ≡ x → text ≡ 65 ∷ 84 ∷ x ∷ drop 3 text
letter text e begun long k = after_at text (sym e ∙ begun) _ long k

pub returns-then-not-begins : goal.returns-then-not-begins
returns-then-not-begins c =
    sym (kind_other c.args.command.now (sym c.begins.ensures ∙ c.if-not-begins.true))

pub returns-then-command-lt3 : goal.returns-then-command-lt3
returns-then-command-lt3 c =
    sym (kind_bare c.args.command.now (sym c.begins.ensures ∙ c.if-not-begins.false) c.if-command-lt3.true)

pub returns-in-90 : goal.returns-in-90
unfolding at_kind
returns-in-90 c =
    c.one_text.ensures ∙ rw (letter c.args.command.now c.begins.ensures c.if-not-begins.false c.if-command-lt3.false c.in-90.is)

pub returns-in-69 : goal.returns-in-69
unfolding at_kind
returns-in-69 c = c.switched.ensures ∙ rw (letter c.args.command.now c.begins.ensures c.if-not-begins.false c.if-command-lt3.false c.in-69.is)

pub returns-in-76 : goal.returns-in-76
unfolding at_kind
returns-in-76 c = c.switched-in-76.ensures ∙ rw (letter c.args.command.now c.begins.ensures c.if-not-begins.false c.if-command-lt3.false c.in-76.is)

pub returns-in-83 : goal.returns-in-83
unfolding at_kind
returns-in-83 c = c.ats_kind.ensures ∙ rw (letter c.args.command.now c.begins.ensures c.if-not-begins.false c.if-command-lt3.false c.in-83.is)

pub returns-in-72 : goal.returns-in-72
unfolding at_kind
returns-in-72 c = c.switched-in-72.ensures ∙ rw (letter c.args.command.now c.begins.ensures c.if-not-begins.false c.if-command-lt3.false c.in-72.is)

pub returns-in-82 : goal.returns-in-82
unfolding at_kind
returns-in-82 c =
    c.one_text-in-82.ensures ∙ rw (letter c.args.command.now c.begins.ensures c.if-not-begins.false c.if-command-lt3.false c.in-82.is)

pub returns-in-68 : goal.returns-in-68
unfolding at_kind
returns-in-68 c = c.atd_kind.ensures ∙ rw (letter c.args.command.now c.begins.ensures c.if-not-begins.false c.if-command-lt3.false c.in-68.is)

pub returns-in-65 : goal.returns-in-65
unfolding at_kind
returns-in-65 c =
    c.accepted.ensures ∙ rw (letter c.args.command.now c.begins.ensures c.if-not-begins.false c.if-command-lt3.false c.in-65.is)

pub returns-in-73 : goal.returns-in-73
unfolding at_kind
returns-in-73 c =
    c.one_text-in-73.ensures ∙ rw (letter c.args.command.now c.begins.ensures c.if-not-begins.false c.if-command-lt3.false c.in-73.is)

pub returns-in-64 : goal.returns-in-64
unfolding at_kind
returns-in-64 c =
    c.one_text-in-64.ensures ∙ rw (letter c.args.command.now c.begins.ensures c.if-not-begins.false c.if-command-lt3.false c.in-64.is)

pub returns-in_default : goal.returns-in_default
returns-in_default c = sym (rw (letter c.args.command.now c.begins.ensures c.if-not-begins.false c.if-command-lt3.false refl) (no_letter _ _ c.in_default.in_default-own.rest))
