-- Document 02 §2: "A 00 that the finish or the line reader meets is skipped." The lines of a reply, 00 taken out of each, are the lines of the reply without its 00.
use mathlib.Core.Path.{◌≡◌, refl, sym, ap, ◌∙◌}
use mathlib.Core.Bool.{Bool, true, false, cond, not, ◌&&◌}
use mathlib.Core.List.{List, [], ◌∷◌, map, reverse}
use Prim.Native.Nat.{ℕ}
use native.Mathlib.Omega.{arith}
use lib.Dec.{eqb, ltb}
use lib.ListN.{length, get_or, length-reverse, get_or-map}
use borrow.Author.Tests.{ne_eqb, eqb-true, lt-ltb}
use Rattle.wire.specs.Text.{is_space, passing, without_nulls}
use Rattle.wire.proofs.Cases.{by_test}
use Rattle.wire.proofs.PassingLaws.{passing_again, passing-reverse, nulls-has}
use Rattle.hex_text.specs.Read.{pair_bytes}
use Rattle.line_list.specs.Lines.{line}
use Rattle.reply_lines.specs.Lines.{onto, split_cr, trim_start, trim_end, trimmed, stays, text_lines, unspaced}
use Rattle.reply_lines.specs.Decode.{framed_line, text_line, lines_of_reply}
use Rattle.reply_lines.specs.Reader.{line_from, step_text, position_after}
use Rattle.reply_lines.proofs.WalkLaws.{walk_gives}

abbrev not_null : ℕ → Bool
not_null c = not (eqb c 0)

abbrev each_without_nulls : List (List ℕ) → List (List ℕ)
each_without_nulls ls = map without_nulls ls

-- ---- the split at CR

-- there is a first line
abbrev Some : List (List ℕ) → Type 0
Some [] = ⊥
Some (l ∷ ls) = Unit {0}

split_some : (s : List ℕ) → Some (split_cr s)
split_some [] = tt
split_some (c ∷ s) = by_test (eqb c 13) (λ e. rw e tt) (λ e. rw e (onto_some c (split_cr s)))
  where
    onto_some : (c : ℕ) (ls : List (List ℕ)) → Some (onto c ls)
    onto_some c [] = tt
    onto_some c (l ∷ ls) = tt

onto_null : (c : ℕ) (ls : List (List ℕ)) → eqb c 0 ≡ true → Some ls → each_without_nulls (onto c ls) ≡ each_without_nulls ls
onto_null c [] e h = absurd h
onto_null c (l ∷ ls) e h = rw e

onto-other : (c : ℕ) (ls : List (List ℕ)) → eqb c 0 ≡ false → each_without_nulls (onto c ls) ≡ onto c (each_without_nulls ls)
onto-other c [] e = rw e
onto-other c (l ∷ ls) e = rw e

split_nulls : (s : List ℕ) → split_cr (without_nulls s) ≡ each_without_nulls (split_cr s)
split_nulls [] = refl
split_nulls (c ∷ s) =
    by_test (eqb c 0)
    (λ e.
    let z = eqb-true c 0 e in
    rw (e, ne_eqb c 13 (λ q. omega arith)) (split_nulls s ∙ sym (onto_null c (split_cr s) e (split_some s))))
    (λ e.
    by_test (eqb c 13)
    (λ f. rw (e, f) (ap (λ ls. [] ∷ ls) (split_nulls s)))
    (λ f. rw (e, f) (ap (onto c) (split_nulls s) ∙ sym (onto-other c (split_cr s) e))))

-- ---- the trims

start_nulls : (s : List ℕ) → trim_start (without_nulls s) ≡ without_nulls (trim_start s)
start_nulls [] = refl
start_nulls (c ∷ s) =
    by_test (eqb c 0)
    (λ e. rw e (start_nulls s))
    (λ e. by_test (is_space c) (λ f. rw (e, f, e) (start_nulls s)) (λ f. rw (e, f, e)))

trimmed-nulls : (s : List ℕ) → trimmed (without_nulls s) ≡ without_nulls (trimmed s)
trimmed-nulls s =
    let t = trim_start s in
    ap trim_end (start_nulls s)
    ∙ ap (λ (r : List ℕ). reverse (trim_start r)) (sym (passing-reverse not_null t))
    ∙ ap reverse (start_nulls (reverse t))
    ∙ sym (passing-reverse not_null (trim_start (reverse t)))

-- ---- the lines that stay

-- where the trim leaves something, it leaves something else than 00
some_left : (s : List ℕ) → ltb 0 (length (without_nulls (trim_start s))) ≡ ltb 0 (length (trim_start s))
some_left [] = refl
some_left (c ∷ s) =
    by_test (eqb c 0)
    (λ e. rw e (some_left s))
    (λ e.
    by_test (is_space c)
    (λ f. rw (e, f) (some_left s))
    (λ f. rw (e, f, e) (first c (without_nulls s) ∙ sym (first c s))))
  where
    first : (c : ℕ) (s : List ℕ) → ltb 0 (length (c ∷ s)) ≡ true
    first c s = lt-ltb 0 (length (c ∷ s)) (omega arith)

some_trimmed : (s : List ℕ) → ltb 0 (length (without_nulls (trimmed s))) ≡ ltb 0 (length (trimmed s))
some_trimmed s =
    let t = reverse (trim_start s) in
    ap (λ (r : List ℕ). ltb 0 (length r)) (passing-reverse not_null (trim_start t))
    ∙ ap (ltb 0) (length-reverse (without_nulls (trim_start t)))
    ∙ some_left t
    ∙ ap (ltb 0) (sym (length-reverse (trim_start t)))

stays-nulls : (s : List ℕ) → stays (without_nulls (trimmed s)) ≡ stays (trimmed s)
stays-nulls s = let p = nulls-has 62 (λ z. omega arith) (trimmed s) in λ i. some_trimmed s i && not (p i)

staying_nulls : (ls : List (List ℕ)) → passing stays (map trimmed (each_without_nulls ls)) ≡ each_without_nulls (passing stays (map trimmed ls))
staying_nulls [] = refl
staying_nulls (l ∷ ls) =
    let k = ap stays (trimmed-nulls l) ∙ stays-nulls l in
    by_test (stays (trimmed l))
    (λ e. rw (k, e) (λ i. trimmed-nulls l i ∷ staying_nulls ls i))
    (λ e. rw (k, e) (staying_nulls ls))

-- The lines of a reply without its 00 are those of the reply, 00 taken out of each.
pub lines_without_nulls : (reply : List ℕ) → text_lines (without_nulls reply) ≡ map without_nulls (text_lines reply)
unfolding text_lines
lines_without_nulls reply = ap (λ ls. passing stays (map trimmed ls)) (split_nulls reply) ∙ staying_nulls (split_cr reply)

-- So a reader's n-th line, without the 00 inside it, is that of the reply without its 00.
pub walk_without_nulls : (n : ℕ) (reply : List ℕ) →
    without_nulls (step_text reply (line_from reply (position_after n reply 0))) ≡ get_or (text_lines (without_nulls reply)) n []
walk_without_nulls n reply =
    ap without_nulls (walk_gives n reply)
    ∙ sym (get_or-map without_nulls (text_lines reply) n [])
    ∙ ap (λ (ls : List (List ℕ)). get_or ls n []) (sym (lines_without_nulls reply))

-- ---- the lines decoded

pub line_without_nulls : (framing : Bool) (text : List ℕ) → text_line framing (without_nulls text) ≡ text_line framing text
unfolding text_line
line_without_nulls framing text =
    ap (λ (s : List ℕ). cond framing (framed_line (unspaced s)) (line 0 (pair_bytes (unspaced s)))) (passing_again not_null text)

-- Skipping a 00 where it is met reads what there would be without it.
pub reply_without_nulls : (framing : Bool) (reply : List ℕ) → lines_of_reply framing (without_nulls reply) ≡ lines_of_reply framing reply
unfolding lines_of_reply
reply_without_nulls framing reply = ap (map (text_line framing)) (lines_without_nulls reply) ∙ each (text_lines reply)
  where
    each : (ls : List (List ℕ)) → map (text_line framing) (each_without_nulls ls) ≡ map (text_line framing) ls
    each [] = refl
    each (l ∷ ls) = λ i. line_without_nulls framing l i ∷ each ls i
