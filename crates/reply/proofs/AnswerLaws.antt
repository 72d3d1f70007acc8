-- Laws of the answers: the reply's text by its lines, what the size tells its caller, and the three answers of a reply.
use mathlib.Core.Path.{◌≡◌, refl, sym, ap, ◌∙◌}
use mathlib.Core.Bool.{Bool, true, false}
use mathlib.Core.List.{List, [], ◌∷◌, map}
use Prim.Native.Nat.{ℕ, ◌≤◌, ◌<◌}
use native.Mathlib.Nat.{sub-zero, zero-add}
use native.Mathlib.Omega.{arith}
use lib.Dec.{eqb, ltb}
use lib.ListN.{length}
use lib.Seq.{sets}
use borrow.Author.Tests.{eqb-true, ltb-false}
use Rattle.wire.specs.declared.Refusal.{Refusal}
use Rattle.wire.specs.declared.Refusal.TheVariants.{SmallBuffer}
use Rattle.std.specs.Prelude.{Ok, Err}
use Rattle.wire.specs.Answer.{result, refused, number, unless}
use Rattle.wire.specs.Put.{Put, Written, count_written, put_whole}
use Rattle.wire.specs.Text.{ascii}
use Rattle.wire.proofs.Cases.{from_no}
use Rattle.wire.proofs.UnlessLaws.{Passed}
use Rattle.wire.proofs.PutLaws.{whole_small, whole-stored}
use Rattle.group.specs.Group.{Read, got, failed, is_malformed, list_of}
use Rattle.line_list.specs.Lines.{Line, lines_of_list, line_format}
use Rattle.group.proofs.WalkLaws.{left_end}
use Rattle.reply.specs.Shape.{chip_reply}
use Rattle.reply.specs.Reply.{line_text, reply_text}
use Rattle.reply.specs.Answers.{replied}
use Rattle.reply.specs.Steps.{size_with, reply_size, LinesFit}
use Rattle.reply.proofs.TextLaws.{no_lines}

of_read : (g : Read (List Line)) → is_malformed g ≡ false → (ls : List Line) × (rest : List ℕ) × (g ≡ got ls rest)
of_read (failed j) e = from_no cc
of_read (got ls rest) e = (ls, rest, refl)

-- What is said of a text that is written at the front of a buffer, or refused, tells which: a refusal is that of every call with these rows.
module _ (out text left : List ℕ) where
  abbrev writing : List (Bool × ℕ) → Written
  writing rows = unless rows (λ n. record { answer = refused n; out = out }) (record { answer = result (length text); out = sets out 0 text })

  pub refused_out : (rows : List (Bool × ℕ)) (r : Refusal) → count_written (Err r) left ≡ writing rows → left ≡ out
  unfolding unless
  refused_out [] r q = from_no (cc (ap (λ (x : Written). x.answer) q))
  refused_out ((true, n) ∷ rows) r q = ap (λ (x : Written). x.out) q
  refused_out ((false, n) ∷ rows) r q = refused_out rows r q

  pub refused_same : {X : Type 0} (rows : List (Bool × ℕ)) (refuse : ℕ → X) (say : X) (r : Refusal) →
      count_written (Err r) left ≡ writing rows → unless rows refuse say ≡ refuse (number r)
  unfolding unless
  refused_same [] refuse say r q = from_no (cc (ap (λ (x : Written). x.answer) q))
  refused_same ((true, n) ∷ rows) refuse say r q = let same : n ≡ number r = cc (ap (λ (x : Written). x.answer) q) in ap refuse same
  refused_same ((false, n) ∷ rows) refuse say r q = refused_same rows refuse say r q

  of_written : (rows : List (Bool × ℕ)) {n : ℕ} → count_written (Ok n) left ≡ writing rows → Passed rows × (n ≡ length text) × (left ≡ sets out 0 text)
  unfolding unless
  of_written [] q = (tt, cc (ap (λ (x : Written). x.answer) q), ap (λ (x : Written). x.out) q)
  of_written ((true, n) ∷ rows) q = from_no (cc (ap (λ (x : Written). x.answer) q))
  of_written ((false, n) ∷ rows) q = let (p, w, o) = of_written rows q in ((refl, p), w, o)

module _ (linefeeds spaces headers : Bool) where
  -- The text by its lines

  pub reply_none : reply_text linefeeds spaces headers [] ≡ chip_reply linefeeds (ascii "NO DATA" ∷ [])
  unfolding reply_text
  reply_none = refl

  pub reply_some : (l : Line) (ls : List Line) → reply_text linefeeds spaces headers (l ∷ ls) ≡ chip_reply linefeeds (map (line_text spaces headers) (l ∷ ls))
  unfolding reply_text
  reply_some l ls = refl

  -- What a definition's answer says of the lines that were read

  of_size : (g : Read (List Line)) (n : ℕ) → size_with linefeeds spaces headers g ≡ result n →
      (ls : List Line) × (rest : List ℕ) × (g ≡ got ls rest) × (length (reply_text linefeeds spaces headers ls) ≡ n)
  of_size (failed j) n q = from_no cc
  of_size (got ls rest) n q = (ls, rest, refl, cc)

  of_refused : (g : Read (List Line)) (n : ℕ) → size_with linefeeds spaces headers g ≡ refused n → (j : ℕ) × (g ≡ failed j) × (n ≡ 5)
  of_refused (failed j) n q = (j, refl, cc)
  of_refused (got ls rest) n q = from_no cc

  module _ (s : List ℕ) where
    -- What the size tells its caller

    size_told : {n : ℕ} → result n ≡ reply_size linefeeds spaces headers s →
        (ls : List Line) × (rest : List ℕ) × (lines_of_list s ≡ got ls rest) × (length (reply_text linefeeds spaces headers ls) ≡ n)
    unfolding reply_size
    size_told {n} q = of_size (lines_of_list s) n (sym q)

    size_refused : (r : Refusal) → refused (number r) ≡ reply_size linefeeds spaces headers s → (j : ℕ) × (lines_of_list s ≡ failed j) × (number r ≡ 5)
    unfolding reply_size
    size_refused r q = of_refused (lines_of_list s) (number r) (sym q)

    -- The text of a list that is empty, and of one that is not

    module _ (ls : List Line) (rest : List ℕ) (q : lines_of_list s ≡ got ls rest) where
      list_none : eqb (length s) 0 ≡ true → reply_text linefeeds spaces headers ls ≡ chip_reply linefeeds (ascii "NO DATA" ∷ [])
      unfolding lines_of_list
      list_none h = let e = left_end line_format 64 s 0 (omega (arith, eqb-true (length s) 0 h)) in let none : ls ≡ [] = cc in rw none reply_none

      list_some : eqb (length s) 0 ≡ false → reply_text linefeeds spaces headers ls ≡ chip_reply linefeeds (map (line_text spaces headers) ls)
      unfolding lines_of_list
      list_some h = some_lines ls (λ e. let some = rw (no_lines 64 s rest (q ∙ rw e)) at h in from_no cc)
        where
          some_lines : (ms : List Line) → (ms ≡ [] → ⊥) → reply_text linefeeds spaces headers ms ≡ chip_reply linefeeds (map (line_text spaces headers) ms)
          some_lines [] n = absurd (n refl)
          some_lines (l ∷ ms) n = reply_some l ms

    -- The answers: 5, 6, and a text that was written

    module _ (out : List ℕ) where
      -- as rows
      pub replied-rows : replied linefeeds spaces headers s out ≡
          writing out (reply_text linefeeds spaces headers (list_of (lines_of_list s))) []
          ((is_malformed (lines_of_list s), 5) ∷ (ltb (length out) (length (reply_text linefeeds spaces headers (list_of (lines_of_list s)))), 6) ∷ [])
      unfolding replied put_whole unless
      replied-rows = rw (sub-zero, zero-add)

      replied_small : (ls : List Line) (rest : List ℕ) → lines_of_list s ≡ got ls rest → length out < length (reply_text linefeeds spaces headers ls) →
          count_written (Err SmallBuffer) out ≡ replied linefeeds spaces headers s out
      unfolding replied unless
      replied_small ls rest q h = rw q (whole_small out 0 (reply_text linefeeds spaces headers ls) (omega arith))

      replied_written : (ls : List Line) (rest : List ℕ) → lines_of_list s ≡ got ls rest → length (reply_text linefeeds spaces headers ls) ≤ length out →
          {left : List ℕ} {r : ℕ} → Put out 0 (reply_text linefeeds spaces headers ls) r left → count_written (Ok r) left ≡ replied linefeeds spaces headers s out
      unfolding replied unless
      replied_written ls rest q h p = rw q (whole-stored (omega arith) (omega arith) p)

      -- what a written reply tells its caller: whose lines' text stands whole at the front of the buffer
      pub written_told : {n : ℕ} {left : List ℕ} → count_written (Ok n) left ≡ replied linefeeds spaces headers s out →
          (ls : List Line) × (rest : List ℕ) × (lines_of_list s ≡ got ls rest) × (length (reply_text linefeeds spaces headers ls) ≤ length out) ×
          Put out 0 (reply_text linefeeds spaces headers ls) n left
      written_told {n} {left} q =
          let ((ok, (fits, _)), size, bytes) = of_written out (reply_text linefeeds spaces headers (list_of (lines_of_list s))) left _ (q ∙ replied-rows) in
          let (ls, rest, g) = of_read (lines_of_list s) ok in
          let text : list_of (lines_of_list s) ≡ ls = ap list_of g in
          let few = rw text at (ltb-false (length out) _ fits) in
          let long = rw text at size in
          (ls, rest, g, few, record { next = omega (arith, few, long); bytes = rw text at bytes })

      -- as the code finds them, from the size
      pub answer_refused : (r : Refusal) → refused (number r) ≡ reply_size linefeeds spaces headers s → count_written (Err r) out ≡ replied linefeeds spaces headers s out
      unfolding replied put_whole unless
      answer_refused r q = let (j, g, n) = size_refused r q in rw (g, n)

      module _ {n : ℕ} (q : result n ≡ reply_size linefeeds spaces headers s) where
        pub answer_small : length out < n → count_written (Err SmallBuffer) out ≡ replied linefeeds spaces headers s out
        answer_small h = let (ls, rest, g, n) = size_told q in replied_small ls rest g (omega arith)

        module _ (h : n ≤ length out) where
          pub answer_none : eqb (length s) 0 ≡ true →
              {left : List ℕ} {a : ℕ} → Put out 0 (chip_reply linefeeds (ascii "NO DATA" ∷ [])) a left → count_written (Ok a) left ≡ replied linefeeds spaces headers s out
          answer_none e p =
              let (ls, rest, g, n) = size_told q in
              replied_written ls rest g (omega arith) (rw (list_none ls rest g e) p)

          pub answer_room : eqb (length s) 0 ≡ false → LinesFit linefeeds spaces headers s out
          answer_room e =
              let (ls, rest, g, n) = size_told q in
              record { lines = ls; rest = rest; reads = g; fits = omega (arith, ap length (list_some ls rest g e)) }

          pub answer_some : eqb (length s) 0 ≡ false →
              {left : List ℕ} {a : ℕ} → ((ls : List Line) (rest : List ℕ) → lines_of_list s ≡ got ls rest → Put out 0 (chip_reply linefeeds (map (line_text spaces headers) ls)) a left) →
              count_written (Ok a) left ≡ replied linefeeds spaces headers s out
          answer_some e p =
              let (ls, rest, g, n) = size_told q in
              replied_written ls rest g (omega arith) (rw (list_some ls rest g e) (p ls rest g))
