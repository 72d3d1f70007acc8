-- The line at a position: what the lines of a reply and the next line that stays are, by what stands there.
use mathlib.Core.Path.{◌≡◌, refl, sym, ap, ◌∙◌}
use mathlib.Core.Bool.{true, false, cond}
use mathlib.Core.List.{List, [], ◌∷◌, ◌++◌, reverse, reverse-append, reverse-reverse}
use mathlib.Core.Option.{none, some}
use Prim.Native.Nat.{ℕ, zero, suc, ◌+◌, ◌-◌, ◌≤◌, ◌<◌, min}
use native.Mathlib.Omega.{arith}
use lib.Dec.{eqb, ltb}
use lib.ListN.{length, take, drop, length-take, length-drop, drop_of_length-le, take-append-drop}
use lib.Seq.{take_all, take-nil, take-take, drop-drop, take-append_seam}
use borrow.Author.Tests.{ltb-true, ltb-false}
use Rattle.wire.proofs.Cases.{by_test}
use Rattle.reply_lines.specs.Lines.{split_cr, is_trimmed, trim_start, trim_end, trimmed, stays, text_lines}
use Rattle.reply_lines.specs.Reader.{line_from}
use Rattle.reply_lines.specs.Steps.{to_cr}

-- ---- the first line and the others

cr_short : (s : List ℕ) → to_cr s ≤ length s
unfolding to_cr
cr_short [] = omega arith
cr_short (c ∷ s) = by_test (eqb c 13) (λ e. rw e (omega arith)) (λ e. rw e (omega (arith, cr_short s)))

split_more : (s : List ℕ) → to_cr s < length s → split_cr s ≡ take (to_cr s) s ∷ split_cr (drop (suc (to_cr s)) s)
unfolding to_cr
split_more [] h = absurd (omega arith)
split_more (c ∷ s) h =
    by_test (eqb c 13)
    (λ e. simp e)
    (λ e. let k : suc (to_cr s) < suc (length s) = rw e at h in simp (e, split_more s (omega arith)))

split_last : (s : List ℕ) → length s ≤ to_cr s → split_cr s ≡ s ∷ []
unfolding to_cr
split_last [] h = refl
split_last (c ∷ s) h =
    by_test (eqb c 13)
    (λ e. let k : suc (length s) ≤ 0 = rw e at h in absurd (omega arith))
    (λ e. let k : suc (length s) ≤ suc (to_cr s) = rw e at h in simp (e, split_last s (omega arith)))

-- ---- a trimmed line is a part of the line

drop-take : (k n : ℕ) (s : List ℕ) → drop k (take n s) ≡ take (n - k) (drop k s)
drop-take zero n s = let m : n ≡ n - 0 = omega arith in ap (λ (k : ℕ). take k s) m
drop-take (suc k) zero s = let m : 0 ≡ 0 - suc k = omega arith in ap (λ (n : ℕ). take n (drop (suc k) s)) m
drop-take (suc k) (suc n) [] = sym (take-nil (suc n - suc k))
drop-take (suc k) (suc n) (c ∷ s) = let m : n - k ≡ suc n - suc k = omega arith in drop-take k n s ∙ ap (λ (n : ℕ). take n (drop k s)) m

start_short : (s : List ℕ) → length (trim_start s) ≤ length s
start_short [] = omega arith
start_short (c ∷ s) = by_test (is_trimmed c) (λ e. rw e (omega (arith, start_short s))) (λ e. rw e (omega arith))

start_part : (s : List ℕ) → trim_start s ≡ drop (length s - length (trim_start s)) s
start_part [] = refl
start_part (c ∷ s) =
    by_test (is_trimmed c)
    (λ e.
    let n : suc (length s) - length (trim_start s) ≡ suc (length s - length (trim_start s)) = omega (arith, start_short s) in
    rw e (rw n (start_part s)))
    (λ e. let n : suc (length s) - suc (length s) ≡ 0 = omega arith in rw e (rw n))

end_part : (s : List ℕ) → trim_end s ≡ take (length (trim_end s)) s
end_part s =
    let t = reverse s in
    let k = length t - length (trim_start t) in
    let whole : s ≡ trim_end s ++ reverse (take k t) =
    sym (reverse-reverse s)
    ∙ ap reverse (sym (take-append-drop k t))
    ∙ reverse-append (take k t) (drop k t)
    ∙ ap (λ (l : List ℕ). reverse l ++ reverse (take k t)) (sym (start_part t)) in
    sym (take-append_seam (trim_end s) (reverse (take k t))) ∙ ap (take (length (trim_end s))) (sym whole)

trimmed_short : (s : List ℕ) → length (trimmed s) ≤ length (trim_start s)
trimmed_short s = omega (arith, ap length (end_part (trim_start s)), length-take (length (trimmed s)) (trim_start s))

pub trimmed_fits : (s : List ℕ) → length (trimmed s) ≤ length s
trimmed_fits s = omega (arith, trimmed_short s, start_short s)

-- where a line's text starts
abbrev text_start : ℕ → List ℕ → ℕ
text_start at l = at + (length l - length (trim_start l))

-- a part of a reply, as a slice is
abbrev pub part : List ℕ → ℕ → ℕ → List ℕ
part s start end = take (end - start) (drop start s)

trimmed-part : (reply : List ℕ) (at cr : ℕ) → length (part reply at cr) ≡ cr - at →
    trimmed (part reply at cr) ≡ part reply (text_start at (part reply at cr)) (text_start at (part reply at cr) + length (trimmed (part reply at cr)))
trimmed-part reply at cr h =
    let l = part reply at cr in
    let k = length l - length (trim_start l) in
    let j = length (trimmed l) in
    let n : at + k + j - (at + k) ≡ j = omega arith in
    end_part (trim_start l)
    ∙ ap (take j) (start_part l ∙ drop-take k (cr - at) (drop at reply))
    ∙ take-take j (cr - at - k) (drop k (drop at reply)) (omega (arith, trimmed_short l, start_short l, h))
    ∙ rw (drop-drop k at reply, n)

-- ---- the line from position at to position cr, with the next one from position next on

module _ (reply : List ℕ) (at cr : ℕ) (h : at < length reply) (hc : cr ≡ at + to_cr (drop at reply)) where
  pub cr_inside : cr ≤ length reply
  cr_inside = omega (arith, hc, cr_short (drop at reply), length-drop at reply)

  line-length : length (part reply at cr) ≡ cr - at
  line-length = omega (arith, length-take (cr - at) (drop at reply), length-drop at reply, cr_inside)

  module _ (text : List ℕ) (ht : text ≡ trim_start (part reply at cr)) where
    pub text_fits : length text ≤ cr - at
    text_fits = omega (arith, ap length ht, start_short (part reply at cr), line-length)

  module _ (next : ℕ) (hn : next ≡ min (cr + 1) (length reply)) where
    pub next-after : at < next
    next-after = omega (arith, hn, hc)

    split_here : cr < length reply → split_cr (drop at reply) ≡ part reply at cr ∷ split_cr (drop next reply)
    split_here k =
        let n : to_cr (drop at reply) ≡ cr - at = omega (arith, hc) in
        let m : at + suc (to_cr (drop at reply)) ≡ next = omega (arith, hc, hn) in
        split_more (drop at reply) (omega (arith, hc, length-drop at reply)) ∙ rw (drop-drop (suc (to_cr (drop at reply))) at reply, m, n)

    split_end : length reply ≤ cr → split_cr (drop at reply) ≡ part reply at cr ∷ []
    split_end k =
        split_last (drop at reply) (omega (arith, hc, length-drop at reply))
        ∙ rw (take_all (cr - at) (drop at reply) (omega (arith, length-drop at reply)))

    rest_end : length reply ≤ cr → drop next reply ≡ []
    rest_end k = drop_of_length-le reply {i = next} (omega (arith, hn))

    -- the lines from here on
    text_turn : text_lines (drop at reply) ≡ cond (stays (trimmed (part reply at cr))) (trimmed (part reply at cr) ∷ text_lines (drop next reply)) (text_lines (drop next reply))
    unfolding text_lines
    text_turn =
        by_test (ltb cr (length reply))
        (λ e. rw (split_here (ltb-true cr (length reply) e)))
        (λ e. let k = ltb-false cr (length reply) e in rw (split_end k, rest_end k))

    -- the next line that stays
    from_turn : line_from reply at ≡
        cond (stays (trimmed (part reply at cr)))
        (some (record { start = text_start at (part reply at cr); end = text_start at (part reply at cr) + length (trimmed (part reply at cr)); next = next }))
        (line_from reply next)
    unfolding line_from
    from_turn =
        let m : min (at + length (part reply at cr) + 1) (length reply) ≡ next = omega (arith, line-length, hn, hc) in
        by_test (ltb cr (length reply))
        (λ e. simp (split_here (ltb-true cr (length reply) e), m))
        (λ e. let k = ltb-false cr (length reply) e in simp (split_end k, rest_end k, m))

    -- the same by what the trims hand back
    module _ (text : List ℕ) (ht : text ≡ trim_start (part reply at cr)) (t : List ℕ) (he : t ≡ trim_end text) where
      is_trimmed_lem : t ≡ trimmed (part reply at cr)
      is_trimmed_lem = he ∙ ap trim_end ht

      text_start_lem : text_start at (part reply at cr) ≡ cr - length text
      text_start_lem = omega (arith, ap length ht, text_fits text ht, line-length, hc)

      pub end_fits : cr - length text + length t ≤ cr
      end_fits = omega (arith, ap length ht, ap length is_trimmed_lem, trimmed_short (part reply at cr), text_fits text ht)

      pub text-part : part reply (cr - length text) (cr - length text + length t) ≡ t
      text-part = sym (is_trimmed_lem ∙ rw (← text_start_lem, is_trimmed_lem) (trimmed-part reply at cr line-length))

      pub text-line : stays t ≡ true → text_lines (drop at reply) ≡ t ∷ text_lines (drop next reply)
      text-line e = text_turn ∙ rw (← is_trimmed_lem, e)

      pub text_skip : stays t ≡ false → text_lines (drop at reply) ≡ text_lines (drop next reply)
      text_skip e = text_turn ∙ rw (← is_trimmed_lem, e)

      pub from-line : stays t ≡ true → line_from reply at ≡ some (record { start = cr - length text; end = cr - length text + length t; next = next })
      from-line e = from_turn ∙ rw (← is_trimmed_lem, e, text_start_lem)

      pub from_skip : stays t ≡ false → line_from reply at ≡ line_from reply next
      from_skip e = from_turn ∙ rw (← is_trimmed_lem, e)

-- past the end there is none
pub text_end : (reply : List ℕ) (at : ℕ) → length reply ≤ at → text_lines (drop at reply) ≡ []
unfolding text_lines
text_end reply at h = rw (drop_of_length-le reply h)

pub from_end : (reply : List ℕ) (at : ℕ) → length reply ≤ at → line_from reply at ≡ none
unfolding line_from
from_end reply at h = rw (drop_of_length-le reply h)
