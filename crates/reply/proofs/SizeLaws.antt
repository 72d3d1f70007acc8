-- Laws of sizes: how long a line and a reply are, and how the walk over a line list adds them up.
use mathlib.Core.Path.{◌≡◌, refl, sym, ap, ◌∙◌}
use mathlib.Core.Bool.{Bool, true, false, cond}
use mathlib.Core.List.{List, [], ◌∷◌, ◌++◌, map}
use Prim.Native.Nat.{ℕ, zero, suc, ◌+◌, ◌-◌, ◌*◌, ◌≤◌, ◌<◌}
use native.Mathlib.Nat.{mul-suc}
use native.Mathlib.Omega.{arith}
use lib.Dec.{eqb}
use borrow.Author.Tests.{eqb-true}
use Rattle.wire.proofs.Cases.{from_no}
use Rattle.line_list.proofs.LineLaws.{line_five}
use lib.ListN.{length, take, drop, length-append, length-drop}
use lib.Seq.{length-take-le}
use Rattle.wire.specs.Answer.{Answer, result, refused}
use Rattle.client_state.specs.Settings.{line_ending}
use Rattle.hex_text.specs.Digits.{hex_byte}
use Rattle.group.specs.Group.{Read, got, failed, and_then}
use Rattle.group.specs.Format.{read_all}
use Rattle.group.proofs.WalkLaws.{left_end, left_thing, left_fails, left_full}
use Rattle.line_list.specs.Lines.{Line, line, line_format, lines_of_list}
use Rattle.line_list.proofs.StepLaws.{LineHere}
use Rattle.reply.specs.Shape.{chip_reply}
use Rattle.reply.specs.Reply.{space_if, further_hex, data_hex, header, line_text, reply_text}
use Rattle.reply.specs.Steps.{header_size, data_size, size_with, reply_size}
use Rattle.reply.proofs.TextLaws.{no_lines}

pub further-length : (spaces : Bool) (s : List ℕ) → length (further_hex spaces s) ≡ (2 + length (space_if spaces)) * length s
further-length spaces [] = omega arith
further-length spaces (b ∷ s) =
    length-append (space_if spaces) (hex_byte b ++ further_hex spaces s) ∙ rw (further-length spaces s, mul-suc) (omega arith)

-- two digits for each byte, and a space after each but the last
pub data_length_lem : (spaces : Bool) (s : List ℕ) → length (data_hex spaces s) ≡ data_size spaces (length s)
data_length_lem spaces [] = omega arith
data_length_lem spaces (b ∷ s) = rw (further-length spaces s, mul-suc) (omega arith)

-- five digits, and a space after the id and after the length
header-length : (spaces headers : Bool) (l : Line) → length (cond headers (header spaces l) []) ≡ header_size spaces headers
header-length spaces true l = omega (arith, length-append (space_if spaces) (hex_byte (length l.bytes) ++ space_if spaces))
header-length spaces false l = refl

-- a line's header, if on, and its data
pub line_parts : (spaces headers : Bool) (l : Line) → length (line_text spaces headers l) ≡ length (cond headers (header spaces l) []) + length (data_hex spaces l.bytes)
unfolding line_text
line_parts spaces headers l = length-append (cond headers (header spaces l) []) (data_hex spaces l.bytes)

-- how long a line of so many bytes is
abbrev pub line_size : Bool → Bool → ℕ → ℕ
line_size spaces headers n = header_size spaces headers + data_size spaces n

pub line-length : (spaces headers : Bool) (l : Line) → length (line_text spaces headers l) ≡ line_size spaces headers (length l.bytes)
line-length spaces headers l = line_parts spaces headers l ∙ rw (header-length spaces headers l, data_length_lem spaces l.bytes)

-- How long it is at most

pub header_short : (spaces headers : Bool) → header_size spaces headers ≤ 7
header_short true true = omega arith
header_short false true = omega arith
header_short spaces false = omega arith

pub no_data_lem : (spaces : Bool) (n : ℕ) → n ≡ 0 → 0 ≡ data_size spaces n
no_data_lem true n h = omega arith
no_data_lem false n h = omega arith

pub data_short : (spaces : Bool) (n : ℕ) → n ≤ 255 → data_size spaces n ≤ 764
data_short true n h = omega arith
data_short false n h = omega arith

pub ending_short : (linefeeds : Bool) → length (line_ending linefeeds) ≤ 2
ending_short true = omega arith
ending_short false = omega arith

-- A whole reply

-- the size of some lines with their endings
abbrev pub lines_size : Bool → Bool → Bool → List Line → ℕ
lines_size linefeeds spaces headers [] = 0
lines_size linefeeds spaces headers (l ∷ ls) = length (line_text spaces headers l) + length (line_ending linefeeds) + lines_size linefeeds spaces headers ls

chip_length : (linefeeds spaces headers : Bool) (ls : List Line) →
    length (chip_reply linefeeds (map (line_text spaces headers) ls)) ≡ length (line_ending linefeeds) + 1 + lines_size linefeeds spaces headers ls
chip_length linefeeds spaces headers [] = length-append (line_ending linefeeds) (62 ∷ []) ∙ omega arith
chip_length linefeeds spaces headers (l ∷ ls) =
    let rest = chip_reply linefeeds (map (line_text spaces headers) ls) in
    omega (
      arith,
      length-append (line_text spaces headers l) (line_ending linefeeds ++ rest),
      length-append (line_ending linefeeds) rest,
      chip_length linefeeds spaces headers ls,
    )

-- after the lines an empty one and the prompt; without lines `NO DATA` and its ending before that
pub some_length : (linefeeds spaces headers : Bool) (l : Line) (ls : List Line) →
    length (reply_text linefeeds spaces headers (l ∷ ls)) ≡ length (line_ending linefeeds) + 1 + lines_size linefeeds spaces headers (l ∷ ls)
unfolding reply_text
some_length linefeeds spaces headers l ls = chip_length linefeeds spaces headers (l ∷ ls)

pub none_length : (linefeeds spaces headers : Bool) → length (reply_text linefeeds spaces headers []) ≡ 7 + length (line_ending linefeeds) + (length (line_ending linefeeds) + 1)
unfolding reply_text
none_length linefeeds spaces headers =
    omega (arith, length-append (line_ending linefeeds) (line_ending linefeeds ++ (62 ∷ [])), length-append (line_ending linefeeds) (62 ∷ []))

-- The walk that adds up the lines

module _ (linefeeds spaces headers : Bool) where
  -- the answer when the lines so far make the size, and the others are read as said
  abbrev pub sized : ℕ → Read (List Line) → Answer ℕ
  sized size (failed j) = refused 5
  sized size (got ls rest) = result (size + lines_size linefeeds spaces headers ls)

  sized-line : (size : ℕ) (l : Line) (g : Read (List Line)) →
      sized size (and_then g (λ ls t. got (l ∷ ls) t)) ≡ sized (size + (length (line_text spaces headers l) + length (line_ending linefeeds))) g
  sized-line size l (failed j) = refl
  sized-line size l (got ls rest) = ap result (omega arith)

  sized_all : (g : Read (List Line)) → ((rest : List ℕ) → g ≡ got [] rest → ⊥) → sized (length (line_ending linefeeds) + 1) g ≡ size_with linefeeds spaces headers g
  sized_all (failed j) h = refl
  sized_all (got [] rest) h = absurd (h rest refl)
  sized_all (got (l ∷ ls) rest) h = ap result (sym (some_length linefeeds spaces headers l ls))

  module _ (s : List ℕ) where
    pub size_none : eqb (length s) 0 ≡ true → result (7 + length (line_ending linefeeds) + (length (line_ending linefeeds) + 1)) ≡ reply_size linefeeds spaces headers s
    unfolding reply_size lines_of_list
    size_none h = rw (left_end line_format 64 s 0 (omega (arith, eqb-true (length s) 0 h))) (ap result (sym (none_length linefeeds spaces headers)))

    pub size_start : (at : ℕ) → eqb (length s) 0 ≡ false → at ≡ 0 → sized (length (line_ending linefeeds) + 1) (read_all line_format (64 - 0) (drop at s)) ≡ reply_size linefeeds spaces headers s
    unfolding reply_size lines_of_list
    size_start at h e = rw e (sized_all (read_all line_format 64 s) (λ rest q. let some = rw (no_lines 64 s rest q) at h in from_no cc))

    -- a line at the cursor, whose size is r
    pub size_short : (at e start next r : ℕ) → LineHere s at e start next → r ≡ line_size spaces headers (next - start) + length (line_ending linefeeds) → r ≤ 773
    size_short at e start next r w q = omega (arith, header_short spaces headers, data_short spaces (next - start) w.short, ending_short linefeeds)

    here_size : (at e start next : ℕ) → LineHere s at e start next → length (line_text spaces headers (line e (take (next - start) (drop start s)))) ≡ line_size spaces headers (next - start)
    here_size at e start next w =
        line-length spaces headers (line e (take (next - start) (drop start s))) ∙
        ap (line_size spaces headers) (length-take-le (next - start) (drop start s) (omega (arith, w.here.inside, length-drop start s)))

    module _ (size n at : ℕ) where
      pub size_line : (e start next r : ℕ) → LineHere s at e start next → r ≡ line_size spaces headers (next - start) + length (line_ending linefeeds) → n < 64 →
          sized size (read_all line_format (64 - n) (drop at s)) ≡ sized (size + r) (read_all line_format (64 - (n + 1)) (drop next s))
      size_line e start next r w q h =
          let one : 64 - n ≡ suc (64 - (n + 1)) = omega arith in
          rw (one, left_thing s at w.here (64 - (n + 1)), q, ← here_size at e start next w)
          (sized-line size (line e (take (next - start) (drop start s))) (read_all line_format (64 - (n + 1)) (drop next s)))

      -- more than a list may have
      pub size_full : 64 ≤ n → at < length s → sized size (read_all line_format (64 - n) (drop at s)) ≡ refused 5
      size_full k h = let none : 64 - n ≡ zero = omega arith in rw (none, left_full line_format s at h)

      pub size_end : length s ≤ at → sized size (read_all line_format (64 - n) (drop at s)) ≡ result size
      size_end h = rw (left_end line_format (64 - n) s at h) (ap result (omega arith))

      pub size_bad : {j : ℕ} → at < length s → line_format.read (drop at s) ≡ failed j → sized size (read_all line_format (64 - n) (drop at s)) ≡ refused j
      size_bad {j} h q = let (k, e) = left_fails line_format (64 - n) s at h q in rw e (ap refused (sym (line_five.five (drop at s) j q)))
