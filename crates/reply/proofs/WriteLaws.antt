-- Laws of the walk that writes the lines of a list: what is left to be written, from line to line.
use mathlib.Core.Path.{◌≡◌, refl}
use mathlib.Core.Bool.{Bool}
use mathlib.Core.List.{List, [], map, ◌++◌}
use Prim.Native.Nat.{ℕ, ◌+◌, ◌-◌, ◌≤◌, ◌<◌, min}
use native.Mathlib.Omega.{arith}
use lib.ListN.{length, take, drop, length-append}
use lib.Seq.{sets}
use Rattle.wire.specs.Put.{Put}
use Rattle.wire.proofs.PutLaws.{put_rest, put_same}
use Rattle.client_state.specs.Settings.{line_ending}
use Rattle.group.specs.Group.{got, failed}
use Rattle.group.specs.Format.{read_all}
use Rattle.group.proofs.WalkLaws.{checked_end, checked_thing, checked_none}
use Rattle.line_list.specs.Lines.{Line, line, line_format, lines_of_list}
use Rattle.line_list.proofs.StepLaws.{LineHere}
use Rattle.reply.specs.Shape.{chip_reply}
use Rattle.reply.specs.Reply.{line_text}
use Rattle.reply.specs.Steps.{LinesFit}
use Rattle.reply.proofs.TextLaws.{room_after}

-- what is sent for some lines and nothing else
abbrev pub lines_text : Bool → Bool → Bool → List Line → List ℕ
lines_text linefeeds spaces headers ls = chip_reply linefeeds (map (line_text spaces headers) ls)

module _ (linefeeds spaces headers : Bool) (s : List ℕ) where
  -- The lines that are read from the cursor on, written from at on, give r and left.
  pub record Left (out : List ℕ) (cursor at : ℕ) (r : ℕ) (left : List ℕ) : Type 0 where
    pub most : ℕ
    pub lines : List Line
    pub rest : List ℕ
    pub reads : read_all line_format most (drop cursor s) ≡ got lines rest
    pub room : at + length (lines_text linefeeds spaces headers lines) ≤ length out
    pub puts : Put out at (lines_text linefeeds spaces headers lines) r left

  pub left_start : (out : List ℕ) (cursor : ℕ) → LinesFit linefeeds spaces headers s out → cursor ≡ 0 → (ls : List Line) (rest : List ℕ) → lines_of_list s ≡ got ls rest →
      Left out cursor 0 (0 + min (length (lines_text linefeeds spaces headers ls)) (length out - 0)) (sets out 0 (lines_text linefeeds spaces headers ls))
  unfolding lines_of_list
  left_start out cursor k e ls rest q =
      let reads = k.reads in
      let same : k.lines ≡ ls = cc in
      record { most = 64; lines = ls; rest = rest; reads = rw e q; room = omega (arith, rw same at k.fits); puts = record { next = refl; bytes = refl } }

  module _ {out left : List ℕ} {at r : ℕ} (cursor : ℕ) (k : Left out cursor at r left) where
    -- there is room for the line at the cursor
    pub left_room : (e start next : ℕ) → LineHere s cursor e start next → at + length (line_text spaces headers (line e (take (next - start) (drop start s)))) ≤ length out
    left_room e start next w =
        let (m, ms, _, here, reads) = checked_thing s cursor w.here k.most k.lines k.rest k.reads in
        let text = line_text spaces headers (line e (take (next - start) (drop start s))) in
        omega (arith, rw here at k.room, length-append text (line_ending linefeeds ++ lines_text linefeeds spaces headers ms))

    pub left-next : {o₁ o₂ : List ℕ} {a₁ a₂ : ℕ} (e start next : ℕ) → LineHere s cursor e start next →
        Put out at (line_text spaces headers (line e (take (next - start) (drop start s)))) a₁ o₁ → Put o₁ a₁ (line_ending linefeeds) a₂ o₂ → Left o₂ next a₂ r left
    left-next e start next w p q =
        let (m, ms, _, here, reads) = checked_thing s cursor w.here k.most k.lines k.rest k.reads in
        record {
          most = m;
          lines = ms;
          rest = k.rest;
          reads = reads;
          room = room_after _ (room_after _ (rw here at k.room) p) q;
          puts = put_rest (put_rest (rw here at k.puts) p) q;
        }

    pub left_end : {o₁ : List ℕ} {a₁ : ℕ} → length s ≤ cursor → Put out at (chip_reply linefeeds []) a₁ o₁ → (a₁ ≡ r) × (o₁ ≡ left)
    left_end h p = put_same p (rw (checked_end line_format k.most s cursor k.lines k.rest k.reads h) at k.puts)

    pub left_bad : {j : ℕ} → cursor < length s → line_format.read (drop cursor s) ≡ failed j → ⊥
    left_bad h q = checked_none line_format k.most s cursor k.lines k.rest k.reads h q
