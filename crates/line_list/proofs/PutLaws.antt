-- Laws of a line that is written: how long it is, and each way out of `put_line`.
use mathlib.Core.Path.{◌≡◌, ◌∙◌}
use mathlib.Core.List.{List}
use Prim.Native.Nat.{ℕ, ◌+◌, ◌-◌, ◌≤◌, ◌<◌}
use native.Mathlib.Omega.{arith}
use lib.ListN.{length, length-append}
use borrow.Author.Tests.{lt-ltb, le-ltb}
use Rattle.wire.specs.Answer.{unless}
use Rattle.wire.specs.declared.Refusal.TheVariants.{Malformed, SmallBuffer}
use Rattle.wire.specs.Put.{Put, count_written, put_whole}
use Rattle.wire.proofs.PutLaws.{whole_small, whole-stored}
use Rattle.group.specs.Group.{group_bytes}
use Rattle.group.proofs.GroupLaws.{group_bytes_some}
use Rattle.line_list.specs.Lines.{Line, line_format}
use Rattle.std.specs.Prelude.{Ok, Err}
use Rattle.line_list.specs.Answers.{put_line}

pub line-length : (l : Line) → length (line_format.write l) ≡ length (group_bytes l.ecu) + length (group_bytes (length l.bytes)) + length l.bytes
line-length l = simp length-append (omega arith)

module _ (out : List ℕ) (at : ℕ) (l : Line) where
  pub put_high : 4096 < l.ecu → count_written (Err Malformed) out ≡ put_line out at l
  unfolding put_line unless
  put_high h = rw (lt-ltb 4096 l.ecu h)

  module _ (known : l.ecu ≤ 4096) where
    pub put_long : 255 < length l.bytes → count_written (Err Malformed) out ≡ put_line out at l
    unfolding put_line unless
    put_long h = rw (le-ltb 4096 l.ecu known, lt-ltb 255 (length l.bytes) h)

    module _ (short : length l.bytes ≤ 255) where
      whole : put_whole out at (line_format.write l) ≡ put_line out at l
      unfolding put_line unless
      whole = rw (le-ltb 4096 l.ecu known, le-ltb 255 (length l.bytes) short)

      pub put_small : length out - at < length (line_format.write l) → count_written (Err SmallBuffer) out ≡ put_line out at l
      put_small h = whole_small out at (line_format.write l) h ∙ whole

      pub put_fits : {r : ℕ} {left : List ℕ} → length (line_format.write l) ≤ length out - at → Put out at (line_format.write l) r left →
          count_written (Ok r) left ≡ put_line out at l
      put_fits k w = whole-stored (omega (arith, line-length l, group_bytes_some l.ecu)) k w ∙ whole
