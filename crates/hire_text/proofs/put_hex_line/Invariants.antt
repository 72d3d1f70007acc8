-- `hire_text::put_hex_line` meets its contract. The invariant: the bytes that are left, written from here, give the final buffer.
use mathlib.Core.Path.{◌≡◌}
use Prim.Native.Nat.{◌+◌, ◌-◌, min}
use lib.Seq.{sets}
use lib.ListN.{length, drop}
use Rattle.wire.specs.Put.{Put}
use Rattle.hire_text.specs.Hire.{hex_line}
use Rattle.hire_text.proofs.put_hex_line.Given as goal

abbrev pub invariant-loop-i : goal.invariant-loop-i
invariant-loop-i l = let text = hex_line l.bytes in
    (length l.out ≡ length l.initial.out) × Put l.out l.at (hex_line (drop l.i l.bytes)) (l.at-2 + min (length text) (length l.initial.out - l.at-2)) (sets l.initial.out l.at-2 text)
