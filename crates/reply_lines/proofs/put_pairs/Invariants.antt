-- `reply_lines::put_pairs` meets its contract. The invariant: the bytes of the pairs left, stored from here, give the final buffer.
use Rattle.std.proofs.Common.{length, min}
use lib.Seq.{sets}
use Rattle.hex_text.specs.Read.{pair_bytes}
use Rattle.wire.specs.Put.{Put}
use Rattle.reply_lines.specs.Lines.{characters}
use Rattle.reply_lines.proofs.put_pairs.Given as goal

abbrev pub invariant-loop-a : goal.invariant-loop-a
invariant-loop-a l = Put l.out l.len (pair_bytes (characters l.line)) (min (length (pair_bytes (characters l.fn.line))) (length l.initial.out)) (sets l.initial.out 0 (pair_bytes (characters l.fn.line)))

abbrev pub decreases-loop-a : goal.decreases-loop-a
decreases-loop-a l = length l.line
