-- `reply::write_lines` meets its contract. The invariant: the lines that are left, written from here, give the final buffer.
use mathlib.Core.List.{List}
use mathlib.Core.Path.{◌≡◌}
use Prim.Native.Nat.{ℕ, ◌+◌, ◌-◌, min}
use lib.Seq.{sets}
use lib.ListN.{length}
use Rattle.reply.proofs.WriteLaws.{lines_text, Left}
use Rattle.line_list.specs.Lines.{Line, lines_of_list}
use Rattle.group.specs.Group.{got}
use Rattle.reply.proofs.write_lines.Given as goal

abbrev pub invariant-loop-line : goal.invariant-loop-line
invariant-loop-line l =
    let style = l.style in
    record {
      size : length l.out ≡ length l.initial.out;
      others : (ls : List Line) (rest : List ℕ) → lines_of_list l.list ≡ got ls rest →
          Left style.linefeeds style.spaces style.headers l.list l.out l.cursor.at l.at
          (0 + min (length (lines_text style.linefeeds style.spaces style.headers ls)) (length l.initial.out - 0))
          (sets l.initial.out 0 (lines_text style.linefeeds style.spaces style.headers ls));
    }

abbrev pub decreases-loop-line : goal.decreases-loop-line
decreases-loop-line l = length l.list - l.cursor.at
