-- `reply::reply_size` meets its contract. The invariant: the size so far, and the lines read from here on, give the answer for the whole list.
use mathlib.Core.Path.{◌≡◌}
use Prim.Native.Nat.{◌+◌, ◌-◌, ◌*◌, ◌≤◌}
use lib.ListN.{drop}
use Rattle.reply.proofs.SizeLaws.{sized}
use Rattle.reply.specs.Steps.{reply_size}
use Rattle.line_list.specs.Lines.{line_format}
use Rattle.group.specs.Format.{read_all}
use Rattle.reply.proofs.reply_size.Given as goal

abbrev pub invariant-loop : goal.invariant-loop
invariant-loop l =
    let style = l.style in
    record {
      short : l.size ≤ 3 + 773 * l.counter;
      sum : sized style.linefeeds style.spaces style.headers l.size (read_all line_format (64 - l.counter) (drop l.cursor.at l.list)) ≡
          reply_size style.linefeeds style.spaces style.headers l.list;
    }
