-- `reply_lines::decode_line` meets its contract. The invariant: the characters read, and those left, are those of the text.
use Rattle.std.proofs.Common.{◌≡◌, ◌++◌, length, take}
use Rattle.reply_lines.specs.Lines.{characters}
use Rattle.reply_lines.proofs.decode_line.Given as goal

abbrev pub invariant-loop-i : goal.invariant-loop-i
invariant-loop-i l = record { chars : characters l.text ≡ take l.i l.head ++ characters l.left; five : length l.head ≡ 5; kept : l.«data» ≡ l.fn.«data» }
