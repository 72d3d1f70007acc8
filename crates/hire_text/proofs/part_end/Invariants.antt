-- `hire_text::part_end` meets its contract. The invariant: the values that are left, read from here, lead to the end of the part.
use Prim.Native.Nat.{◌-◌}
use Rattle.hire_text.proofs.PartLaws.{ValuesLeft}
use Rattle.hire_text.proofs.part_end.Given as goal

abbrev pub invariant-loop : goal.invariant-loop
invariant-loop l = ValuesLeft l.bytes l.cursor.at (l.end - l.counter)
