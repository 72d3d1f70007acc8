-- The examples of numbers, lists, values and scripts hold, by computation.
use mathlib.Core.Path.{refl}
use mathlib.Core.List.{[], ◌∷◌}
use native.Mathlib.Omega.{arith}
use lib.ListN.{replicate}
use Rattle.wire.specs.Answer.{unless}
use Rattle.wire.specs.Put.{put_whole}
use Rattle.group.specs.Group.{group_bytes}
use Rattle.group.specs.Format.{Each}
use Rattle.group.specs.Answers.{group_at}
use Rattle.line_list.specs.Lines.{line, Fits, lines_of_list}
use Rattle.line_list.specs.Answers.{line_at, lines_in, put_line}
use Rattle.value.specs.Values.{value_format, read_record}
use Rattle.value.specs.Answers.{value_at}
use Rattle.pid.specs.J1979.{j1979}
use Rattle.pid.specs.Lengths.{mode01_lengths}
use Rattle.bench.specs.Script.{query, InLimits, query_format, script}
use Rattle.bench.specs.Steps.{query_at, queries_in}
use Rattle.cards.specs.Example.{AsExpected}
use Rattle.cards.specs.Numbers.{numbers}
use Rattle.cards.proofs.ExampleLaws.{◌&◌}

pub numbers_hold : AsExpected numbers
unfolding group_bytes group_at lines_of_list line_at lines_in put_line put_whole value_format read_record value_at j1979 mode01_lengths script unless query_format query_at queries_in
numbers_hold =
    refl & refl & refl & refl & refl & refl & refl & refl & refl & refl &
    refl & refl & refl & refl & refl & refl & refl & refl & refl & refl &
    refl & refl & refl & refl & refl & refl & refl & refl & refl & refl &
    refl & refl & refl & refl & refl & refl & refl & refl & refl & refl &
    refl & refl & tt

-- a query at all limits of a script, and a line past those of a line list
pub at_limits : Each InLimits (query (replicate 6 0x0C) 256 (line 4096 (replicate 255 0) ∷ []) ∷ [])
at_limits = (record { some = omega arith; few = omega arith; counted = omega arith; short = omega arith; fit = (record { known = omega arith; short = omega arith }, tt) }, tt)

pub past_limits : Fits (line 4097 []) → ⊥
past_limits f = absurd (omega (arith, f.known))
