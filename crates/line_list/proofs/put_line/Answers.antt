-- `line_list::put_line` meets its contract: each way out by its law, and its writers follow one another.
use native.Mathlib.Omega.{arith}
use Rattle.wire.proofs.PutLaws.{put_then}
use Rattle.line_list.specs.Lines.{Line, line}
use Rattle.line_list.proofs.PutLaws.{line-length, put_small, put_fits}
use Rattle.line_list.proofs.put_line.Goals as goal

pub returns-then-saturating_sub-size : goal.returns-then-saturating_sub-size
returns-then-saturating_sub-size c =
    let it : Line = line c.args.ecu c.args.bytes.now in
    let first = rw c.from-ecu.ensures at c.group_size.ensures in
    put_small _ _ it (omega arith) (omega arith) (omega (arith, line-length it, c.saturating_sub.ensures, c.group_size-2.ensures))

pub returns : goal.returns
returns c =
    let it : Line = line c.args.ecu c.args.bytes.now in
    let first = rw c.from-ecu.ensures at c.group_size.ensures in
    put_fits _ _ it (omega arith) (omega arith)
    (omega (arith, line-length it, c.saturating_sub.ensures, c.group_size-2.ensures))
    (put_then (rw c.from-ecu.ensures at c.put_group-size_at.ensures) (put_then c.put_group-start.ensures c.put.ensures))
