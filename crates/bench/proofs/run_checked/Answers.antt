-- `bench::run_checked` meets its contract.
use Rattle.bench.proofs.RunLaws.{begin_refused, begin_asks}
use Rattle.bench.proofs.run_checked.Goals as goal

pub returns-in-Err : goal.returns-in-Err
returns-in-Err c =
    let a = c.args in
    let i = c.initialise-begun in
    begin_refused a.repeat a.lengths.now a.script.now a.buffer.now c.requires i.result _ i.ensures c.in-Err.error _ c.refused.result c.in-Err.is c.from.ensures c.refused.ensures

pub returns : goal.returns
returns c =
    let a = c.args in
    let i = c.initialise-begun in
    begin_asks a.repeat a.lengths.now a.script.now a.buffer.now c.requires i.result _ i.ensures c.ask_all.result _ c.in_default.is c.ask_all.ensures
