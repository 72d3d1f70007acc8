-- `bench::run` meets its contract.
use Rattle.bench.proofs.CheckLaws.{check_queries, check_none}
use Rattle.bench.proofs.RunLaws.{script_refused}
use Rattle.bench.proofs.run.Goals as goal

pub run_checked-requires : goal.run_checked-requires
run_checked-requires c =
    let q = check_queries c.args.script.now (rw c.in-Ok.is at c.check_script.ensures) in
    (q.0, q.1)

pub returns-in-Err : goal.returns-in-Err
returns-in-Err c =
    let refusal = c.in-Err.refusal in
    script_refused c.args.repeat c.args.lengths.now c.args.script.now c.args.buffer.now _ c.refused.result
    (check_none c.args.script.now refusal (rw c.in-Err.is at c.check_script.ensures)) c.refused.ensures
