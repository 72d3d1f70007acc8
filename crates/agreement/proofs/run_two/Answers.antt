-- `agreement::run_two` meets its contract: the contracts of its two calls of `bench::run` are what the theorem asks for.
use native.Mathlib.Omega.{arith}
use Rattle.agreement.proofs.Agreement.{agreement}
use Rattle.agreement.proofs.run_two.Goals as goal

pub returns-clause-agreement : goal.returns-clause-agreement
returns-clause-agreement c =
    agreement _ _
    (record { bytes = λ i h. omega (arith, c.type_inv.script1 i); ran = c.run-one.ensures })
    (record { bytes = λ i h. omega (arith, c.type_inv.script2 i); ran = c.run-two.ensures })
