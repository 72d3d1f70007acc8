-- What ends a run, on every script: 3 or 5 before it, 8 exactly where a reply has over 4,096 bytes, and 6 exactly where a part overruns the record buffer.
use mathlib.Core.Path.{◌≡◌, refl}
use mathlib.Core.Bool.{Bool}
use mathlib.Core.List.{List}
use Prim.Native.Nat.{ℕ}
use Rattle.wire.specs.Answer.{Answer, result, refused}
use Rattle.wire.proofs.All.{Bytes}
use Rattle.bench.specs.Script.{Query, script}
use Rattle.bench.proofs.ScriptLaws.{script-numbers}
use Rattle.bench.specs.Run.{run_says}
use Rattle.agreement.specs.Ends.{Ends}
use Rattle.agreement.proofs.Ran.{run_known, run_refused}

module _ (repeat : Bool) (ks s : List ℕ) (bytes : Bytes s) where
  by_script : (a : Answer (List Query)) → script s ≡ a → Ends a (λ room. run_says repeat ks room s)
  by_script (refused n) e = (script-numbers s n e, λ room. run_refused repeat ks s bytes n room e)
  by_script (result qs) e = (run_known repeat ks s bytes qs e).limited

  -- a script is bytes
  pub run_ends : Ends (script s) (λ room. run_says repeat ks room s)
  run_ends = by_script (script s) refl
