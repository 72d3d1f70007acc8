-- What the exit of a `?` returns: the refusal of the call, passed on as it is.
use mathlib.Core.Path.{◌≡◌, ◌∙◌, ap}
use Rattle.std.specs.Prelude.{Result, Err}
use Rattle.std.specs.Result.{IsErr, IsErrAnd}
use Rattle.std.proofs.lemmas.Result.{err_from_is_err_and}
use Rattle.wire.specs.declared.Refusal.{Refusal}

pub passed_on : {T : Type 0} {r : Result T Refusal} {e : Refusal} → IsErr r × IsErrAnd r (λ y. y ≡ e) → r ≡ Err e
passed_on {r = r} h = let p = err_from_is_err_and r h.1 in p.1 ∙ ap Err p.2
