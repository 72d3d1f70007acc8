-- `serve::vehicle::give` meets its contract.
use mathlib.Core.Path.{sym, ◌∙◌}
use native.Mathlib.Numerals.{unary_clauses}
use Rattle.wire.proofs.PutLaws.{put_none, put_then}
use Rattle.serve.proofs.vehicle.give.Goals as goal

pub returns : goal.returns
returns c =
    rw (sym c.asks_for.ensures ∙ c.if-not-asks_for.false)
    (put_then
    (put_then c.put_group-at.ensures
    (put_then (simp unary_clauses at c.put_group-at-2.ensures) (put_then c.put_byte-at.ensures (put_then c.put_byte-at-2.ensures c.put.ensures))))
    (put_none _ _))
