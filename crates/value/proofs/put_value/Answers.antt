-- `value::put_value` meets its contract: the parts of a value, one after the other.
use Rattle.value.specs.Values.{value_format}
use Rattle.wire.proofs.PutLaws.{put_then}
use Rattle.value.proofs.put_value.Goals as goal

pub returns : goal.returns
unfolding value_format
returns c =
    put_then c.put_byte-at.ensures (put_then (rw c.from.ensures at c.put_group-at.ensures) (put_then c.put_group-at-2.ensures
    (put_then c.put_byte-at-2.ensures (put_then c.put_byte-start.ensures c.put.ensures))))
