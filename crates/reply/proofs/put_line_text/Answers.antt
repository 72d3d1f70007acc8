-- `reply::put_line_text` meets its contract: its writers follow one another.
use Rattle.std.proofs.lemmas.List.{take_rest}
use Rattle.line_list.specs.Lines.{line}
use Rattle.reply.proofs.TextLaws.{line_none, line_room, line_puts}
use Rattle.reply.proofs.put_line_text.Goals as goal

pub returns-in_default : goal.returns-in_default
returns-in_default c = line_none _ _ (line c.args.ecu c.args.payload.now) c.put_header-start.ensures c.in_default.len_below

pub put_spaced-requires : goal.put_spaced-requires
put_spaced-requires c =
    rw (take_rest c.args.payload.now 1, ← c.if-style.true)
    (line_room _ _ (line c.args.ecu c.args.payload.now) c.put_header-start.ensures c.in-len1-up.len_at_least c.put_hex_byte-next.ensures c.requires)

pub returns-then-style : goal.returns-then-style
returns-then-style c =
    line_puts _ _ (line c.args.ecu c.args.payload.now) c.put_header-start.ensures c.in-len1-up.len_at_least c.put_hex_byte-next.ensures
    (rw c.if-style.true (rw (take_rest c.args.payload.now 1) at c.put_spaced.ensures))

pub put_joined-requires : goal.put_joined-requires
put_joined-requires c =
    rw (take_rest c.args.payload.now 1, ← c.if-style.false)
    (line_room _ _ (line c.args.ecu c.args.payload.now) c.put_header-start.ensures c.in-len1-up.len_at_least c.put_hex_byte-next.ensures c.requires)

pub returns : goal.returns
returns c =
    line_puts _ _ (line c.args.ecu c.args.payload.now) c.put_header-start.ensures c.in-len1-up.len_at_least c.put_hex_byte-next.ensures
    (rw c.if-style.false (rw (take_rest c.args.payload.now 1) at c.put_joined.ensures))
