-- `client_command::put_command` meets its contract.
use mathlib.Core.Path.{sym, ◌∙◌}
use Rattle.wire.proofs.PutLaws.{put_then}
use Rattle.client_command.proofs.CommandLaws.{cr_tested}
use Rattle.client_command.proofs.put_command.Goals as goal

pub returns-then-ends_with : goal.returns-then-ends_with
returns-then-ends_with c = rw (sym (cr_tested c.args.command.now) ∙ sym c.ends_with.ensures.value ∙ c.if-ends_with.true) c.put-at.ensures

pub returns : goal.returns
returns c = rw (sym (cr_tested c.args.command.now) ∙ sym c.ends_with.ensures.value ∙ c.if-ends_with.false) (put_then c.put-at.ensures c.put_byte.ensures)
