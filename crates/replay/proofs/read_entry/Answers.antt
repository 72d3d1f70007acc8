-- `replay::read_entry` meets its contract.
use mathlib.Core.Path.{◌≡◌}
use mathlib.Core.List.{◌++◌}
use Prim.Native.Nat.{◌<◌}
use lib.ListN.{length, drop}
use borrow.Author.Rules.{rules}
use Rattle.replay.proofs.EntryLaws.{numbers_read, entry_texts, entry_shorter}
use Rattle.replay.proofs.read_entry.Goals as goal

pub returns-clause-shorter : goal.returns-clause-shorter
returns-clause-shorter c =
    let some : 0 < length c.args.list.now = search rules in
    let numbers = numbers_read c.args.list.now c.in_ok-kind.rest.now c.in_ok-room.rest.now c.in_ok-pieces.rest.now c.in_ok-script.rest.now c.in_ok-stored.rest.now
    (search rules) (search rules) (search rules) (search rules) (search rules) in
    entry_shorter c.args.list.now c.read_text.result.0.now c.read_text-2.result.0.now c.read_text-3.result.0.now c.read_text-3.result.1.now some
    (entry_texts c.args.list.now c.in_ok-stored.rest.now c.read_text.result.0.now c.read_text-2.result.0.now c.read_text-3.result.0.now c.read_text.result.1.now
    c.read_text-2.result.1.now c.read_text-3.result.1.now numbers c.read_text.ensures c.read_text-2.ensures c.read_text-3.ensures)

pub returns-clause-texts : goal.returns-clause-texts
returns-clause-texts c =
    let numbers = numbers_read c.args.list.now c.in_ok-kind.rest.now c.in_ok-room.rest.now c.in_ok-pieces.rest.now c.in_ok-script.rest.now c.in_ok-stored.rest.now
    (search rules) (search rules) (search rules) (search rules) (search rules) in
    entry_texts c.args.list.now c.in_ok-stored.rest.now c.read_text.result.0.now c.read_text-2.result.0.now c.read_text-3.result.0.now c.read_text.result.1.now
    c.read_text-2.result.1.now c.read_text-3.result.1.now numbers c.read_text.ensures c.read_text-2.ensures c.read_text-3.ensures
