-- `query_text::of` meets its contract.
use mathlib.Core.Path.{◌≡◌}
use lib.ListN.{length}
use borrow.Author.Rules.{rules}
use Rattle.wire.proofs.PutLaws.{put_front}
use Rattle.query_text.proofs.of.Goals as goal

pub returns : goal.returns
returns c = let n : length c.new-text.result.bytes ≡ 18 = search rules in rw (put_front c.put_query.ensures, n)
