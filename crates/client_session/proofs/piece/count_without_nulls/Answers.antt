-- `client_session::piece::count_without_nulls` meets its contract.
use mathlib.Core.Path.{◌≡◌, sym, ◌∙◌}
use mathlib.Core.Bool.{not}
use lib.Dec.{eqb}
use borrow.Author.Rules.{rules}
use Rattle.std.specs.List.{count_by}
use Rattle.client_session.proofs.NullLaws.{left-count}
use Rattle.client_session.proofs.piece.count_without_nulls.Goals as goal

pub returns : goal.returns
returns c =
    let e : c.count.result ≡ count_by (λ b. not (eqb b 0)) c.args.piece.now = search rules in
    e ∙ sym (left-count c.args.piece.now)
