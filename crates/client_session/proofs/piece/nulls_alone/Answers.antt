-- `client_session::piece::nulls_alone` meets its contract.
use mathlib.Core.Path.{◌≡◌, sym}
use mathlib.Core.Bool.{true}
use lib.Dec.{eqb, ltb}
use lib.ListN.{length}
use borrow.Author.Rules.{rules}
use borrow.Author.Tests.{tests, lt-ltb, eqb-false}
use native.Mathlib.Omega.{arith}
use Rattle.std.specs.List.{list_all}
use Rattle.std.proofs.lemmas.Iterator.{YieldsList-from_slice}
use Rattle.std.proofs.lemmas.Iterator.Search.{all_from_yields_List}
use Rattle.client_session.proofs.NullLaws.{none_left}
use Rattle.client_session.proofs.piece.nulls_alone.Goals as goal

pub returns-then-not-is_empty : goal.returns-then-not-is_empty
returns-then-not-is_empty c =
    let p = c.args.piece.now in
    let e : c.all.result ≡ list_all (λ b. eqb b 0) p = all_from_yields_List (λ b. eqb b 0) _ _ c.all.result c.all.ensures.ran (YieldsList-from_slice p cc) (λ x b q k. search (rules, tests)) in
    let some : ltb 0 (length p) ≡ true = lt-ltb 0 (length p) (omega (arith, eqb-false (length p) 0 (sym c.if-not-is_empty.ensures))) in
    rw (some, none_left p) e
