-- What is kept of a query's text.
use mathlib.Core.Path.{◌≡◌}
use mathlib.Core.List.{List}
use Prim.Native.Nat.{ℕ, ◌≤◌}
use lib.ListN.{length, take}
use lib.Seq.{take_all}
use Rattle.query.specs.Query.{text_of_query}
use Rattle.query.proofs.QueryLaws.{query_short}

-- the text of a query of at most six PIDs is kept whole
pub kept_whole : (pids : List ℕ) (count : ℕ) → length pids ≤ 6 → take 18 (text_of_query pids count) ≡ text_of_query pids count
kept_whole pids count h = take_all 18 (text_of_query pids count) (query_short pids count h)
