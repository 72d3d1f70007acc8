-- Document 01, "The bench run": "3 and 5 come before anything runs; 8, or 6 when a query's part overruns the record buffer, ends the run there, and the answer holds
-- the number and the length of the earlier parts, which stand written." What ends a run, on every script.
use Rattle.std.specs.Prelude.{◌≡◌, Bool, true, false, cond, List, [], ◌∷◌, map, ◌⊎◌, ℕ, suc, ◌-◌, ltb, length, take}
use Rattle.wire.specs.Answer.{Answer, result, refused}
use Rattle.value.specs.Values.{Value, part_format}
use Rattle.reply.specs.Reply.{reply_text}
use Rattle.bench.specs.Script.{Query}
use Rattle.bench.specs.Run.{Run, ended}

-- How far a run goes: how many queries fit the limits, from the first on, and what ends the run there.
pub record Reach : Type 0 where
  pub fit : ℕ
  pub answer : Answer (Unit {0})

-- a number ends it, before a query fits
abbrev pub stopped : ℕ → Reach
stopped n = record { fit = 0; answer = refused n }

-- the reply to a query has over 4,096 bytes, under the settings that the initialisation leaves: no linefeeds, no spaces, headers
abbrev pub too_long : Query → Bool
too_long q = ltb 4096 (length (reply_text false false true q.lines))

-- 8 exactly where a reply is too long, and else 6 exactly where a part overruns the room that is left in the record. The two lists go together: the queries, and the
-- values of each, in any order, since a part is as long in each
abbrev pub reach : ℕ → List Query → List (List Value) → Reach
reach room [] vss = record { fit = 0; answer = result tt }
reach room (q ∷ qs) [] = record { fit = 0; answer = result tt }
reach room (q ∷ qs) (vs ∷ vss) =
    let rest = reach (room - length (part_format.write vs)) qs vss in
    cond (too_long q) (stopped 8)
    (cond (ltb room (length (part_format.write vs))) (stopped 6) (record { fit = suc rest.fit; answer = rest.answer }))

-- What ends the runs of some queries, in record buffers of any size: each query has some values, the same whatever the room, and the parts stand of those that fit.
pub record Limited (qs : List Query) (run : ℕ → Run) : Type 0 where
  pub values : List (List Value)
  pub each : length values ≡ length qs
  pub parts : (room : ℕ) → (run room).parts ≡ map part_format.write (take (reach room qs values).fit values)
  pub answer : (room : ℕ) → (run room).answer ≡ (reach room qs values).answer

-- What ends the runs of a script, by what reading it came to.
abbrev pub Ends : Answer (List Query) → (ℕ → Run) → Type 0
Ends (refused n) run = ((n ≡ 3) ⊎ (n ≡ 5)) × ((room : ℕ) → run room ≡ ended n [])
Ends (result qs) run = Limited qs run
