-- What a vehicle gave, as the parts of a record.
use mathlib.Core.Path.{◌≡◌, ap}
use mathlib.Core.List.{List, [], ◌∷◌, ◌++◌, map}
use Prim.Native.Nat.{ℕ, zero, suc, ◌≤◌}
use native.Mathlib.Omega.{arith}
use lib.Dec.{eqb}
use lib.ListN.{length, length-append}
use Rattle.group.specs.Format.{Each}
use Rattle.wire.proofs.Cases.{by_test}
use Rattle.pid.specs.J1979.{j1979}
use Rattle.line_list.specs.Lines.{Line, Fits}
use Rattle.group.specs.Group.{group_bytes}
use Rattle.value.specs.Values.{Value, values_bytes, part_format}
use Rattle.value.proofs.RecordLaws.{ValuesFit}
use Rattle.reply_values.specs.Values.{answer_order}
use Rattle.reply_values.proofs.OrderLaws.{order_count, order_size}
use Rattle.bench.specs.Script.{Query}
use Rattle.agreement.specs.Vehicle.{given_ecu, owed, takes, given_line, given}

-- what a vehicle gave, in the order of an answer
abbrev pub ordered : List Query → List (List Value)
ordered qs = map (λ (q : Query). answer_order (given q.lines)) qs

-- the part of a query
abbrev pub given_part : Query → List ℕ
given_part q = part_format.write (answer_order (given q.lines))

pub part_size : (q : Query) → length (part_format.write (given q.lines)) ≡ length (given_part q)
part_size q =
    let vs = given q.lines in
    omega (
      arith,
      length-append (group_bytes (length vs)) (values_bytes vs),
      length-append (group_bytes (length (answer_order vs))) (values_bytes (answer_order vs)),
      ap (λ n. length (group_bytes n)) (order_count vs),
      order_size vs,
    )

-- ---- what a vehicle gave can be read back from a record

fit_append : (vs ws : List Value) → ValuesFit vs → ValuesFit ws → ValuesFit (vs ++ ws)
fit_append [] ws h i = i
fit_append (v ∷ vs) ws h i = (h.0, fit_append vs ws h.1 i)

takes_fit : (e n : ℕ) (s : List ℕ) → e ≤ 4096 → ValuesFit (takes e n s).later
takes_fit e n [] h = tt
takes_fit e zero (p ∷ s) h = (h, takes_fit e (owed (j1979 p) (length s)) s h)
takes_fit e (suc n) (b ∷ s) h = takes_fit e n s h

line_fits : (e : ℕ) (s : List ℕ) → e ≤ 4096 → ValuesFit (given_line e s)
line_fits e [] h = tt
line_fits e (m ∷ s) h = by_test (eqb m 0x41) (λ t. rw t (takes_fit e 0 s h)) (λ t. rw t tt)

ecu_fits : (e : ℕ) → e ≤ 4096 → given_ecu e ≤ 4096
ecu_fits zero h = omega arith
ecu_fits (suc e) h = h

pub given_fits : (ls : List Line) → Each Fits ls → ValuesFit (given ls)
given_fits [] f = tt
given_fits (l ∷ ls) f =
    fit_append (given_line (given_ecu l.ecu) l.bytes) (given ls) (line_fits (given_ecu l.ecu) l.bytes (ecu_fits l.ecu f.0.known)) (given_fits ls f.1)
