-- What a vehicle gave is what the client's walk finds by the table alone in the lines with their ECU known.
use mathlib.Core.Path.{◌≡◌, refl, sym, ap, ◌∙◌}
use mathlib.Core.List.{List, [], ◌∷◌, map}
use mathlib.Core.Option.{Option, none, some}
use Prim.Native.Nat.{ℕ, zero, suc, ◌≤◌, min}
use native.Mathlib.Omega.{arith}
use lib.Dec.{leb}
use lib.ListN.{length, take, drop, drop_of_length-le}
use lib.Seq.{take_all}
use borrow.Author.Tests.{leb-true, leb-false}
use Rattle.wire.proofs.Cases.{by_test}
use Rattle.wire.proofs.All.{Bytes}
use Rattle.wire.proofs.ListLaws.{take_min}
use Rattle.pid.specs.J1979.{j1979}
use Rattle.pid.specs.Lengths.{mode01_lengths}
use Rattle.pid.proofs.TableLaws.{table_right}
use Rattle.line_list.specs.Lines.{Line}
use Rattle.reply.specs.Reply.{ecu_id}
use Rattle.reply_values.specs.Values.{span_of, walked, line_values, values_of}
use Rattle.reply_values.proofs.WalkLaws.{walked-nil, walked-cons}
use Rattle.line_list.proofs.LineLaws.{AllBytes}
use Rattle.agreement.specs.Vehicle.{given_ecu, owed, takes, given_line, given}
use Rattle.agreement.proofs.ReplyBack.{known}

-- cut at the line's end or not, the same bytes are taken and the same are left
take_cut : (n : ℕ) (s : List ℕ) → take (min n (length s)) s ≡ take n s
take_cut n s = sym (take_min n (length s) s) ∙ ap (take n) (take_all (length s) s (omega arith))

take_span : (o : Option ℕ) (s : List ℕ) → take (span_of o (length s)) s ≡ take (owed o (length s)) s
take_span none s = take_cut (length s) s
take_span (some n) s = take_cut n s

drop_cut : (n : ℕ) (s : List ℕ) → drop (min n (length s)) s ≡ drop n s
drop_cut n s =
    by_test (leb n (length s))
    (λ t.
    let h = leb-true n (length s) t in
    let e : min n (length s) ≡ n = omega arith in
    ap (λ k. drop k s) e)
    (λ t.
    let h = leb-false n (length s) t in
    let past : length s ≤ n = omega arith in
    let cut : length s ≤ min n (length s) = omega arith in
    drop_of_length-le s cut ∙ sym (drop_of_length-le s past))

drop_span : (o : Option ℕ) (s : List ℕ) → drop (span_of o (length s)) s ≡ drop (owed o (length s)) s
drop_span none s = drop_cut (length s) s
drop_span (some n) s = drop_cut n s

-- n bytes are still owed: they come first, and then the walk goes on
takes-walk : (e n : ℕ) (s : List ℕ) → Bytes s → takes e n s ≡ record { own = take n s; later = walked mode01_lengths e (drop n s) }
takes-walk e zero [] b = rw (walked-nil mode01_lengths e)
takes-walk e (suc n) [] b = rw (walked-nil mode01_lengths e)
takes-walk e zero (p ∷ s) b =
    rw (
      walked-cons mode01_lengths e p s,
      table_right p b.0,
      take_span (j1979 p) s,
      drop_span (j1979 p) s,
      takes-walk e (owed (j1979 p) (length s)) s b.1,
    )
takes-walk e (suc n) (b₀ ∷ s) b = rw (takes-walk e n s b.1)

ecu_known : (e : ℕ) → given_ecu e ≡ suc (ecu_id e)
ecu_known zero = refl
ecu_known (suc e) = refl

line-given : (e : ℕ) (s : List ℕ) → Bytes s → given_line e s ≡ line_values mode01_lengths e s
line-given e [] b = refl
line-given e (m ∷ s) b = rw (takes-walk e 0 s b.1)

pub given-values : (ls : List Line) → AllBytes ls → given ls ≡ values_of mode01_lengths (map known ls)
given-values [] b = refl
given-values (l ∷ ls) b = rw (ecu_known l.ecu, line-given (suc (ecu_id l.ecu)) l.bytes b.0, given-values ls b.1)
