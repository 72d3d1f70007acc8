-- Laws of the commands' texts.
use mathlib.Core.Path.{◌≡◌, refl, sym, ap, ◌∙◌}
use mathlib.Core.Bool.{Bool, true, false}
use mathlib.Core.List.{List, [], ◌∷◌, map}
use Prim.Native.Nat.{ℕ, zero, suc, ◌+◌, ◌-◌, ◌≤◌}
use native.Mathlib.Omega.{arith}
use lib.Dec.{eqb}
use lib.ListN.{length, get_or, length-append, drop_of_length-le}
use borrow.Author.Tests.{eq-eqb, ne_eqb, eqb-true, eqb-false}
use Rattle.wire.specs.Text.{raised}
use Rattle.wire.proofs.Cases.{by_test, from_no}
use Rattle.wire.proofs.TextLaws.{same_self, same_true}
use Rattle.std.specs.Prelude.{IsTrue, ◌↔◌}
use Rattle.std.specs.Char.{to_ascii_lowercase}
use Rattle.std.specs.List.{ends_with}
use lib.Seq.{drop-cons}
use Rattle.std.proofs.lemmas.Bool.Decides.{nat_tests}
use Rattle.client_command.specs.Commands.{with_cr, is_command, setup_text}

-- a raw command's last byte, by std's test of it
pub cr_tested : (s : List ℕ) → ends_with eqb s (13 ∷ []) ≡ eqb (get_or s (length s - 1) 0) 13
cr_tested [] = refl
cr_tested (b ∷ s) =
    let n : suc (length s) - 1 ≡ length s = omega arith in
    rw (n, drop-cons (b ∷ s) (length s) 0 (omega arith), drop_of_length-le (b ∷ s) {i = suc (length s)} (omega arith))
    (by_test (eqb (get_or (b ∷ s) (length s) 0) 13)
    (λ e. rw (e, eq-eqb 13 (get_or (b ∷ s) (length s) 0) (sym (eqb-true (get_or (b ∷ s) (length s) 0) 13 e))))
    (λ e. rw (e, ne_eqb 13 (get_or (b ∷ s) (length s) 0) (λ q. eqb-false (get_or (b ∷ s) (length s) 0) 13 e (sym q)))))

-- which has at most one byte more
pub cr_length : (s : List ℕ) → length (with_cr s) ≤ length s + 1
cr_length s = by_test (eqb (get_or s (length s - 1) 0) 13) (λ e. rw e (omega arith)) (λ e. rw e (omega (arith, length-append s (13 ∷ []))))

-- std compares by small letters, and so finds a command that is a text of capitals
small_raised : (c : ℕ) → to_ascii_lowercase (raised c) ≡ to_ascii_lowercase c
unfolding raised
small_raised c = grind (arith, nat_tests)

raised_small : (c : ℕ) → raised (to_ascii_lowercase c) ≡ raised c
unfolding raised
raised_small c = grind (arith, nat_tests)

all_small : (s : List ℕ) → map to_ascii_lowercase (map raised s) ≡ map to_ascii_lowercase s
all_small [] = refl
all_small (c ∷ s) = rw (small_raised c, all_small s)

all_raised : (s : List ℕ) → map raised (map to_ascii_lowercase s) ≡ map raised s
all_raised [] = refl
all_raised (c ∷ s) = rw (raised_small c, all_raised s)

pub command_found : (s t : List ℕ) (r : Bool) → map raised t ≡ t → IsTrue r ↔ (map to_ascii_lowercase s ≡ map to_ascii_lowercase t) → is_command s t ≡ r
command_found s t true u e =
    let w : map raised s ≡ t = sym (all_raised s) ∙ ap (map raised) (e.0 refl) ∙ all_raised t ∙ u in
    rw w (same_self t)
command_found s t false u e =
    by_test (is_command s t)
    (λ h.
    let w : map raised s ≡ t = same_true (map raised s) t h in
    let z : false ≡ true = e.1 (sym (all_small s) ∙ ap (map to_ascii_lowercase) w) in
    from_no cc)
    (λ h. h)

-- a command of the initialisation has at most six bytes
pub setup_length : (framing : Bool) (k : ℕ) → length (setup_text framing k) ≤ 6
setup_length framing zero = omega arith
setup_length framing (suc zero) = omega arith
setup_length framing (suc (suc zero)) = omega arith
setup_length framing (suc (suc (suc zero))) = omega arith
setup_length true (suc (suc (suc (suc k)))) = omega arith
setup_length false (suc (suc (suc (suc k)))) = omega arith
