-- What does not start with AT is no AT command; an identity string is one of two, whatever holds them.
use mathlib.Core.Path.{◌≡◌, refl}
use mathlib.Core.Bool.{true, false}
use mathlib.Core.List.{List, [], ◌∷◌}
use Prim.Native.Nat.{ℕ}
use lib.Dec.{eqb}
use Rattle.wire.specs.Text.{ascii, begins}
use Rattle.wire.proofs.Cases.{by_test, from_no}
use Rattle.at_command.specs.Dialect.{at_kind, identity_of}
use Rattle.at_command.specs.declared.AtKind.TheVariants.{Unknown}
use Rattle.at_command.specs.declared.IdentityText.{IdentityText}
use Rattle.at_command.specs.declared.IdentityText.TheVariants.{Ati, Device}

pub kind_other : (c : List ℕ) → begins c (ascii "AT") ≡ false → at_kind c ≡ Unknown
unfolding at_kind
kind_other [] h = refl
kind_other (a ∷ []) h = by_test (eqb a 65) (λ e. rw e) (λ e. rw e)
kind_other (a ∷ b ∷ c) h =
    by_test (eqb a 65)
    (λ e. by_test (eqb b 84) (λ f. let r : true ≡ false = rw (e, f) at h in from_no (cc)) (λ f. rw (e, f)))
    (λ e. rw e)

pub identity_of_lem : {A B : Type 0} (f : A → B) (which : IdentityText) (ati device : A) → f (identity_of which ati device) ≡ identity_of which (f ati) (f device)
identity_of_lem f Ati ati device = refl
identity_of_lem f Device ati device = refl
