-- A client's calls by their kinds.
use mathlib.Core.Path.{◌≡◌}
use mathlib.Core.List.{List}
use Prim.Native.Nat.{ℕ}
use borrow.Author.Tests.{ne_eqb}
use Rattle.driver_client.specs.Client.{Stored, shown, state_entry, rare_call, client_call}

-- a kind that is none of the first ones has its call by the others, and the same for the rarer calls
pub client_rare : (t : Stored) (k : ℕ) (arg : List ℕ) → (k ≡ 1 → ⊥) → (k ≡ 2 → ⊥) → (k ≡ 3 → ⊥) → (k ≡ 4 → ⊥) → (k ≡ 5 → ⊥) → (k ≡ 11 → ⊥) → rare_call t k arg ≡ client_call t k arg
client_rare t k arg a b c d e f = simp (ne_eqb k 1 a, ne_eqb k 2 b, ne_eqb k 3 c, ne_eqb k 4 d, ne_eqb k 5 e, ne_eqb k 11 f)

pub client_state_lem : (t : Stored) (k : ℕ) (arg : List ℕ) → (k ≡ 6 → ⊥) → (k ≡ 7 → ⊥) → (k ≡ 8 → ⊥) → (k ≡ 9 → ⊥) → (k ≡ 10 → ⊥) →
    shown t (state_entry t.turn.session arg) ≡ rare_call t k arg
client_state_lem t k arg a b c d e = simp (ne_eqb k 6 a, ne_eqb k 7 b, ne_eqb k 8 c, ne_eqb k 9 d, ne_eqb k 10 e)
