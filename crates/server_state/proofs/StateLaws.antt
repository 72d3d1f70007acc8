-- A PID's count that is learned.
use mathlib.Core.Path.{◌≡◌, refl}
use Prim.Native.Nat.{ℕ, zero, suc}
use Rattle.server_state.specs.State.{learned}

pub learned_some : (n : ℕ) → (n ≡ 0 → ⊥) → learned n ≡ suc n
learned_some zero ne = absurd (ne refl)
learned_some (suc n) ne = refl
