-- A server's calls by their kinds.
use mathlib.Core.Path.{◌≡◌}
use mathlib.Core.List.{List}
use Prim.Native.Nat.{ℕ}
use borrow.Author.Tests.{ne_eqb}
use Rattle.server_session.specs.Session.{Session}
use Rattle.driver_log.specs.Log.{Turn, noted}
use Rattle.driver_server.specs.Server.{server_entry, rare_server_call, server_call}

-- a kind that is none of the first ones has its call by the others, and the same for the rarer calls
pub server_rare : (t : Turn Session) (k : ℕ) (arg : List ℕ) → (k ≡ 1 → ⊥) → (k ≡ 2 → ⊥) → (k ≡ 3 → ⊥) → (k ≡ 4 → ⊥) → rare_server_call t k arg ≡ server_call t k arg
server_rare t k arg a b c d = simp (ne_eqb k 1 a, ne_eqb k 2 b, ne_eqb k 3 c, ne_eqb k 4 d)

pub server_state_lem : (t : Turn Session) (k : ℕ) (arg : List ℕ) → (k ≡ 5 → ⊥) → (k ≡ 6 → ⊥) → noted t.session t.at t.out t.log (server_entry t.session) ≡ rare_server_call t k arg
server_state_lem t k arg a b = simp (ne_eqb k 5 a, ne_eqb k 6 b)
