-- What the private steps of the code do. No public contract cites these.
use Rattle.std.specs.Prelude.{◌≡◌, Bool, false, cond, not, ◌||◌, List, [], ◌++◌, ℕ, ◌+◌, ◌-◌, ◌≤◌, ◌<◌, eqb, leb, length, take, drop, Result, Ok, Err}
use Rattle.std.specs.List.{prefix_len}
use Rattle.wire.specs.Answer.{result, number}
use Rattle.wire.specs.Put.{Put}
use Rattle.wire.specs.Text.{any}
use Rattle.wire.specs.declared.Refusal.{Refusal}
use Rattle.client_state.specs.Settings.{settings}
use Rattle.client_state.specs.declared.ClientState.{ClientState}
use Rattle.server_session.specs.declared.Phase.TheVariants.{Reading}
use Rattle.server_session.specs.declared.Run.{Run}
use Rattle.server_session.specs.declared.ServerSession.{ServerSession}
use Rattle.server_session.specs.declared.ServerStep.{ServerStep}
use Rattle.server_session.specs.Session.{Session, session}
use Rattle.server_session.specs.Call.{ServerSaid, server_refusing}
use Rattle.server_session.specs.Bytes.{with_line, echoed}

-- a byte that does not just join the line: 80 or more, CR or LF
unfoldable pub is_special : ℕ → Bool
is_special b = leb 128 b || (eqb b 13 || eqb b 10)

-- how many bytes stand before the first of those
abbrev pub plain_size : List ℕ → ℕ
plain_size s = prefix_len (λ b. not (is_special b)) s

-- A line is read, and has a place for a byte, unless that is CR or LF.
pub record Accepts (s : Session) (b : ℕ) : Type 0 where
  pub turn : s.phase ≡ Reading
  pub short : (b ≡ 13 → ⊥) → (b ≡ 10 → ⊥) → length s.line < 128

-- A byte is taken as is said, with what it sends written from a position of the out buffer on.
pub record Takes (d : ServerSaid) (out : List ℕ) (at end : ℕ) (next : Session) (out₁ : List ℕ) : Type 0 where
  pub answer : d.answer ≡ result next.phase
  pub taken : d.taken ≡ 1
  pub after : d.next ≡ next
  pub text : Put out at d.text end out₁

-- A byte is refused as is said, and nothing is done.
pub record Refuses (d : ServerSaid) (self : ServerSession) (out : List ℕ) (q : Refusal) (self₁ : ServerSession) (out₁ : List ℕ) : Type 0 where
  pub says : d ≡ server_refusing (session self) (number q)
  pub same : self₁ ≡ self
  pub kept : out₁ ≡ out

abbrev pub ByteDoes : ServerSaid → ServerSession → List ℕ → ℕ → Result ℕ Refusal → ServerSession → List ℕ → Type 0
ByteDoes d self out at (Ok end) self₁ out₁ = Takes d out at end (session self₁) out₁
ByteDoes d self out at (Err q) self₁ out₁ = Refuses d self out q self₁ out₁

-- As many bytes, if they are not special, join the line with no number, and leave room for one more.
pub record RunFits (s : Session) (left free most : ℕ) : Type 0 where
  pub there : most ≤ left
  pub line : length s.line + most ≤ 128
  pub turn : 0 < most → s.phase ≡ Reading
  pub room : 0 < most → cond s.state.echo most 0 + 8 ≤ free

-- A run: so many bytes from a position of the input on join the line, and are sent back where echo is on.
pub record Ran (s : Session) (input : List ℕ) (i : ℕ) (out : List ℕ) (at : ℕ) (r : Run) (s₁ : Session) (out₁ : List ℕ) : Type 0 where
  pub count : ℕ
  pub ends : r.next ≡ i + count
  pub fits : RunFits s (length input - i) (length out - at) count
  pub plain : any is_special (take count (drop i input)) ≡ false
  pub joins : s₁ ≡ with_line s (s.line ++ take count (drop i input)) s.phase
  pub sent : Put out at (echoed s (take count (drop i input))) r.at out₁

-- A step after an answer of so many bytes: with some settings the next line is awaited.
pub record Answered (state : ClientState) (size : ℕ) (r : ServerStep) : Type 0 where
  pub answer : r.answer ≡ Ok Reading
  pub taken : r.taken ≡ 0
  pub written : r.written ≡ size
  pub next : session r.session ≡ record { state = settings state; line = []; phase = Reading }
