-- Laws of the code's steps: each does what is said, from a position of the out buffer on.
use mathlib.Core.Path.{◌≡◌, refl, sym, ◌∙◌}
use mathlib.Core.List.{List, [], ◌∷◌, ◌++◌}
use Prim.Native.Nat.{ℕ, ◌+◌, ◌-◌, ◌≤◌, min}
use native.Mathlib.Nat.{sub-zero}
use native.Mathlib.Omega.{arith}
use lib.ListN.{length, length-append, length-take, take}
use lib.Seq.{take_all}
use Rattle.std.specs.Prelude.{Ok, Err}
use Rattle.wire.specs.Answer.{number}
use Rattle.wire.specs.declared.Refusal.{Refusal}
use Rattle.wire.specs.Put.{Put}
use Rattle.wire.proofs.PutLaws.{put_none, put_then, put_whole_lem}
use Rattle.client_state.specs.Settings.{Settings}
use Rattle.server_session.specs.declared.Phase.{Phase}
use Rattle.server_session.specs.declared.Phase.TheVariants.{Reading}
use Rattle.server_session.specs.declared.ServerSession.{ServerSession}
use Rattle.server_session.specs.Session.{Session, session}
use Rattle.server_session.specs.Call.{ServerSaid, server_refusing, server_step, server_lent}
use Rattle.server_session.specs.Bytes.{canonical, with_line, echoed, command_phase, empty_line, line_end, byte_taken, byte_says}
use Rattle.server_session.specs.Steps.{Accepts, Takes, Refuses}
use Rattle.server_session.proofs.ByteLaws.{open_of, line_empty, line_command, after_text, taken_cr, taken_lf, taken_plain, text_short}

-- as many bytes of a line count as it has
pub line_size_lem : (n : ℕ) (line : List ℕ) → length line ≡ 128 → length (take n line) ≡ min n 128
line_size_lem n line k = omega (arith, length-take n line)

-- a text is put, and a step goes on after it
takes_after : {d : ServerSaid} {next : Session} {e out o₁ left : List ℕ} {at a end : ℕ} → Put out at e a o₁ → Takes d o₁ a end next left → Takes (after_text e d) out at end next left
takes_after p q = record { answer = q.answer; taken = q.taken; after = q.after; text = put_then p q.text }

-- The end of a line, whose command was made in place

-- an empty one goes by the settings alone
empty_same : (state : Settings) (l m : List ℕ) (p : Phase) (last : List ℕ) →
    empty_line (record { state = state; line = l; phase = p }) [] last ≡ empty_line (record { state = state; line = m; phase = p }) [] last
empty_same state l m p [] = refl
empty_same state l m p (c ∷ last) = refl

module _ (s : Session) (command : List ℕ) (made : command ≡ canonical s.line) where
  pub end_none : length command ≡ 0 → (line : List ℕ) {out o : List ℕ} {at end : ℕ} {next : Session} →
      Takes (empty_line (record { state = s.state; line = line; phase = s.phase }) [] s.state.last) out at end next o → Takes (line_end s [] (canonical s.line)) out at end next o
  end_none z line p = rw (← made, line_empty s [] command z, empty_same s.state s.line line s.phase s.state.last) p

  pub end_command : (length command ≡ 0 → ⊥) → (out : List ℕ) (at : ℕ) → Takes (line_end s [] (canonical s.line)) out at at (with_line s command (command_phase command)) out
  end_command some out at = rw (← made, line_command s [] command some) (record { answer = refl; taken = refl; after = refl; text = put_none out at })

-- A byte that gets no number, its echo written

module _ (s : Session) (b : ℕ) {out o₁ : List ℕ} {at a : ℕ} (echo : Put out at (echoed s (b ∷ [])) a o₁) where
  pub take_cr : b ≡ 13 → {next : Session} {end : ℕ} {o : List ℕ} → Takes (line_end s [] (canonical s.line)) o₁ a end next o → Takes (byte_taken s b) out at end next o
  take_cr e p = rw (taken_cr s b e) (takes_after echo p)

  pub take_lf : b ≡ 10 → Takes (byte_taken s b) out at a s o₁
  take_lf e = rw (taken_lf s b e) (record { answer = refl; taken = refl; after = refl; text = echo })

  pub take_plain : (b ≡ 13 → ⊥) → (b ≡ 10 → ⊥) → s.phase ≡ Reading → {next : Session} → next ≡ with_line s (s.line ++ (b ∷ [])) s.phase → Takes (byte_taken s b) out at a next o₁
  take_plain p q t e = rw (taken_plain s b p q, e, t) (record { answer = refl; taken = refl; after = refl; text = echo })

-- bytes that fit join the line whole
pub joined : (line text : List ℕ) (n : ℕ) {l : List ℕ} → length line + length text ≤ n → l ≡ take n (line ++ text) → l ≡ line ++ text
joined line text n h e = e ∙ take_all n (line ++ text) (omega (arith, h, length-append line text))

-- a byte that is said to be taken is one that the line accepts
pub accepts : (room : ℕ) (s : Session) (b : ℕ) → byte_says room s b ≡ byte_taken s b → Accepts s b
accepts room s b e = let o = open_of room s b e in record { turn = o.turn; short = o.short }

-- A byte from the front of the buffer on, whose text fits
module _ (s : Session) (b : ℕ) (out : List ℕ) where
  pub takes_lent : (self : ServerSession) {end : ℕ} {o : List ℕ} → Takes (byte_says (length out - 0) s b) out 0 end (session self) o →
      server_step (record { answer = Ok self.phase; taken = 1; written = end; session = self }) o ≡ server_lent (byte_says (length out) s b) out
  takes_lent self {end} {o} q₀ =
      let q : Takes (byte_says (length out) s b) out 0 end (session self) o = rw (← sub-zero (length out)) q₀ in
      let w : end ≡ length (byte_says (length out) s b).text = omega (arith, put_whole_lem q.text (omega (arith, (text_short (length out) s b).1))) in
      λ i. record { answer = sym q.answer i; taken = sym q.taken i; written = w i; next = sym q.after i; out = q.text.bytes i }

  pub refuses_lent : {self self₁ : ServerSession} {q : Refusal} {o : List ℕ} → session self ≡ s → Refuses (byte_says (length out - 0) s b) self out q self₁ o →
      server_step (record { answer = Err q; taken = 0; written = 0; session = self₁ }) o ≡ server_lent (byte_says (length out) s b) out
  refuses_lent {self} {self₁} {q} e r =
      let says : byte_says (length out) s b ≡ server_refusing (session self) (number q) = rw (← sub-zero (length out)) r.says in
      rw (says, r.same, r.kept)
