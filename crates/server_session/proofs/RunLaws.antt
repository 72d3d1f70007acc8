-- Laws of the loop over several bytes: a run, and the byte after it, leave what is still to be said.
use mathlib.Core.Path.{◌≡◌, refl, sym, ap, ◌∙◌}
use mathlib.Core.Bool.{Bool, true, false, cond, not}
use mathlib.Core.List.{List, [], ◌∷◌, ◌++◌}
use Prim.Native.Nat.{ℕ, suc, ◌+◌, ◌-◌, ◌≤◌, ◌<◌, min}
use native.Mathlib.Nat.{add-zero}
use native.Mathlib.Numerals.{add-one, one-add}
use native.Mathlib.Omega.{arith}
use lib.Dec.{eqb}
use lib.ListN.{length, take, drop, get_or, length-append, length-take, length-drop, take-append-drop, drop_of_length-le}
use lib.Seq.{sets, drop-drop, drop-cons}
use borrow.Author.Tests.{eqb-true, eqb-false}
use Rattle.std.specs.Prelude.{Ok, Err}
use Rattle.std.proofs.lemmas.List.Sums.{prefix_len-le-length}
use Rattle.wire.proofs.ListLaws.{take_min}
use Rattle.wire.specs.Put.{Put}
use Rattle.wire.specs.Text.{any}
use Rattle.wire.specs.Bytes.{held}
use Rattle.wire.specs.declared.Bytes.{Bytes}
use Rattle.wire.specs.declared.Refusal.{Refusal}
use Rattle.wire.proofs.Cases.{by_test}
use Rattle.wire.proofs.PutLaws.{put_then, put_whole_lem, put_length, put_inside}
use Rattle.server_session.specs.declared.ServerSession.{ServerSession}
use Rattle.server_session.specs.declared.Run.{Run}
use Rattle.server_session.specs.Session.{Session, session, is_reading}
use Rattle.server_session.specs.Call.{ServerSaid, ServerServed, server_step}
use Rattle.server_session.specs.Bytes.{with_line, echoed, byte_says, goes_on, bytes_say}
use Rattle.server_session.specs.Steps.{is_special, plain_size, Takes, Refuses, RunFits, Ran}
use Rattle.server_session.proofs.ByteLaws.{text_short}
use Rattle.server_session.proofs.StepLaws.{joined}
use Rattle.server_session.proofs.BytesLaws.{after, bytes_on, bytes_stop, echo_less, bytes_some}

-- A run

-- what stands before the first special byte
pub plain_front : (s : List ℕ) → any is_special (take (plain_size s) s) ≡ false
plain_front [] = refl
plain_front (b ∷ s) = by_test (is_special b) (λ e. rw e) (λ e. rw (e, one-add) (rw e (plain_front s)))

-- a shorter run fits too
pub fits_less : {s : Session} {left free most : ℕ} (n : ℕ) → n ≤ most → RunFits s left free most → RunFits s left free n
fits_less {s} {left} {free} {most} n h f = record {
  there = omega (arith, f.there);
  line = omega (arith, f.line);
  turn = λ some. f.turn (omega arith);
  room = λ some. omega (arith, f.room (omega arith), echo_most s.state.echo n most h);
}
  where
    echo_most : (on : Bool) (m n : ℕ) → m ≤ n → cond on m 0 ≤ cond on n 0
    echo_most true m n h = h
    echo_most false m n h = omega arith

-- the run that stands at the front of what fits
module _ (self : ServerSession) (input : List ℕ) (i : ℕ) (out : List ℕ) (at : ℕ) {m n most free : ℕ} (f : RunFits (session self) (length input - i) free most)
    (e : m ≡ most) (room : free ≡ length out - at) (k : n ≡ plain_size (take m (drop i input))) where
  short : n ≤ most
  short = omega (arith, k, prefix_len-le-length (λ b. not (is_special b)) (take m (drop i input)), length-take m (drop i input))

  one : take n (take m (drop i input)) ≡ take n (drop i input)
  one = let least : min n m ≡ n = omega (arith, short) in take_min n m (drop i input) ∙ ap (λ (g : ℕ). take g (drop i input)) least

  plain : any is_special (take n (drop i input)) ≡ false
  plain = let front = plain_front (take m (drop i input)) in rw (← one) (rw (← k) at front)

  line : {l : List ℕ} → l ≡ take 128 (held self.line ++ take n (take m (drop i input))) → l ≡ held self.line ++ take n (drop i input)
  line p = joined (held self.line) (take n (drop i input)) 128 (omega (arith, f.line, short, length-take n (drop i input))) (rw one at p)

  pub ran_front : (b : Bytes 128) {o : List ℕ} {next : ℕ} → held b ≡ take 128 (held self.line ++ take n (take m (drop i input))) →
      Put out at (cond self.state.echo_enabled (take n (take m (drop i input))) []) next o →
      Ran (session self) input i out at (record { next = i + n; at = next })
      (session (record { state = self.state; line = b; phase = self.phase })) o
  ran_front b p q = record {
    count = n;
    ends = refl;
    fits = rw room at (fits_less n short f);
    plain = plain;
    joins = λ j. with_line (session self) (line p j) self.phase;
    sent = rw one at q;
  }

-- What is served

-- i bytes were taken and at written before
abbrev pub served_from : ℕ → ℕ → ServerSaid → List ℕ → ServerServed
served_from i at h out = record { answer = h.answer; taken = i + h.taken; written = at + length h.text; next = h.next; out = sets out at h.text }

served_after : (i n : ℕ) (h : ServerSaid) {e out o₁ : List ℕ} {at a : ℕ} → Put out at e a o₁ → at + length e ≤ length out → served_from i at (after n e h) out ≡ served_from (i + n) a h o₁
served_after i n h {e} {out} {o₁} {at} {a} p k =
    let w : Put out at (e ++ h.text) _ (sets o₁ a h.text) = put_then p (record { next = refl; bytes = refl }) in
    let t : i + (n + h.taken) ≡ i + n + h.taken = omega arith in
    let l : at + length (e ++ h.text) ≡ a + length h.text = omega (arith, length-append e h.text, put_whole_lem p k) in
    λ j. record { answer = h.answer; taken = t j; written = l j; next = h.next; out = sym w.bytes j }

-- A part of a turn takes the loop from one place to another, and what is served in the end stays the same.
pub record Leads (input : List ℕ) (s : Session) (i at : ℕ) (out : List ℕ) (s₁ : Session) (i₁ at₁ : ℕ) (o : List ℕ) : Type 0 where
  pub there : i₁ ≤ length input
  pub inside : at₁ ≤ length o
  pub same : length o ≡ length out
  pub says : served_from i₁ at₁ (bytes_say (length o - at₁) s₁ (drop i₁ input)) o ≡ served_from i at (bytes_say (length out - at) s (drop i input)) out

-- A turn of the loop: its run

module _ (input : List ℕ) (s : Session) (i at : ℕ) (out : List ℕ) (inside : at ≤ length out) (there : i ≤ length input) {r : Run} {s₁ : Session} {o : List ℕ} (ran : Ran s input i out at r s₁ o) where
  abbrev fits : RunFits s (length input - i) (length out - at) ran.count
  fits = ran.fits

  abbrev text : List ℕ
  text = take ran.count (drop i input)

  text-long : length text ≡ ran.count
  text-long = omega (arith, length-take ran.count (drop i input), length-drop i input, fits.there)

  splits : drop i input ≡ text ++ drop (i + ran.count) input
  splits = rw (← drop-drop ran.count i input) (sym (take-append-drop ran.count (drop i input)))

  echo_length : (on : Bool) → length (cond on text []) ≡ cond on ran.count 0
  echo_length true = text-long
  echo_length false = refl

  echo_room : 0 < length text → length (echoed s text) + 8 ≤ length out - at
  echo_room some = omega (arith, echo_length s.state.echo, fits.room (omega (arith, text-long)))

  echo_fits : length (echoed s text) ≤ length out - at
  echo_fits =
      by_test (eqb (length text) 0)
      (λ e. omega (arith, eqb-true (length text) 0 e, echo_less s.state.echo text))
      (λ e. let some : (length text ≡ 0 → ⊥) = eqb-false (length text) 0 e in omega (arith, echo_room (omega arith)))

  pub run_turn : Leads input s i at out s₁ r.next r.at o
  run_turn =
      let e = echoed s text in
      let w : at + length e ≤ length out = omega (arith, echo_fits) in
      let room : length o - r.at ≡ length out - at - length e = omega (arith, put_whole_lem ran.sent w, put_length ran.sent) in
      let h = bytes_say (length out - at - length e) (with_line s (s.line ++ text) s.phase) (drop (i + ran.count) input) in
      let says : bytes_say (length out - at) s (drop i input) ≡ after ran.count e h =
      ap (bytes_say (length out - at) s) splits ∙
      bytes_some text (drop (i + ran.count) input) s (length out - at) ran.plain (λ some. fits.turn (omega (arith, text-long))) (omega (arith, text-long, fits.line)) echo_room ∙
      ap (λ (n : ℕ). after n e h) text-long in
      record {
        there = omega (arith, ran.ends, fits.there);
        inside = omega (arith, put_inside ran.sent inside, put_length ran.sent);
        same = put_length ran.sent;
        says =
            (λ j. served_from (ran.ends j) r.at (bytes_say (room j) (ran.joins j) (drop (ran.ends j) input)) o) ∙
            sym (served_after i ran.count h ran.sent w) ∙
            ap (λ (x : ServerSaid). served_from i at x out) (sym says);
      }

-- A turn of the loop: the byte after it

module _ (input : List ℕ) (s : Session) (i at : ℕ) (out : List ℕ) (inside : at ≤ length out) (here : i < length input) where
  abbrev said : ServerSaid
  said = byte_says (length out - at) s (get_or input i 0)

  fit : at + length said.text ≤ length out
  fit = omega (arith, (text_short (length out - at) s (get_or input i 0)).1)

  stops : goes_on said.answer ≡ false → bytes_say (length out - at) s (drop i input) ≡ said
  stops e = rw (drop-cons input i 0 here) (bytes_stop (length out - at) s (get_or input i 0) (drop (suc i) input) e)

  module _ {end : ℕ} {o : List ℕ} where
    pub byte_turn : {s₁ : Session} → Takes said out at end s₁ o → is_reading s₁.phase ≡ true → Leads input s i at out s₁ (i + 1) end o
    byte_turn {s₁} takes e =
        let room : length o - end ≡ length out - at - length said.text = omega (arith, put_whole_lem takes.text fit, put_length takes.text) in
        let h = bytes_say (length out - at - length said.text) said.next (drop (i + 1) input) in
        let says : bytes_say (length out - at) s (drop i input) ≡ after 1 said.text h =
        rw (add-one, drop-cons input i 0 here) (bytes_on (length out - at) s (get_or input i 0) (drop (suc i) input) (ap goes_on takes.answer ∙ e)) in
        record {
          there = omega arith;
          inside = omega (arith, put_inside takes.text inside, put_length takes.text);
          same = put_length takes.text;
          says = rw (says, room, ← takes.after) (sym (served_after i 1 h takes.text fit));
        }

    pub byte_stop : (self : ServerSession) → Takes said out at end (session self) o → is_reading self.phase ≡ false →
        server_step (record { answer = Ok self.phase; taken = i + 1; written = end; session = self }) o ≡ served_from i at (bytes_say (length out - at) s (drop i input)) out
    byte_stop self takes e =
        let ends : end ≡ at + length said.text = put_whole_lem takes.text fit in
        rw (stops (ap goes_on takes.answer ∙ e))
        (λ j. record { answer = sym takes.answer j; taken = i + sym takes.taken j; written = ends j; next = sym takes.after j; out = takes.text.bytes j })

  pub byte_refused : {self self₁ : ServerSession} {q : Refusal} {o : List ℕ} → session self ≡ s → Refuses said self out q self₁ o →
      server_step (record { answer = Err q; taken = i; written = at; session = self₁ }) o ≡ served_from i at (bytes_say (length out - at) s (drop i input)) out
  byte_refused {self} {self₁} {q} {o} e r =
      rw (stops (ap (λ (d : ServerSaid). goes_on d.answer) r.says), r.says, r.same, r.kept) (simp add-zero)

-- no byte is left
pub bytes_end : (room : ℕ) (self : ServerSession) (input out : List ℕ) (i at : ℕ) → length input ≤ i →
    server_step (record { answer = Ok self.phase; taken = i; written = at; session = self }) out ≡ served_from i at (bytes_say room (session self) (drop i input)) out
unfolding bytes_say
bytes_end room self input out i at h = rw (drop_of_length-le input h) (simp add-zero)
