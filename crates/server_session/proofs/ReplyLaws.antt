-- Laws of the answers to a handed-out command: what was written and the session that waits again are what is said.
use mathlib.Core.Path.{◌≡◌, sym, ap, ◌∙◌}
use mathlib.Core.Bool.{Bool, true, false, cond}
use mathlib.Core.List.{List, [], ◌∷◌}
use Prim.Native.Nat.{ℕ, ◌+◌, ◌≤◌}
use native.Mathlib.Omega.{arith}
use lib.Dec.{ltb}
use lib.ListN.{length, length-append}
use borrow.Author.Tests.{le-ltb, ltb-false}
use Rattle.wire.specs.Answer.{unless}
use Rattle.wire.specs.declared.Refusal.{Refusal}
use Rattle.std.specs.Prelude.{Ok, Err}
use Rattle.wire.proofs.UnlessLaws.{unless_by}
use Rattle.wire.proofs.Cases.{or_none_lem}
use Rattle.group.specs.Group.{is_malformed, list_of}
use Rattle.line_list.specs.Lines.{lines_of_list}
use Rattle.wire.specs.Put.{Put, count_written}
use Rattle.wire.specs.Text.{ascii}
use Rattle.wire.proofs.PutLaws.{put_whole_lem}
use Rattle.client_state.specs.Settings.{settings, with_last}
use Rattle.client_state.specs.declared.ClientState.{ClientState}
use Rattle.at_command.specs.Dialect.{at_kind, kind_settings, kind_lines}
use Rattle.at_command.specs.declared.AtKind.{AtKind}
use Rattle.at_command.specs.declared.AtKind.TheVariants.{Reset, Set, Accepted, Identity, Voltage, Protocol, ProtocolNumber, Unknown}
use Rattle.at_command.specs.declared.IdentityText.TheVariants.{Ati, Device}
use Rattle.reply.specs.Shape.{chip_reply}
use Rattle.reply.specs.Reply.{reply_text}
use Rattle.reply.specs.Answers as R
use Rattle.reply.proofs.AnswerLaws.{refused_out, refused_same, replied-rows, written_told}
use Rattle.server_session.specs.declared.ServerSession.{ServerSession}
use Rattle.server_session.specs.declared.ServerStep.{ServerStep}
use Rattle.server_session.specs.Session.{Session, session}
use Rattle.server_session.specs.Call.{ServerSaid, server_refusing, ServerServed, server_answer, server_step, server_lent}
use Rattle.server_session.specs.Steps.{Answered}
use Rattle.server_session.specs.Replies.{line_awaited, at_answered, answer_says, is_obd, obd_replied, reply_says, reject_says}

-- the step that is refused
abbrev pub refused_step : ServerSession → Refusal → ServerStep
refused_step self r = record { answer = Err r; taken = 0; written = 0; session = self }

-- a text that fits is sent whole
pub sent : (state : ClientState) (text : List ℕ) {out left : List ℕ} {w : ℕ} {r : ServerStep} → Answered state w r → Put out 0 text w left → length text ≤ length out →
    server_step r left ≡ server_lent (line_awaited (settings state) text) out
sent state text {out} {left} {w} {r} a p h =
    let all : r.written ≡ length text = omega (arith, a.written, put_whole_lem p (omega arith)) in
    λ i. record { answer = server_answer (a.answer i); taken = a.taken i; written = all i; next = a.next i; out = p.bytes i }

-- how long a reply of one line is
pub one_line : (linefeeds : Bool) (t : List ℕ) → length (chip_reply linefeeds (t ∷ [])) ≤ length t + 5
one_line true t = simp length-append (omega arith)
one_line false t = simp length-append (omega arith)

-- an AT answer has at most 48 bytes
reset_short : (linefeeds : Bool) (t : List ℕ) → length (chip_reply linefeeds ([] ∷ [] ∷ t ∷ [])) ≤ length t + 9
reset_short true t = simp length-append (omega arith)
reset_short false t = simp length-append (omega arith)

pub at_short : (linefeeds : Bool) (ati device : List ℕ) (kind : AtKind) → length ati ≤ 32 → length device ≤ 32 →
    length (chip_reply linefeeds (kind_lines ati device kind)) ≤ 48
at_short lf ati device Reset h i = omega (arith, reset_short lf ati)
at_short lf ati device (Set setting on) h i = omega (arith, one_line lf (ascii "OK"))
at_short lf ati device Voltage h i = omega (arith, one_line lf (ascii "12.6V"))
at_short lf ati device Protocol h i = omega (arith, one_line lf (ascii "AUTO, ISO 15765-4 (CAN 11/500)"))
at_short lf ati device ProtocolNumber h i = omega (arith, one_line lf (ascii "A6"))
at_short lf ati device Accepted h i = omega (arith, one_line lf (ascii "OK"))
at_short lf ati device (Identity Ati) h i = omega (arith, one_line lf ati)
at_short lf ati device (Identity Device) h i = omega (arith, one_line lf device)
at_short lf ati device Unknown h i = omega (arith, one_line lf (ascii "?"))

-- an AT command is handled and its answer, which fits, written
module _ (self : ServerSession) (ati device : List ℕ) (state : ClientState) (kind : AtKind)
    (s : settings state ≡ kind_settings (at_kind (session self).line) (settings self.state)) (k : kind ≡ at_kind (session self).line) where
  pub at_sent : {out left : List ℕ} {w : ℕ} {r : ServerStep} → Answered state w r → length (at_answered (session self) ati device).text ≤ length out →
      Put out 0 (chip_reply (settings state).linefeeds (kind_lines ati device kind)) w left →
      server_step r left ≡ server_lent (at_answered (session self) ati device) out
  at_sent {out} {left} {w} a fits p =
      let same : line_awaited (settings state) (chip_reply (settings state).linefeeds (kind_lines ati device kind)) ≡ at_answered (session self) ati device =
      λ t. line_awaited (s t) (chip_reply (s t).linefeeds (kind_lines ati device (k t))) in
      let long = ap (λ (d : ServerSaid). length d.text) same in
      sent state (chip_reply (settings state).linefeeds (kind_lines ati device kind)) a p (omega arith) ∙ ap (λ d. server_lent d out) same

-- how long a reply of one line is, exactly
pub one_size : (linefeeds : Bool) (t : List ℕ) → length (chip_reply linefeeds (t ∷ [])) ≡ length t + cond linefeeds 5 3
one_size true t = simp length-append (omega arith)
one_size false t = simp length-append (omega arith)

-- a reply to a line list, by what `write_reply` answered
module _ (self : ServerSession) (list : List ℕ) (out left : List ℕ) (turn : is_obd self.phase ≡ true) where
  abbrev s : Session
  s = session self

  abbrev lf : Bool
  lf = s.state.linefeeds

  abbrev sp : Bool
  sp = s.state.spaces

  abbrev hd : Bool
  hd = s.state.headers

  pub reply_refused : (r : Refusal) → count_written (Err r) left ≡ R.replied lf sp hd list out →
      server_step (refused_step self r) left ≡ server_lent (reply_says (length out) s list) out
  unfolding reply_says unless
  reply_refused r q =
      let text = reply_text lf sp hd (list_of (lines_of_list list)) in
      let rows : List (Bool × ℕ) = (is_malformed (lines_of_list list), 5) ∷ (ltb (length out) (length text), 6) ∷ [] in
      let q₁ = q ∙ replied-rows lf sp hd list out in
      let says = refused_same out text left rows (server_refusing s) (obd_replied s (list_of (lines_of_list list))) r q₁ in
      let kept = refused_out out text left rows r q₁ in
      rw (turn, says, kept)

  pub reply-sent : (n : ℕ) (state : ClientState) {r : ServerStep} → Answered state n r → count_written (Ok n) left ≡ R.replied lf sp hd list out →
      settings state ≡ with_last s.state s.line →
      server_step r left ≡ server_lent (reply_says (length out) s list) out
  unfolding reply_says unless
  reply-sent n state a q k =
      let (ls, rest, g, fits, p) = written_told lf sp hd list out q in
      let text = reply_text lf sp hd ls in
      let e : reply_says (length out) s list ≡ obd_replied s ls = rw (turn, g, le-ltb (length out) (length text) fits) in
      sent state text a p fits ∙ ap (λ x. server_lent (line_awaited x text) out) k ∙ ap (λ d. server_lent d out) (sym e)

-- What the contracts give a caller: the bytes to send stand inside the lent buffer.
within : (d : ServerSaid) (out left : List ℕ) (r : ServerStep) → length d.text ≤ length out → server_step r left ≡ server_lent d out → r.written ≤ length out
within d out left r h e =
    let w : r.written ≡ length d.text = ap (λ (x : ServerServed). x.written) e in
    omega arith

pub answer_fits : (room : ℕ) (s : Session) (ati device : List ℕ) → length (answer_says room s ati device).text ≤ room
unfolding answer_says
answer_fits room s ati device =
    unless_by (λ (d : ServerSaid). length d.text ≤ room) _ (λ n. omega arith)
    (λ (_, (t, (_, (f, _)))).
    let k = or_none_lem (ltb 32 (length ati)) (ltb 32 (length device)) t in
    let kind = at_kind s.line in
    let h = at_short (kind_settings kind s.state).linefeeds ati device kind (ltb-false 32 (length ati) k.0) (ltb-false 32 (length device) k.1) in
    let free = ltb-false room 48 f in
    omega arith)

pub answer_written : (s : Session) (ati device out left : List ℕ) (r : ServerStep) → server_step r left ≡ server_lent (answer_says (length out) s ati device) out → r.written ≤ length out
answer_written s ati device out left r e = within (answer_says (length out) s ati device) out left r (answer_fits (length out) s ati device) e

pub reply_fits : (room : ℕ) (s : Session) (list : List ℕ) → length (reply_says room s list).text ≤ room
unfolding reply_says
reply_fits room s list = unless_by (λ (d : ServerSaid). length d.text ≤ room) _ (λ n. omega arith) (λ (_, (_, (f, _))). ltb-false room _ f)

pub reply_written : (s : Session) (list out left : List ℕ) (r : ServerStep) → server_step r left ≡ server_lent (reply_says (length out) s list) out → r.written ≤ length out
reply_written s list out left r e = within (reply_says (length out) s list) out left r (reply_fits (length out) s list) e

pub reject_fits : (room : ℕ) (s : Session) (text : List ℕ) → length (reject_says room s text).text ≤ room
unfolding reject_says
reject_fits room s text = unless_by (λ (d : ServerSaid). length d.text ≤ room) _ (λ n. omega arith) (λ (_, (_, (_, (f, _)))). ltb-false room _ f)
