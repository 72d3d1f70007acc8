-- Demand 2: every text that the server sends for a command has the datasheet's shape, under the settings in force.
use mathlib.Core.Path.{◌≡◌, refl}
use mathlib.Core.Bool.{false}
use mathlib.Core.List.{List, [], ◌∷◌, ◌++◌, append_assoc, append-nil}
use Prim.Native.Nat.{ℕ, zero, suc, ◌+◌, ◌-◌, ◌≤◌}
use native.Mathlib.Omega.{arith}
use lib.Dec.{eqb}
use lib.ListN.{length, take}
use borrow.Author.Tests.{eqb-true, eqb-false}
use Rattle.wire.specs.Text.{ascii, any}
use Rattle.wire.proofs.Cases.{by_test}
use Rattle.wire.proofs.UnlessLaws.{unless_by}
use Rattle.group.specs.Group.{Read, got, failed, list_of}
use Rattle.group.specs.Format.{Each}
use Rattle.line_list.specs.Lines.{Line, Fits, lines_of_list}
use Rattle.line_list.proofs.LineLaws.{list_got}
use Rattle.at_command.specs.Dialect.{at_kind, kind_settings, kind_lines}
use Rattle.at_command.specs.declared.AtKind.{AtKind}
use Rattle.at_command.specs.declared.AtKind.TheVariants.{Reset, Set, Accepted, Identity, Voltage, Protocol, ProtocolNumber, Unknown}
use Rattle.at_command.specs.declared.IdentityText.TheVariants.{Ati, Device}
use Rattle.reply.specs.Shape.{chip_reply}
use Rattle.server_session.specs.Session.{Session}
use Rattle.server_session.specs.Call.{ServerSaid}
use Rattle.server_session.specs.Replies.{answer_says, reply_says, reject_says}
use Rattle.server_session.specs.Bytes.{canonical, echoed, empty_line, line_end, byte_taken, byte_says, goes_on, bytes_say}
use Rattle.server_session.proofs.ByteLaws.{byte_by, after_text, taken_cr, taken_lf, taken_plain, taken_most, on_taken}
use Rattle.server_session.proofs.BytesLaws.{bytes_on, bytes_stop}
use Rattle.shape.specs.Datasheet.{breaks_line}
use Rattle.shape.specs.Sent.{Sends, Replies, Echoes, silent, back, unclear}
use Rattle.shape.proofs.Lines.{Plain, chip_framed, line_texts, reply-framed, texts_fill}

-- ---- AT commands

kind_plain : (ati device : List ℕ) → any breaks_line ati ≡ false → any breaks_line device ≡ false → (kind : AtKind) → Plain (kind_lines ati device kind)
kind_plain ati device p q Reset = (refl, (refl, (p, tt)))
kind_plain ati device p q (Set setting on) = (refl, tt)
kind_plain ati device p q Accepted = (refl, tt)
kind_plain ati device p q (Identity Ati) = (p, tt)
kind_plain ati device p q (Identity Device) = (q, tt)
kind_plain ati device p q Voltage = (refl, tt)
kind_plain ati device p q Protocol = (refl, tt)
kind_plain ati device p q ProtocolNumber = (refl, tt)
kind_plain ati device p q Unknown = (refl, tt)

-- with identity strings that hold no byte of the frame
pub answer_shaped : (room : ℕ) (s : Session) (ati device : List ℕ) → any breaks_line ati ≡ false → any breaks_line device ≡ false →
    Sends (answer_says room s ati device) (kind_lines ati device (at_kind s.line))
unfolding answer_says
answer_shaped room s ati device p q =
    let kind = at_kind s.line in
    unless_by (λ d. Sends d (kind_lines ati device kind)) _ (λ n. refl) (λ _. chip_framed (kind_settings kind s.state).linefeeds _ (kind_plain ati device p q kind))

-- ---- OBD commands

-- the lines of a list fit their form; a malformed list has none
lines_fit : (list : List ℕ) (g : Read (List Line)) → lines_of_list list ≡ g → Each Fits (list_of g)
lines_fit list (failed n) q = tt
lines_fit list (got ls rest) q = (list_got list ls rest q).fit

pub reply_shaped : (room : ℕ) (s : Session) (list : List ℕ) → Replies s.state (list_of (lines_of_list list)) (reply_says room s list)
unfolding reply_says
reply_shaped room s list =
    let ls = list_of (lines_of_list list) in
    let texts = line_texts s.state.spaces s.state.headers ls in
    let framed = reply-framed s.state.linefeeds s.state.spaces s.state.headers ls in
    record { lines = texts; form = texts_fill s.state ls (lines_fit list (lines_of_list list) refl); sends = unless_by (λ d. Sends d texts) _ (λ n. refl) (λ _. framed) }

-- with a text that holds no byte of the frame
pub reject_shaped : (room : ℕ) (s : Session) (text : List ℕ) → any breaks_line text ≡ false → Sends (reject_says room s text) (text ∷ [])
unfolding reject_says
reject_shaped room s text p = unless_by (λ d. Sends d (text ∷ [])) _ (λ n. refl) (λ _. chip_framed s.state.linefeeds (text ∷ []) (p, tt))

-- ---- bytes received

-- What a byte says keeps the settings, and its text stands before that of the bytes after it.
record Heard (s : Session) (b : ℕ) (d : ServerSaid) : Type 0 where
  kept : d.next.state ≡ s.state
  before : (bs rest : List ℕ) → Echoes s.state bs rest → Echoes s.state (take d.taken (b ∷ []) ++ bs) (d.text ++ rest)

module _ (s : Session) (b : ℕ) where
  empty_heard : b ≡ 13 → (last : List ℕ) → Heard s b (after_text (echoed s (b ∷ [])) (empty_line s [] last))
  empty_heard e [] =
      let text = chip_reply s.state.linefeeds (ascii "?" ∷ []) in
      rw e (record { kept = refl; before = λ bs rest t. rw append_assoc (unclear bs text rest (chip_framed s.state.linefeeds (ascii "?" ∷ []) (refl, tt)) t) })
  empty_heard e (c ∷ last) = record { kept = refl; before = λ bs rest t. rw append-nil (back b bs rest t) }

  end_heard : b ≡ 13 → (command : List ℕ) → Heard s b (after_text (echoed s (b ∷ [])) (line_end s [] command))
  end_heard e [] = empty_heard e s.state.last
  end_heard e (c ∷ cs) = record { kept = refl; before = λ bs rest t. rw append-nil (back b bs rest t) }

  taken_heard : Heard s b (byte_taken s b)
  taken_heard =
      by_test (eqb b 13)
      (λ e. rw (taken_cr s b (eqb-true b 13 e)) (end_heard (eqb-true b 13 e) (canonical s.line)))
      (λ e.
      by_test (eqb b 10)
      (λ f. rw (taken_lf s b (eqb-true b 10 f)) (record { kept = refl; before = back b }))
      (λ f. rw (taken_plain s b (eqb-false b 13 e) (eqb-false b 10 f)) (record { kept = refl; before = back b })))

  heard : (room : ℕ) → Heard s b (byte_says room s b)
  heard room = byte_by (Heard s b) room s b (λ n. record { kept = refl; before = λ bs rest t. t }) (λ o. taken_heard)

-- what a byte has sent, if it is taken
pub byte_shaped : (room : ℕ) (s : Session) (b : ℕ) → Echoes s.state (take (byte_says room s b).taken (b ∷ [])) (byte_says room s b).text
byte_shaped room s b = simp append-nil at ((heard s b room).before [] [] silent)

-- one byte at most is taken, whatever comes after it
take_one : (n : ℕ) → n ≤ 1 → (b : ℕ) (bs : List ℕ) → take n (b ∷ []) ≡ take n (b ∷ bs)
take_one zero h b bs = refl
take_one (suc zero) h b bs = refl
take_one (suc (suc n)) h b bs = absurd (omega arith)

-- what some bytes have sent, as many as are taken
pub bytes_shaped : (room : ℕ) (s : Session) (bs : List ℕ) → Echoes s.state (take (bytes_say room s bs).taken bs) (bytes_say room s bs).text
unfolding bytes_say
bytes_shaped room s [] = silent
bytes_shaped room s (b ∷ bs) =
    let d = byte_says room s b in
    let h = bytes_say (room - length d.text) d.next bs in
    by_test (goes_on d.answer)
    (λ e.
    let after : Echoes s.state (take h.taken bs) h.text = rw (heard s b room).kept at (bytes_shaped (room - length d.text) d.next bs) in
    let more : 1 + h.taken ≡ suc h.taken = omega arith in
    rw (bytes_on room s b bs e, more) (rw (on_taken room s b e) at ((heard s b room).before (take h.taken bs) h.text after)))
    (λ e. rw (bytes_stop room s b bs e) (rw (take_one d.taken (taken_most room s b) b bs) at (byte_shaped room s b)))
