-- Laws of the program: it deals with a byte at least in each turn, whatever the reader sends, and what it sends for a command.
use mathlib.Core.Path.{◌≡◌, refl, ap}
use mathlib.Core.Bool.{◌&&◌, not}
use mathlib.Core.List.{List, [], ◌∷◌}
use Prim.Native.Nat.{ℕ, ◌+◌, ◌-◌, ◌≤◌, ◌<◌}
use native.Mathlib.Omega.{arith}
use lib.Dec.{eqb, leb}
use lib.ListN.{length}
use borrow.Author.Tests.{eqb-true, eqb-false, le-ltb}
use Rattle.wire.specs.Answer.{Answer, result, refused, unless}
use Rattle.wire.specs.Text.{ascii}
use Rattle.wire.proofs.Cases.{by_test}
use Rattle.line_list.specs.Lines.{lines_bytes}
use Rattle.server_session.specs.declared.Phase.{Phase}
use Rattle.server_session.specs.declared.Phase.TheVariants.{Reading, AtCommand, ObdCommand}
use Rattle.server_session.specs.declared.ServerStep.{ServerStep}
use Rattle.server_session.specs.Session.{Session, is_reading}
use Rattle.server_session.specs.Call.{ServerSaid, ServerServed, server_answer, server_step, server_lent}
use Rattle.server_session.specs.Bytes.{canonical, byte_taken, byte_says, goes_on, bytes_say}
use Rattle.server_session.proofs.ByteLaws.{byte_by, taken_cr, taken_lf, taken_plain, end_result}
use Rattle.server_session.proofs.BytesLaws.{bytes_on, bytes_stop}
use Rattle.server_session.proofs.ReplyLaws.{answer_fits, reply_fits}
use Rattle.serve.specs.Vehicle.{vehicle}
use Rattle.serve.specs.Serve.{dealt_with, served_in, serve_says}

-- what comes after a byte that is taken
dealt_after : (a : Answer Phase) (n : ℕ) → dealt_with a (1 + n) ≡ 1 + dealt_with a n
dealt_after (result p) n = refl
dealt_after (refused k) n = by_test (eqb k 6) (λ e. rw e) (λ e. rw e (omega arith))

-- the bytes dealt with of what is said
abbrev dealt_of : ServerSaid → ℕ
dealt_of d = dealt_with d.answer d.taken

taken_dealt : (s : Session) (b : ℕ) → dealt_of (byte_taken s b) ≡ 1
taken_dealt s b =
    by_test (eqb b 13)
    (λ e. let (p, a, t) = end_result s [] (canonical s.line) in rw (taken_cr s b (eqb-true b 13 e), a, t))
    (λ e. by_test (eqb b 10) (λ f. rw (taken_lf s b (eqb-true b 10 f))) (λ f. rw (taken_plain s b (eqb-false b 13 e) (eqb-false b 10 f))))

-- one byte, where there is room
byte_some : (room : ℕ) (s : Session) (b : ℕ) → 8 ≤ room → 1 ≤ dealt_of (byte_says room s b)
unfolding byte_says unless
byte_some room s b h =
    rw (le-ltb room 8 h) (
    by_test (not (is_reading s.phase)) (λ e. rw e (omega arith)) (λ e.
    by_test (leb 128 b) (λ f. rw (e, f) (omega arith)) (λ f.
    by_test (leb 128 (length s.line) && (not (eqb b 13) && not (eqb b 10)))
    (λ g. rw (e, f, g) (omega arith))
    (λ g. rw (e, f, g) (omega (arith, taken_dealt s b))))))

-- a byte is dealt with at most once
byte_most : (room : ℕ) (s : Session) (b : ℕ) → dealt_of (byte_says room s b) ≤ 1
byte_most room s b =
    byte_by (λ (d : ServerSaid). dealt_of d ≤ 1) room s b
    (λ n. by_test (eqb n 6) (λ e. rw e (omega arith)) (λ e. rw e (omega arith)))
    (λ o. omega (arith, taken_dealt s b))

bytes_most : (bs : List ℕ) (room : ℕ) (s : Session) → dealt_of (bytes_say room s bs) ≤ length bs
unfolding bytes_say
bytes_most [] room s = omega arith
bytes_most (b ∷ bs) room s =
    let d = byte_says room s b in
    by_test (goes_on d.answer)
    (λ e.
    let h = bytes_say (room - length d.text) d.next bs in
    rw (bytes_on room s b bs e) (omega (arith, dealt_after h.answer h.taken, bytes_most bs (room - length d.text) d.next)))
    (λ e. rw (bytes_stop room s b bs e) (omega (arith, byte_most room s b)))

-- bytes that are there: one at least is dealt with
bytes_some_dealt : (bs : List ℕ) (room : ℕ) (s : Session) → 8 ≤ room → 0 < length bs → 0 < dealt_of (bytes_say room s bs)
bytes_some_dealt [] room s f h = absurd (omega arith)
bytes_some_dealt (b ∷ bs) room s f h =
    let d = byte_says room s b in
    by_test (goes_on d.answer)
    (λ e.
    let k = bytes_say (room - length d.text) d.next bs in
    rw (bytes_on room s b bs e) (omega (arith, dealt_after k.answer k.taken)))
    (λ e. rw (bytes_stop room s b bs e) (omega (arith, byte_some room s b f)))

-- what `hear` learns of what its session said to the bytes: it deals with one at least, and with no more than there are
pub hear_dealt : (s : Session) (input out left : List ℕ) (r : ServerStep) → 8 ≤ length out → 0 < length input → server_step r left ≡ server_lent (bytes_say (length out) s input) out →
    (0 < dealt_with (server_answer r.answer) r.taken) × (dealt_with (server_answer r.answer) r.taken ≤ length input)
hear_dealt s input out left r f h e =
    let d : dealt_with (server_answer r.answer) r.taken ≡ dealt_of (bytes_say (length out) s input) = ap (λ (x : ServerServed). dealt_with x.answer x.taken) e in
    rw d (bytes_some_dealt input (length out) s f h, bytes_most input (length out) s)

-- The answer to a command

module _ (room : ℕ) (s : Session) where
  serve_fits : length (serve_says room s).text ≤ room
  unfolding serve_says
  serve_fits = go s.phase
    where
      go : (p : Phase) → length (served_in p room s).text ≤ room
      go Reading = omega arith
      go AtCommand = answer_fits room s (ascii "ELM327 v1.5") (ascii "ELM327")
      go ObdCommand = reply_fits room s (lines_bytes (vehicle s.line))

-- what is to be sent stands inside the lent buffer
pub serve_written : (s : Session) (out left : List ℕ) (r : ServerStep) → server_step r left ≡ server_lent (serve_says (length out) s) out → r.written ≤ length out
serve_written s out left r e = let w : r.written ≡ length (serve_says (length out) s).text = ap (λ (x : ServerServed). x.written) e in omega (arith, w, serve_fits (length out) s)
