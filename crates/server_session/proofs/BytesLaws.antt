-- Laws of several bytes: one after the other, a run of plain ones, and a whole line.
use mathlib.Core.Path.{◌≡◌, refl, sym, ap, ◌∙◌}
use mathlib.Core.Bool.{Bool, true, false, cond, ◌||◌}
use mathlib.Core.List.{List, [], ◌∷◌, ◌++◌, append-nil, append_assoc}
use Prim.Native.Nat.{ℕ, suc, ◌+◌, ◌-◌, ◌≤◌, ◌<◌}
use native.Mathlib.Nat.{zero-add, sub-zero}
use native.Mathlib.Omega.{arith}
use lib.Dec.{eqb, leb, lit≤}
use lib.ListN.{length, length-append}
use borrow.Author.Tests.{eqb-false, leb-false}
use Rattle.wire.specs.Answer.{result}
use Rattle.wire.specs.Text.{ascii, begins, any}
use Rattle.wire.proofs.Cases.{by_test, or_none_lem}
use Rattle.server_session.specs.declared.Phase.{Phase}
use Rattle.server_session.specs.declared.Phase.TheVariants.{Reading, AtCommand, ObdCommand}
use Rattle.server_session.specs.declared.ServerStep.{ServerStep}
use Rattle.server_session.specs.Session.{Session}
use Rattle.server_session.specs.Call.{ServerSaid, server_saying, ServerServed, server_step, server_lent}
use Rattle.server_session.specs.Bytes.{canonical, with_line, echoed, command_phase, line_end, byte_taken, byte_says, goes_on, bytes_say}
use Rattle.server_session.specs.Steps.{is_special}
use Rattle.server_session.proofs.ByteLaws.{says_open, empty_last, line_command, taken_plain, text_short, taken_most, on_taken}

-- A plain byte

-- a byte that is not special, in turn and with room, joins the line, and is sent back where echo is on
pub says_plain : (room : ℕ) (s : Session) (b : ℕ) → s.phase ≡ Reading → 8 ≤ room → is_special b ≡ false → length s.line < 128 →
    byte_says room s b ≡ server_saying 1 (with_line s (s.line ++ (b ∷ [])) Reading) (echoed s (b ∷ []))
unfolding is_special
says_plain room s b t f p h =
    let (low, ends) = or_none_lem (leb 128 b) (eqb b 13 || eqb b 10) p in
    let (cr, lf) = or_none_lem (eqb b 13) (eqb b 10) ends in
    says_open room s b (record { turn = t; free = f; low = leb-false 128 b low; short = λ _ _. h }) ∙
    taken_plain s b (eqb-false b 13 cr) (eqb-false b 10 lf)

-- One byte, and then the others

-- the same after some bytes, and after what they sent
abbrev pub after : ℕ → List ℕ → ServerSaid → ServerSaid
after n e h = record { answer = h.answer; taken = n + h.taken; next = h.next; text = e ++ h.text }

pub bytes_on : (room : ℕ) (s : Session) (b : ℕ) (bs : List ℕ) → goes_on (byte_says room s b).answer ≡ true →
    bytes_say room s (b ∷ bs) ≡ after 1 (byte_says room s b).text (bytes_say (room - length (byte_says room s b).text) (byte_says room s b).next bs)
unfolding bytes_say
bytes_on room s b bs e = rw (e, on_taken room s b e)

pub bytes_stop : (room : ℕ) (s : Session) (b : ℕ) (bs : List ℕ) → goes_on (byte_says room s b).answer ≡ false → bytes_say room s (b ∷ bs) ≡ byte_says room s b
unfolding bytes_say
bytes_stop room s b bs e = rw e

-- A run

echo_none : (on : Bool) → ◌≡◌ {A = List ℕ} (cond on [] []) []
echo_none true = refl
echo_none false = refl

pub echo_append : (on : Bool) (s t : List ℕ) → cond on (s ++ t) [] ≡ cond on s [] ++ cond on t []
echo_append true s t = refl
echo_append false s t = refl

-- no more is sent back than came
pub echo_less : (on : Bool) (s : List ℕ) → length (cond on s []) ≤ length s
echo_less true s = omega arith
echo_less false s = omega arith

echo_cons : (on : Bool) (b : ℕ) (t : List ℕ) → cond on (b ∷ t) [] ≡ cond on (b ∷ []) [] ++ cond on t []
echo_cons true b t = refl
echo_cons false b t = refl

run_none : (rest : List ℕ) (s : Session) (room : ℕ) →
    bytes_say room s rest ≡ after 0 (echoed s []) (bytes_say (room - length (echoed s [])) (with_line s (s.line ++ []) s.phase) rest)
run_none rest s room = rw (echo_none s.state.echo, append-nil s.line, sub-zero, zero-add)

run_more : (b : ℕ) (text rest : List ℕ) (s : Session) (room : ℕ) (l : List ℕ) → s.line ++ (b ∷ []) ≡ l → byte_says room s b ≡ server_saying 1 (with_line s l Reading) (echoed s (b ∷ [])) →
    bytes_say (room - length (echoed s (b ∷ []))) (with_line s l Reading) (text ++ rest) ≡
    after (length text) (echoed s text) (bytes_say (room - length (echoed s (b ∷ [])) - length (echoed s text)) (with_line s (l ++ text) Reading) rest) →
    bytes_say room s (b ∷ (text ++ rest)) ≡
    after (suc (length text)) (echoed s (b ∷ text)) (bytes_say (room - length (echoed s (b ∷ text))) (with_line s (s.line ++ (b ∷ text)) Reading) rest)
run_more b text rest s room l j d q =
    let on : goes_on (byte_says room s b).answer ≡ true = rw d in
    let less : room - length (echoed s (b ∷ []) ++ echoed s text) ≡ room - length (echoed s (b ∷ [])) - length (echoed s text) = omega (arith, length-append (echoed s (b ∷ [])) (echoed s text)) in
    let line : s.line ++ (b ∷ text) ≡ l ++ text = rw (← j, append_assoc) in
    let h = bytes_say (room - length (echoed s (b ∷ [])) - length (echoed s text)) (with_line s (l ++ text) Reading) rest in
    let more : 1 + (length text + h.taken) ≡ suc (length text) + h.taken = omega arith in
    bytes_on room s b (text ++ rest) on ∙ rw (d, q, echo_cons s.state.echo b text, less, line, append_assoc)
    (λ i. record { answer = h.answer; taken = more i; next = h.next; text = echoed s (b ∷ []) ++ (echoed s text ++ h.text) })

-- bytes that are not special, in turn and with room, join the line, and the others follow
pub bytes_run : (text rest : List ℕ) (s : Session) (room : ℕ) → any is_special text ≡ false → s.phase ≡ Reading → length s.line + length text ≤ 128 → length (echoed s text) + 8 ≤ room →
    bytes_say room s (text ++ rest) ≡ after (length text) (echoed s text) (bytes_say (room - length (echoed s text)) (with_line s (s.line ++ text) Reading) rest)
bytes_run [] rest s room p t h f = rw (← t) (run_none rest s room)
bytes_run (b ∷ text) rest s room p t h f =
    let (q, r) = or_none_lem (is_special b) (any is_special text) p in
    let e = ap length (echo_cons s.state.echo b text) ∙ length-append (echoed s (b ∷ [])) (echoed s text) in
    run_more b text rest s room _ refl (says_plain room s b t (omega arith) q (omega arith))
    (bytes_run text rest (with_line s (s.line ++ (b ∷ [])) Reading) (room - length (echoed s (b ∷ []))) r refl (omega (arith, length-append s.line (b ∷ []))) (omega arith))

-- the same, where there may be none
pub bytes_some : (text rest : List ℕ) (s : Session) (room : ℕ) → any is_special text ≡ false → (0 < length text → s.phase ≡ Reading) → length s.line + length text ≤ 128 →
    (0 < length text → length (echoed s text) + 8 ≤ room) →
    bytes_say room s (text ++ rest) ≡ after (length text) (echoed s text) (bytes_say (room - length (echoed s text)) (with_line s (s.line ++ text) s.phase) rest)
bytes_some [] rest s room p t h f = run_none rest s room
bytes_some (b ∷ text) rest s room p t h f =
    bytes_run (b ∷ text) rest s room p (t (omega arith)) h (f (omega arith)) ∙
    ap (λ (q : Phase). after (suc (length text)) (echoed s (b ∷ text)) (bytes_say (room - length (echoed s (b ∷ text))) (with_line s (s.line ++ (b ∷ text)) q) rest)) (sym (t (omega arith)))

nothing_fits : (s : Session) (room : ℕ) → (length (bytes_say room s []).text ≤ room) × ((bytes_say room s []).taken ≤ 0)
unfolding bytes_say
nothing_fits s room = (omega arith, omega arith)

one_fits : (room : ℕ) (s : Session) (b : ℕ) (bs : List ℕ) →
    let h = bytes_say (room - length (byte_says room s b).text) (byte_says room s b).next bs in
    (length h.text ≤ room - length (byte_says room s b).text) × (h.taken ≤ length bs) →
    (length (bytes_say room s (b ∷ bs)).text ≤ room) × ((bytes_say room s (b ∷ bs)).taken ≤ suc (length bs))
one_fits room s b bs (q, r) =
    let d = byte_says room s b in
    let fits = (text_short room s b).1 in
    by_test (goes_on d.answer)
    (λ e. rw (bytes_on room s b bs e) (omega (arith, length-append d.text (bytes_say (room - length d.text) d.next bs).text), omega arith))
    (λ e. rw (bytes_stop room s b bs e) (fits, omega (arith, taken_most room s b)))

-- no more is sent than there is room for, and no more taken than there is
pub bytes_fit : (bs : List ℕ) (s : Session) (room : ℕ) → (length (bytes_say room s bs).text ≤ room) × ((bytes_say room s bs).taken ≤ length bs)
bytes_fit [] s room = nothing_fits s room
bytes_fit (b ∷ bs) s room = one_fits room s b bs (bytes_fit bs (byte_says room s b).next (room - length (byte_says room s b).text))

-- A whole line

command_stops : (c : List ℕ) → goes_on (result (command_phase c)) ≡ false
command_stops c = go (begins c (ascii "AT"))
  where
    go : (at : Bool) → goes_on (result (cond at AtCommand ObdCommand)) ≡ false
    go true = refl
    go false = refl

-- what is heard where a command is handed out
abbrev pub handing : Session → List ℕ → Phase → ℕ → List ℕ → ServerSaid
handing s c p n e = record { answer = result p; taken = n; next = with_line s c p; text = e }

-- CR is taken whatever the line holds
says_cr : (room : ℕ) (s : Session) → s.phase ≡ Reading → 8 ≤ room → byte_says room s 13 ≡ line_end s (echoed s (13 ∷ [])) (canonical s.line)
unfolding byte_taken
says_cr room s t f = says_open room s 13 (record { turn = t; free = f; low = lit≤ tt; short = λ p _. absurd (p refl) })

-- CR after a line that has a command
pub cr_command : (rest : List ℕ) (s : Session) (room : ℕ) → s.phase ≡ Reading → 8 ≤ room → 0 < length (canonical s.line) →
    bytes_say room s (13 ∷ rest) ≡ handing s (canonical s.line) (command_phase (canonical s.line)) 1 (echoed s (13 ∷ []))
cr_command rest s room t f h =
    let c = canonical s.line in
    let d : byte_says room s 13 ≡ server_saying 1 (with_line s c (command_phase c)) (echoed s (13 ∷ [])) = says_cr room s t f ∙ line_command s (echoed s (13 ∷ [])) c (λ e. omega arith) in
    bytes_stop room s 13 rest (rw d (command_stops c)) ∙ rw d

-- CR after an empty line: the last command
pub cr_repeat : (rest : List ℕ) (s : Session) (room : ℕ) → s.phase ≡ Reading → 8 ≤ room → canonical s.line ≡ [] → 0 < length s.state.last →
    bytes_say room s (13 ∷ rest) ≡ handing s s.state.last ObdCommand 1 (echoed s (13 ∷ []))
cr_repeat rest s room t f z h =
    let d : byte_says room s 13 ≡ server_saying 1 (with_line s s.state.last ObdCommand) (echoed s (13 ∷ [])) =
    says_cr room s t f ∙ rw z (empty_last s (echoed s (13 ∷ [])) s.state.last (λ e. omega arith)) in
    bytes_stop room s 13 rest (rw d) ∙ rw d

-- A line of plain bytes, and CR: its command is handed out, all of it was taken and sent back where echo is on.
pub line-says : (text rest : List ℕ) (s : Session) (room : ℕ) → any is_special text ≡ false → s.phase ≡ Reading → length s.line + length text ≤ 128 → length (echoed s text) + 8 ≤ room →
    0 < length (canonical (s.line ++ text)) →
    bytes_say room s (text ++ (13 ∷ rest)) ≡
    handing s (canonical (s.line ++ text)) (command_phase (canonical (s.line ++ text))) (length text + 1) (echoed s (text ++ (13 ∷ [])))
line-says text rest s room p t h f k =
    bytes_run text (13 ∷ rest) s room p t h f ∙
    rw (cr_command rest (with_line s (s.line ++ text) Reading) (room - length (echoed s text)) refl (omega arith) k, ← echo_append s.state.echo text (13 ∷ []))

-- What the contract gives a caller of `bytes`: the bytes to send stand inside the lent buffer, and those taken inside the input.
pub bytes_written : (s : Session) (input out left : List ℕ) (r : ServerStep) → server_step r left ≡ server_lent (bytes_say (length out) s input) out →
    (r.written ≤ length out) × (r.taken ≤ length input)
bytes_written s input out left r e =
    let w : r.written ≡ length (bytes_say (length out) s input).text = ap (λ (x : ServerServed). x.written) e in
    let t : r.taken ≡ (bytes_say (length out) s input).taken = ap (λ (x : ServerServed). x.taken) e in
    rw (w, t) (bytes_fit input s (length out))
