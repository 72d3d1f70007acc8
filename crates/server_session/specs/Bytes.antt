-- Document 01, server_session.rs: "Per byte: echo it if echo is on (LF too); LF is not stored; CR ends the line. The command is the line without 09 to 0D
-- and 20, letters a to z raised. Empty: the last command replied to is handed out, or `?` is written when there is none. It starts with AT: an AT command;
-- else an OBD one."
use Rattle.std.specs.Prelude.{Bool, false, cond, ◌&&◌, not, List, [], ◌∷◌, ◌++◌, ℕ, ◌+◌, ◌-◌, eqb, ltb, leb, length}
use Rattle.wire.specs.Answer.{Answer, if_result, unless}
use Rattle.wire.specs.Text.{ascii, begins, is_space, raised}
use Rattle.reply.specs.Shape.{chip_reply}
use Rattle.server_session.specs.declared.Phase.{Phase}
use Rattle.server_session.specs.declared.Phase.TheVariants.{Reading, AtCommand, ObdCommand}
use Rattle.server_session.specs.Session.{Session, is_reading}
use Rattle.server_session.specs.Call.{ServerSaid, server_saying, server_refusing}

-- the command of a line
unfoldable pub canonical : List ℕ → List ℕ
canonical [] = []
canonical (b ∷ s) = cond (is_space b) (canonical s) (raised b ∷ canonical s)

-- the session with another line and phase
abbrev pub with_line : Session → List ℕ → Phase → Session
with_line s l p = record { state = s.state; line = l; phase = p }

-- what is sent back of some bytes
abbrev pub echoed : Session → List ℕ → List ℕ
echoed s bs = cond s.state.echo bs []

-- the kind of a command
abbrev pub command_phase : List ℕ → Phase
command_phase c = cond (begins c (ascii "AT")) AtCommand ObdCommand

-- an empty line, by the last command
abbrev pub empty_line : Session → List ℕ → List ℕ → ServerSaid
empty_line s e [] = server_saying 1 (with_line s [] Reading) (e ++ chip_reply s.state.linefeeds (ascii "?" ∷ []))
empty_line s e (c ∷ last) = server_saying 1 (with_line s (c ∷ last) ObdCommand) e

-- CR, by the line's command
abbrev pub line_end : Session → List ℕ → List ℕ → ServerSaid
line_end s e [] = empty_line s e s.state.last
line_end s e (c ∷ cs) = server_saying 1 (with_line s (c ∷ cs) (command_phase (c ∷ cs))) e

-- a byte that gets no number
unfoldable pub byte_taken : Session → ℕ → ServerSaid
byte_taken s b =
    cond (eqb b 13) (line_end s (echoed s (b ∷ [])) (canonical s.line))
    (cond (eqb b 10) (server_saying 1 s (echoed s (b ∷ [])))
    (server_saying 1 (with_line s (s.line ++ (b ∷ [])) Reading) (echoed s (b ∷ []))))

-- a byte: out of turn; room under 8; a byte of 80 or more; a line that holds 128, unless it is CR or LF
unfoldable pub byte_says : ℕ → Session → ℕ → ServerSaid
byte_says room s b =
    unless (
    (not (is_reading s.phase), 1) ∷
    (ltb room 8, 6) ∷
    (leb 128 b, 11) ∷
    (leb 128 (length s.line) && (not (eqb b 13) && not (eqb b 10)), 10) ∷ [])
    (server_refusing s) (byte_taken s b)

-- more bytes are looked at while the line is read
abbrev pub goes_on : Answer Phase → Bool
goes_on a = if_result a (λ n. false) is_reading

-- bytes one after the other, each with the room that those before it left, up to a command or a number
unfoldable pub bytes_say : ℕ → Session → List ℕ → ServerSaid
bytes_say room s [] = server_saying 0 s []
bytes_say room s (b ∷ bs) =
    let d = byte_says room s b in
    let h = bytes_say (room - length d.text) d.next bs in
    cond (goes_on d.answer) (record { answer = h.answer; taken = d.taken + h.taken; next = h.next; text = d.text ++ h.text }) d
