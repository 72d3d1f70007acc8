-- The answers to a command that is handed out. Document 01, server_session.rs: "An AT command updates the client settings it is lent, then is answered with
-- the line ending now in force"; "`reply`: .. It becomes the last command. No lines: `NO DATA`, and the last command remains. `reject` likewise leaves it." Of this
-- document 02 §13 ends "and the last command remains": "a query answered NO DATA now becomes the server's last command too; a rejected one still doesn't."
use Rattle.std.specs.Prelude.{Bool, true, false, not, ◌||◌, List, [], ◌∷◌, ℕ, ltb, length}
use Rattle.wire.specs.Answer.{unless}
use Rattle.wire.specs.Text.{high}
use Rattle.client_state.specs.Settings.{Settings, with_last}
use Rattle.group.specs.Group.{is_malformed, list_of}
use Rattle.line_list.specs.Lines.{Line, lines_of_list}
use Rattle.at_command.specs.Dialect.{at_kind, kind_settings, kind_lines}
use Rattle.reply.specs.Shape.{chip_reply}
use Rattle.reply.specs.Reply.{reply_text}
use Rattle.server_session.specs.declared.Phase.{Phase}
use Rattle.server_session.specs.declared.Phase.TheVariants.{Reading, AtCommand, ObdCommand}
use Rattle.server_session.specs.Session.{Session}
use Rattle.server_session.specs.Call.{ServerSaid, server_saying, server_refusing}

-- "an answer needs one of its kind"
abbrev pub is_at : Phase → Bool
is_at Reading = false
is_at AtCommand = true
is_at ObdCommand = false

abbrev pub is_obd : Phase → Bool
is_obd Reading = false
is_obd AtCommand = false
is_obd ObdCommand = true

-- the command is answered, and the next line is awaited
abbrev pub line_awaited : Settings → List ℕ → ServerSaid
line_awaited s text = server_saying 0 (record { state = s; line = []; phase = Reading }) text

abbrev pub at_answered : Session → List ℕ → List ℕ → ServerSaid
at_answered s ati device =
    let kind = at_kind s.line in
    let next = kind_settings kind s.state in
    line_awaited next (chip_reply next.linefeeds (kind_lines ati device kind))

-- an AT answer: no AT command is handed out; an identity string over 32 bytes; a byte of 80 or more in one; room under 48
unfoldable pub answer_says : ℕ → Session → List ℕ → List ℕ → ServerSaid
answer_says room s ati device =
    unless (
    (not (is_at s.phase), 1) ∷
    (ltb 32 (length ati) || ltb 32 (length device), 3) ∷
    (high ati || high device, 4) ∷
    (ltb room 48, 6) ∷ [])
    (server_refusing s) (at_answered s ati device)

-- the command is replied to, with lines or with NO DATA, and becomes the last one
abbrev pub obd_replied : Session → List Line → ServerSaid
obd_replied s ls = line_awaited (with_last s.state s.line) (reply_text s.state.linefeeds s.state.spaces s.state.headers ls)

-- a reply: no OBD command is handed out; not a line list; a text longer than the room
unfoldable pub reply_says : ℕ → Session → List ℕ → ServerSaid
reply_says room s list =
    let d = obd_replied s (list_of (lines_of_list list)) in
    unless (
    (not (is_obd s.phase), 1) ∷
    (is_malformed (lines_of_list list), 5) ∷
    (ltb room (length d.text), 6) ∷ [])
    (server_refusing s) d

-- a rejection: no OBD command is handed out; over 64 bytes; a byte of 80 or more; a text longer than the room. The last command remains, whatever the text is
unfoldable pub reject_says : ℕ → Session → List ℕ → ServerSaid
reject_says room s text =
    let d = line_awaited s.state (chip_reply s.state.linefeeds (text ∷ [])) in
    unless (
    (not (is_obd s.phase), 1) ∷
    (ltb 64 (length text), 3) ∷
    (high text, 4) ∷
    (ltb room (length d.text), 6) ∷ [])
    (server_refusing s) d
