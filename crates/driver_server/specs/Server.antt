-- Scripts on a server session: each call is what the session's own definition says of it.
use Rattle.std.specs.Prelude.{cond, List, [], ◌∷◌, ◌++◌, ℕ, eqb, length, get_or}
use Rattle.wire.specs.Answer.{Answer, result, refused}
use Rattle.wire.specs.Text.{ascii}
use Rattle.server_session.specs.declared.Phase.{Phase}
use Rattle.server_session.specs.declared.Phase.TheVariants as phase
use Rattle.server_session.specs.Session.{Session}
use Rattle.server_session.specs.Call.{ServerServed, server_lent}
use Rattle.server_session.specs.Bytes.{byte_says, bytes_say}
use Rattle.server_session.specs.Replies.{answer_says, reply_says, reject_says}
use Rattle.driver_log.specs.Log.{text_entry, flag_byte, Turn, turn_at, noted, answered}
use Rattle.driver_log.specs.Script.{calls}

-- a code for each answer: a number of document 01 as itself, a result as 64 and more
abbrev pub answer_code : Answer Phase → ℕ
answer_code (result phase.Reading) = 64
answer_code (result phase.AtCommand) = 65
answer_code (result phase.ObdCommand) = 66
answer_code (refused n) = n

abbrev pub phase_code : Phase → ℕ
phase_code phase.Reading = 0
phase_code phase.AtCommand = 1
phase_code phase.ObdCommand = 2

-- a session's state: the four settings, the phase, the last command, and the line as far as it is read or the command handed out
abbrev pub server_entry : Session → List ℕ
server_entry s =
    (flag_byte s.state.echo ∷ flag_byte s.state.linefeeds ∷ flag_byte s.state.spaces ∷ flag_byte s.state.headers ∷ phase_code s.phase ∷ []) ++
    (text_entry s.state.last ++ text_entry s.line)

-- a call as the host sees it is noted, with a number of bytes taken
abbrev pub call_noted : Turn Session → ℕ → ServerServed → Turn Session
call_noted t taken r = answered t.at t.log (answer_code r.answer) taken r.written r.next r.out

-- the calls that are made more rarely: 5 is `reject`, 6 `answer` with the argument as the identity string for ATI; any other shows the state
abbrev pub rare_server_call : Turn Session → ℕ → List ℕ → Turn Session
rare_server_call t kind arg =
    let s = t.session in
    let out = t.out in
    cond (eqb kind 5) (call_noted t 0 (server_lent (reject_says (length out) s arg) out))
    (cond (eqb kind 6) (call_noted t 0 (server_lent (answer_says (length out) s arg (ascii "ELM327")) out)) (noted s t.at out t.log (server_entry s)))

-- a call by its kind: 1 is `byte` with the argument's first byte, 2 `bytes`, 3 `reply`, 4 `answer` with the argument as the identity string for AT@1
abbrev pub server_call : Turn Session → ℕ → List ℕ → Turn Session
server_call t kind arg =
    let s = t.session in
    let out = t.out in
    let heard = bytes_say (length out) s arg in
    cond (eqb kind 1) (call_noted t 0 (server_lent (byte_says (length out) s (get_or arg 0 0)) out))
    (cond (eqb kind 2) (call_noted t heard.taken (server_lent heard out))
    (cond (eqb kind 3) (call_noted t 0 (server_lent (reply_says (length out) s arg) out))
    (cond (eqb kind 4) (call_noted t 0 (server_lent (answer_says (length out) s (ascii "ELM327 v1.5") arg) out)) (rare_server_call t kind arg))))

-- a script on a session, logged from the start of the log
abbrev pub server_run : List ℕ → Turn Session → Turn Session
server_run script t = calls server_call (turn_at t.session 0 t.out t.log) script
