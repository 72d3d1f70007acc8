-- What `serve` does beside its session: how far it goes in the bytes that it read, and what it sends for a command that is handed out.
use Rattle.std.specs.Prelude.{cond, [], ℕ, ◌+◌, eqb}
use Rattle.wire.specs.Answer.{Answer, result, refused}
use Rattle.wire.specs.Text.{ascii}
use Rattle.line_list.specs.Lines.{lines_bytes}
use Rattle.server_session.specs.declared.Phase.{Phase}
use Rattle.server_session.specs.declared.Phase.TheVariants.{Reading, AtCommand, ObdCommand}
use Rattle.server_session.specs.Session.{Session}
use Rattle.server_session.specs.Call.{ServerSaid, server_saying}
use Rattle.server_session.specs.Replies.{answer_says, reply_says}
use Rattle.serve.specs.Vehicle.{vehicle}

-- the bytes dealt with, where n were taken: one that gets a number is dropped, unless there was no room for what it sends (6)
abbrev pub dealt_with : Answer Phase → ℕ → ℕ
dealt_with (result p) n = n
dealt_with (refused k) n = cond (eqb k 6) n (n + 1)

-- an AT answer with the identity strings of document 01's bench run, or the vehicle's lines; nothing while a line is read
abbrev pub served_in : Phase → ℕ → Session → ServerSaid
served_in Reading room s = server_saying 0 s []
served_in AtCommand room s = answer_says room s (ascii "ELM327 v1.5") (ascii "ELM327")
served_in ObdCommand room s = reply_says room s (lines_bytes (vehicle s.line))

unfoldable pub serve_says : ℕ → Session → ServerSaid
serve_says room s = served_in s.phase room s
