-- Document 02 §2 in the bench run: what the server sends for a command without 00 holds none, whatever its session and the lines that it is given, so that the
-- client discards nothing of it.
use mathlib.Core.Path.{◌≡◌, refl}
use mathlib.Core.Bool.{false}
use mathlib.Core.List.{List}
use Prim.Native.Nat.{ℕ, ◌-◌}
use lib.ListN.{length}
use Rattle.wire.specs.Answer.{Answer, result, refused}
use Rattle.wire.specs.Text.{ascii, has}
use Rattle.server_session.specs.declared.Phase.{Phase}
use Rattle.server_session.specs.declared.Phase.TheVariants.{Reading, AtCommand, ObdCommand}
use Rattle.server_session.specs.Session.{Session}
use Rattle.server_session.specs.Call.{ServerSaid}
use Rattle.server_session.specs.Bytes.{bytes_say}
use Rattle.server_session.specs.Replies.{answer_says, reply_says}
use Rattle.server_session.proofs.NullLaws.{NoNull, both_none, bytes_none, answer_none, lines_none}
use Rattle.bench.specs.Exchange.{answered_by, exchanged}

answered_none : (room : ℕ) (a : Answer Phase) (h : ServerSaid) (list : List ℕ) → NoNull h.text → NoNull (answered_by room a h list).text
unfolding has
answered_none room (result Reading) h list n = n
answered_none room (result AtCommand) h list n =
    both_none h.text (answer_says room h.next (ascii "ELM327 v1.5") (ascii "ELM327")).text n
    (answer_none (ascii "ELM327 v1.5") (ascii "ELM327") refl refl room h.next)
answered_none room (result ObdCommand) h list n = both_none h.text (reply_says room h.next list).text n (lines_none room h.next list)
answered_none room (refused k) h list n = n

pub exchange_none : (room : ℕ) (s : Session) (command list : List ℕ) → has 0 command ≡ false → has 0 (exchanged room s command list).text ≡ false
unfolding exchanged
exchange_none room s command list n =
    let h = bytes_say room s command in
    answered_none (room - length h.text) h.answer h list (bytes_none room s command n)
