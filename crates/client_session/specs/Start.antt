-- Starts. Document 01, client_session.rs: "Initialisation: ATZ, one piece dropped, then ATE0, ATL0, ATS0, ATSP0, and ATH1 or ATH0." "Raw command: CR added
-- unless it ends in one. Starting one forgets the last command. When complete, ATH1 sets framing, ATH0 or ATZ clears it: exact text in any case".
-- "If repeat is not No and the query equals the last one, a bare CR goes out".
use Rattle.std.specs.Prelude.{Bool, not, cond, ◌&&◌, ◌||◌, List, [], ◌∷◌, ◌++◌, ℕ, eqb, ltb, length}
use Rattle.wire.specs.Answer.{unless}
use Rattle.wire.specs.Text.{ascii, same, high}
use Rattle.query.specs.Query.{text_of_query}
use Rattle.client_command.specs.Commands.{with_cr, framing_effect}
use Rattle.server_state.specs.State.{may_try}
use Rattle.client_session.specs.declared.Command.TheVariants.{Reset, Raw, Query, Repeat}
use Rattle.client_session.specs.Session.{Request, Client, is_idle, with_query, with_last_query}
use Rattle.client_session.specs.Call.{ClientSaid, sends, client_refusing}

-- the initialisation: its ATZ is no raw command, and forgets nothing
unfoldable pub init_says : ℕ → Client → ClientSaid
init_says room c =
    unless (
    (not (is_idle c.under), 1) ∷
    (ltb room 80, 6) ∷ [])
    (client_refusing c) (sends c Reset (ascii "ATZ\r"))

-- "Raw command: CR added unless it ends in one. Starting one forgets the last command."
unfoldable pub command_says : ℕ → Client → List ℕ → ClientSaid
command_says room c command =
    unless (
    (not (is_idle c.under), 1) ∷
    (ltb 64 (length command), 3) ∷
    (high command, 4) ∷
    (ltb room 80, 6) ∷ [])
    (client_refusing c) (sends (with_last_query c []) (Raw (framing_effect command)) (with_cr command))

-- "If repeat is not No and the query equals the last one, a bare CR goes out"
abbrev pub repeats : Client → Request → Bool
repeats c q = may_try c.server.repeat && same c.last q.text

abbrev pub send_query : Client → Request → ClientSaid
send_query c q =
    cond (repeats c q) (sends (with_query c q) Repeat (13 ∷ []))
    (sends (with_query c q) Query (q.text ++ (13 ∷ [])))

abbrev pub request : List ℕ → ℕ → Bool → Request
request pids count several = record { text = text_of_query pids count; pids = pids; several = several }

-- `query_pid` with its one PID, and `query_pids`, which are several; the count is given as count+1, 0 for none
unfoldable pub query_says : ℕ → Client → List ℕ → ℕ → Bool → ClientSaid
query_says room c pids count several =
    unless (
    (not (is_idle c.under), 1) ∷
    (eqb (length pids) 0 || ltb 6 (length pids), 2) ∷
    (ltb room 80, 6) ∷ [])
    (client_refusing c) (send_query c (request pids count several))
