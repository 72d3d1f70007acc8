-- Scripts on a client session: each call is what the session's own definition says of it.
use Rattle.std.specs.Prelude.{true, false, cond, List, [], ◌∷◌, ◌++◌, ℕ, suc, eqb, length, take, drop, get_or}
use Rattle.std.proofs.Math.Option.{Option, none, some}
use Rattle.std.proofs.lemmas.List.Edits.{sets}
use Rattle.wire.specs.Answer.{Answer, result, refused}
use Rattle.pid.specs.Lengths.{length_in}
use Rattle.server_state.specs.declared.FeatureSupport.{FeatureSupport}
use Rattle.server_state.specs.declared.FeatureSupport.TheVariants as support
use Rattle.server_state.specs.State.{count_in}
use Rattle.client_session.specs.declared.Command.{Command}
use Rattle.client_session.specs.declared.Command.TheVariants as command
use Rattle.client_session.specs.declared.Under.{Under}
use Rattle.client_session.specs.declared.Under.TheVariants as under
use Rattle.client_session.specs.declared.Failure.TheVariants as failure
use Rattle.client_session.specs.Session.{Client, client}
use Rattle.client_session.specs.Call.{Progress, sent, awaited, over, complete, values, value_count, ClientServed, client_lent}
use Rattle.client_session.specs.Start.{init_says, command_says, query_says}
use Rattle.client_session.specs.Piece.{piece_says, store_after, failure_says}
use Rattle.client_session.specs.Finish.{finish_says}
use Rattle.driver_log.specs.Log.{number_bytes, text_entry, flag_byte, Turn, turn_at, noted, answered, Logged, logged_of}
use Rattle.driver_log.specs.Script.{calls}

-- a code for each answer: a number of document 01 as itself, a result as 64 and more; that of a start is 64
abbrev pub start_code : Answer Progress → ℕ
start_code (result p) = 64
start_code (refused n) = n

abbrev pub step_code : Answer Progress → ℕ
step_code (result sent) = 65
step_code (result awaited) = 64
step_code (result over) = 66
step_code (result complete) = 67
step_code (result (values n)) = 64
step_code (refused n) = n

-- how many values a finish gave
abbrev pub count_entry : Answer Progress → ℕ
count_entry (result p) = value_count p
count_entry (refused n) = 0

abbrev pub support_code : FeatureSupport → ℕ
support_code support.Unknown = 0
support_code support.Yes = 1
support_code support.No = 2

abbrev pub command_code : Command → ℕ
command_code command.Reset = 1
command_code (command.Setup k) = 2
command_code (command.Raw e) = 3
command_code command.Query = 4
command_code command.Repeat = 5

abbrev pub under_code : Under → ℕ
under_code under.Idle = 0
under_code (under.Awaiting k) = command_code k
under_code under.Complete = 6

-- a PID's length, 256 where it is unknown
abbrev pub length_number : Option ℕ → ℕ
length_number none = 256
length_number (some n) = n

-- what is known of some PIDs: of each its length, and its count and 1, 0 where it is not learned
abbrev pub pids_entry : List ℕ → List ℕ → List ℕ → List ℕ
pids_entry lengths counts [] = []
pids_entry lengths counts (p ∷ pids) = (number_bytes (length_number (length_in lengths p)) ++ number_bytes (count_in counts p)) ++ pids_entry lengths counts pids

-- a session's state: framing, repeat, multi-PID support, what is under way, the last query, and what is known of some PIDs
abbrev pub state_entry : Client → List ℕ → List ℕ
state_entry c pids =
    let s = c.server in
    (flag_byte s.framing ∷ support_code s.repeat ∷ support_code s.multi_pid ∷ under_code c.under ∷ []) ++
    (text_entry c.last ++ pids_entry s.pid_lengths s.ecu_counts pids)

-- A turn of a client session, with the store of its replies.
pub record Stored : Type 0 where
  pub turn : Turn Client
  pub store : List ℕ

-- a call as the host sees it is noted: a start, a piece or a failure, and a finish, which alone gives values
abbrev pub start_turn : ℕ → List ℕ → ClientServed → Turn Client
start_turn at log r = answered at log (start_code r.answer) 0 r.written r.next r.out

abbrev pub step_turn : ℕ → List ℕ → ClientServed → Turn Client
step_turn at log r = answered at log (step_code r.answer) 0 r.written r.next r.out

abbrev pub finish_turn : ℕ → List ℕ → ClientServed → Turn Client
finish_turn at log r = answered at log (step_code r.answer) (count_entry r.answer) r.written r.next r.out

abbrev pub start_noted : Stored → ClientServed → Stored
start_noted t r = record { turn = start_turn t.turn.at t.turn.log r; store = t.store }

abbrev pub piece_noted : Stored → ClientServed → List ℕ → Stored
piece_noted t r store = record { turn = step_turn t.turn.at t.turn.log r; store = store }

abbrev pub finish_noted : Stored → ClientServed → Stored
finish_noted t r = record { turn = finish_turn t.turn.at t.turn.log r; store = t.store }

abbrev pub shown : Stored → List ℕ → Stored
shown t entry = record { turn = noted t.turn.session t.turn.at t.turn.out t.turn.log entry; store = t.store }

-- the count that the second byte of an argument gives, as count and 1; none where there is no such byte
abbrev pub count_given : List ℕ → ℕ
count_given [] = 0
count_given (pid ∷ []) = 0
count_given (pid ∷ count ∷ s) = suc count

-- the calls that are made more rarely: 6 is `init`, 7 `query_pids` with a count and then the PIDs, 8 `failure` of a read, 9 of a write; 10 shows the reply so far,
-- and any other the state with the PIDs of the argument
abbrev pub rare_call : Stored → ℕ → List ℕ → Stored
rare_call t kind arg =
    let c = t.turn.session in
    let out = t.turn.out in
    let room = length out in
    cond (eqb kind 6) (start_noted t (client_lent (init_says room c) out))
    (cond (eqb kind 7) (start_noted t (client_lent (query_says room c (drop 1 arg) (suc (get_or arg 0 0)) true) out))
    (cond (eqb kind 8) (piece_noted t (client_lent (failure_says room c failure.Read) out) t.store)
    (cond (eqb kind 9) (piece_noted t (client_lent (failure_says room c failure.Write) out) t.store)
    (cond (eqb kind 10) (shown t (text_entry (take c.got t.store))) (shown t (state_entry c arg))))))

-- the host writes to its store, from the front on
abbrev pub host_writes : Stored → List ℕ → Stored
host_writes t arg = record { turn = t.turn; store = sets t.store 0 arg }

-- a call by its kind: 1 is `command`, 2 `query_pid` with a PID and perhaps a count, 3 `query_pids` with no count, 4 `piece`, 5 `finish`; at 11 the host writes the
-- argument to its store, and nothing is logged
abbrev pub client_call : Stored → ℕ → List ℕ → Stored
client_call t kind arg =
    let c = t.turn.session in
    let out = t.turn.out in
    let room = length out in
    cond (eqb kind 1) (start_noted t (client_lent (command_says room c arg) out))
    (cond (eqb kind 2) (start_noted t (client_lent (query_says room c (get_or arg 0 0 ∷ []) (count_given arg) false) out))
    (cond (eqb kind 3) (start_noted t (client_lent (query_says room c arg 0 true) out))
    (cond (eqb kind 4) (let d = piece_says room c arg t.store in piece_noted t (client_lent d out) (store_after c d.answer arg t.store))
    (cond (eqb kind 5) (finish_noted t (client_lent (finish_says room c t.store) out))
    (cond (eqb kind 11) (host_writes t arg) (rare_call t kind arg))))))

abbrev pub client_at : Client → ℕ → List ℕ → List ℕ → List ℕ → Stored
client_at c at store out log = record { turn = turn_at c at out log; store = store }

-- a script on a session, logged from the start of the log
abbrev pub client_run : List ℕ → Stored → Stored
client_run script t = calls client_call (client_at t.turn.session 0 t.store t.turn.out t.turn.log) script

-- What a program sees of a run: what is logged, and the store.
pub record LoggedStore : Type 0 where
  pub logged : Logged
  pub store : List ℕ

abbrev pub stored_of : Stored → LoggedStore
stored_of t = record { logged = logged_of t.turn; store = t.store }

abbrev pub stored_as : ℕ → List ℕ → List ℕ → List ℕ → LoggedStore
stored_as written store out log = record { logged = record { written = written; out = out; log = log }; store = store }
