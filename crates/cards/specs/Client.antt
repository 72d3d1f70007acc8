-- Examples of the client's end: starts, pieces, failures and the pieces of a run. Document 01, "Numbers by who causes them", client_session.rs, "The bench run"; the Rust's
-- `init`, `command` and `execute`.
use Rattle.std.specs.Prelude.{Bool, true, false, List, [], ◌∷◌, ◌++◌, map, ℕ, zero, suc, length, replicate, Ok, Err}
use Prim.Native.String.{String}
use Rattle.wire.specs.declared.Refusal.TheVariants.{OutOfTurn, PidCount, TooLong, NotAscii, SmallBuffer, Disconnected, ReplyTooLong, ReplyNotAscii}
use Rattle.wire.specs.Answer.{result, refused}
use Rattle.wire.specs.Text.{ascii, joined}
use Rattle.pid.specs.Lengths.{mode01_lengths}
use Rattle.server_state.specs.declared.FeatureSupport.TheVariants as support
use Rattle.server_state.specs.State.{nothing_learned, count_in, with_repeat, with_multi}
use Rattle.client_session.specs.declared.Command.TheVariants as command
use Rattle.client_session.specs.declared.Under.TheVariants as under
use Rattle.client_session.specs.declared.ClientSession.{ClientSession}
use Rattle.client_session.specs.declared.ClientAnswer.TheVariants as answer
use Rattle.client_session.specs.declared.ClientError.TheVariants as error
use Rattle.client_session.specs.declared.Failure.TheVariants as failure
use Rattle.client_session.specs.Session.{Client, client, fresh_client, with_under}
use Rattle.client_session.specs.Call.{sent, awaited, over, complete, values, ClientSaid, client_lent, client_answer, client_step}
use Rattle.client_session.specs.Start.{init_says, command_says, query_says}
use Rattle.client_session.specs.Piece.{piece_says, store_after, failure_says}
use Rattle.client_session.specs.Pieces.{fed}
use Rattle.bench.specs.Deliver.{pieces}
use Rattle.bench.specs.Steps.{delivered, delivery_lent}
use Rattle.cards.specs.Example.{Example, example}

abbrev pub empty_store : List ℕ
empty_store = replicate 4096 0

-- a session with framing wanted and repeat on
abbrev pub new : Client
new = fresh_client true true

-- a reply in one piece, and the session after it
abbrev pub reply : Client → String → ClientSaid
reply c t = piece_says 80 c (ascii t) empty_store

-- `010C` asked
abbrev started : ClientSaid
started = query_says 80 new (0x0C ∷ []) 0 false

-- `010C 1` asked, and the session when its reply was complete and finished
abbrev first_query : ClientSaid
first_query = query_says 80 new (0x0C ∷ []) 2 false

abbrev after_first : Client
after_first = with_under (reply first_query.next "410C1AF8\r\r>").next under.Idle 0

abbrev query_again : ClientSaid
query_again = query_says 80 after_first (0x0C ∷ []) 2 false

-- the initialisation, the session after n replies, and what goes out at each
abbrev initialising : Client
initialising = (init_says 80 after_first).next

abbrev after_oks : ℕ → Client → Client
after_oks zero c = c
after_oks (suc n) c = after_oks n (reply c "OK\r\r>").next

abbrev sent_after : ℕ → Client → List (List ℕ)
sent_after zero c = []
sent_after (suc n) c = (reply c "OK\r\r>").text ∷ sent_after n (reply c "OK\r\r>").next

-- a raw command, and framing when its reply is complete
abbrev framing_after : Client → String → Bool
framing_after c t = (reply (command_says 80 c (ascii t)).next "OK\r\r>").next.server.framing

-- a query with 4,090 bytes of its reply in the store
abbrev nearly_full : Client
nearly_full = with_under first_query.next (under.Awaiting command.Query) 4090

abbrev pub full_store : List ℕ
full_store = replicate 4096 65

-- a ClientSession that has asked `010C`, with so many bytes of the reply in the store
abbrev client_holding : ℕ → ClientSession
client_holding n = record {
  want_framing = true;
  server = nothing_learned true;
  last = record { bytes = replicate 18 0; len = 0 };
  query = record {
    text = record { bytes = ascii "010C" ++ replicate 14 0; len = 4 };
    pids = record { bytes = 0x0C ∷ replicate 5 0; len = 1 };
    several = false;
  };
  pending = record { under = under.Awaiting command.Query; got = n };
}

abbrev pub in_pieces : List (List ℕ)
in_pieces = ascii "410C" ∷ ascii "1AF8\r" ∷ ascii "\r>" ∷ ascii "x" ∷ []

abbrev out_buffer : List ℕ
out_buffer = replicate 80 9

abbrev pub client_examples : List Example
client_examples =
    example "a query goes out" (client_lent started out_buffer) (client_step (record { answer = Ok answer.Sent; written = 5; session = client_holding 0 }) (ascii "010C\r" ++ replicate 75 9)) ∷
    example "a piece of its reply is stored" (client_lent (piece_says 80 started.next (ascii "41") empty_store) out_buffer)
    (client_step (record { answer = Ok answer.Awaited; written = 0; session = client_holding 2 }) out_buffer) ∷
    example "after what the store holds of it" (store_after (client (client_holding 2)) (result awaited) (ascii "0C") (ascii "41" ++ replicate 4094 0)) (ascii "410C" ++ replicate 4092 0) ∷
    example "but for the answer to ATZ, and a piece that gets a number"
    (store_after initialising (result sent) (ascii "41") empty_store ∷ store_after started.next (refused 3) (ascii "41") empty_store ∷ [])
    (empty_store ∷ empty_store ∷ []) ∷
    example "as in a delivery, which uses up a piece length" (delivery_lent (delivered 80 started.next empty_store (2 ∷ 9 ∷ []) (ascii "41")) out_buffer)
    (record {
      served = client_step (record { answer = Ok answer.Awaited; written = 0; session = client_holding 2 }) out_buffer;
      store = ascii "41" ++ replicate 4094 0;
      lengths = 9 ∷ [];
    }) ∷
    example "a query again, and a `?` for it" (first_query.text ∷ query_again.text ∷ (reply query_again.next "?\r\r>").text ∷ []) (ascii "010C 1\r" ∷ ascii "\r" ∷ ascii "010C 1\r" ∷ []) ∷
    example "repeat after a `?`, and after another reply"
    ((reply query_again.next "?\r\r>").next.server.repeat ∷ (reply query_again.next "NO DATA\r\r>").next.server.repeat ∷ []) (support.No ∷ support.Yes ∷ []) ∷
    example "what these replies come to" ((reply query_again.next "?\r\r>").answer ∷ (reply query_again.next "NO DATA\r\r>").answer ∷ []) (result sent ∷ result complete ∷ []) ∷
    example "another query goes out in full" (query_says 80 after_first (0x0C ∷ []) 3 false).text (ascii "010C 2\r") ∷
    example "the initialisation" ((init_says 80 after_first).text ∷ sent_after 6 initialising)
    (ascii "ATZ\r" ∷ ascii "ATE0\r" ∷ ascii "ATL0\r" ∷ ascii "ATS0\r" ∷ ascii "ATSP0\r" ∷ ascii "ATH1\r" ∷ [] ∷ []) ∷
    example "with no framing wanted" (sent_after 5 (init_says 80 (fresh_client false true)).next) (ascii "ATE0\r" ∷ ascii "ATL0\r" ∷ ascii "ATS0\r" ∷ ascii "ATSP0\r" ∷ ascii "ATH0\r" ∷ []) ∷
    example "its last reply sets framing" ((after_oks 5 initialising).server.framing ∷ (after_oks 6 initialising).server.framing ∷ []) (false ∷ true ∷ []) ∷
    example "a failed read while ATZ's answer is awaited" (failure_says 80 initialising failure.Read).text (ascii "ATE0\r") ∷
    example "a failed write there" (failure_says 80 initialising failure.Write).answer (refused 7) ∷
    example "which keeps the last query" (failure_says 80 initialising failure.Write).next.last (ascii "010C 1") ∷
    example "raw commands" (map (λ (t : String). (command_says 80 after_first (ascii t)).text) ("ath1" ∷ "ATH1\r" ∷ "" ∷ [])) (ascii "ath1\r" ∷ ascii "ATH1\r" ∷ ascii "\r" ∷ []) ∷
    example "one forgets the last query" (command_says 80 after_first (ascii "ATI")).next.last [] ∷
    example "framing after them, and then after some more" (map (framing_after new) ("ath1" ∷ "ATH1\r" ∷ "" ∷ []) ++ map (framing_after (after_oks 6 initialising)) ("ATI" ∷ "ATH0" ∷ "atz" ∷ []))
    (true ∷ false ∷ false ∷ true ∷ false ∷ false ∷ []) ∷
    example "raw commands out of turn, too long, not ASCII, and with little room"
    ((command_says 80 first_query.next []).answer ∷ (command_says 80 new (replicate 65 65)).answer ∷ (command_says 80 new (0x80 ∷ [])).answer ∷ (command_says 79 new []).answer ∷ [])
    (refused 1 ∷ refused 3 ∷ refused 4 ∷ refused 6 ∷ []) ∷
    example "6 bytes after 4,090, and 7"
    ((piece_says 80 nearly_full (ascii "41\r\r>\r") full_store).answer ∷ (piece_says 80 nearly_full (ascii "410D\r\r>") full_store).answer ∷ []) (result complete ∷ refused 8 ∷ []) ∷
    example "an empty piece, a byte of 80, a piece of 129 bytes, and little room" ((reply query_again.next "").answer ∷ (piece_says 80 query_again.next (0x80 ∷ 62 ∷ []) empty_store).answer ∷
    (piece_says 80 query_again.next (replicate 129 65) empty_store).answer ∷ (piece_says 79 query_again.next (65 ∷ []) empty_store).answer ∷ []) (refused 7 ∷ refused 9 ∷ refused 3 ∷ refused 6 ∷ []) ∷
    example "an empty piece forgets the last query" (reply query_again.next "").next.last [] ∷
    example "and marks untested multi-PID support No"
    ((reply (query_says 80 after_first (0x0C ∷ 0x0D ∷ []) 0 true).next "").next.server.multi_pid ∷ (reply query_again.next "").next.server.multi_pid ∷ [])
    (support.No ∷ support.Unknown ∷ []) ∷
    example "failures out of turn, with little room, and of a query"
    ((failure_says 80 after_first failure.Write).answer ∷ (failure_says 79 first_query.next failure.Write).answer ∷ (failure_says 80 first_query.next failure.Read).answer ∷ [])
    (refused 1 ∷ refused 6 ∷ refused 7 ∷ []) ∷
    example "the numbers of the client's calls" (map (λ q. client_answer (Err (error.Refused q))) (OutOfTurn ∷ PidCount ∷ TooLong ∷ NotAscii ∷ SmallBuffer ∷ [])) (map refused (1 ∷ 2 ∷ 3 ∷ 4 ∷ 6 ∷ [])) ∷
    example "and of the far side" (map (λ q. client_answer (Err (error.Failed q))) (Disconnected ∷ ReplyTooLong ∷ ReplyNotAscii ∷ [])) (map refused (7 ∷ 8 ∷ 9 ∷ [])) ∷
    example "what else a call says" (map (λ a. client_answer (Ok a)) (answer.Sent ∷ answer.Awaited ∷ answer.Over ∷ answer.Complete ∷ answer.Values 2 ∷ []))
    (map result (sent ∷ awaited ∷ over ∷ complete ∷ values 2 ∷ [])) ∷
    example "pieces up to the one that completes the reply" (fed 80 first_query.next empty_store in_pieces).said.answer (result complete) ∷
    example "the piece that is left" (fed 80 first_query.next empty_store in_pieces).left (ascii "x" ∷ []) ∷
    example "the pieces joined" (joined in_pieces) (ascii "410C1AF8\r\r>x") ∷
    example "a reply of 300 bytes cut by the lengths 3, 0, 200 and 1" (map (λ (p : List ℕ). length p) (pieces (3 ∷ 0 ∷ 200 ∷ 1 ∷ []) (replicate 300 65))) (3 ∷ 128 ∷ 128 ∷ 1 ∷ 40 ∷ []) ∷
    example "what is set and learned on the peer" (with_multi (with_repeat (nothing_learned true) support.No) support.Yes)
    (record { framing = false; repeat = support.No; multi_pid = support.Yes; pid_lengths = mode01_lengths; ecu_counts = replicate 256 0 }) ∷
    example "counts of none, 1 and 255, as a query has them" (map (count_in (0 ∷ 1 ∷ 255 ∷ [])) (0 ∷ 1 ∷ 2 ∷ [])) (0 ∷ 2 ∷ 256 ∷ []) ∷
    []
