-- Examples of what finishing a query gives and learns. Document 01, client_session.rs; document 02 §1; the Rust's `parse_reply`, `learn_pid_data_length`,
-- `learn_ecu_counts` and `validate_multi_pid_support`.
use Rattle.std.specs.Prelude.{true, false, List, [], ◌∷◌, ◌++◌, map, ℕ, ◌-◌, replicate, set, Ok, Err}
use Rattle.std.proofs.Math.Option.{none, some}
use Prim.Native.String.{String}
use Rattle.wire.specs.Answer.{result, refused}
use Rattle.wire.specs.Text.{ascii}
use Rattle.pid.specs.Lengths.{mode01_lengths, length_in}
use Rattle.line_list.specs.Lines.{line}
use Rattle.value.specs.Values.{value}
use Rattle.reply_values.specs.Learn.{learn_length, ecus_giving}
use Rattle.wire.specs.declared.Refusal.TheVariants.{SmallBuffer}
use Rattle.reply_values.specs.Read.{ReadServed, reply_read, read_reply}
use Rattle.server_state.specs.declared.FeatureSupport.TheVariants as support
use Rattle.server_state.specs.State.{count_in}
use Rattle.client_session.specs.declared.Under.TheVariants as under
use Rattle.client_session.specs.declared.ClientAnswer.TheVariants as answer
use Rattle.client_session.specs.Session.{Client, with_under}
use Rattle.client_session.specs.Start.{command_says, query_says}
use Rattle.client_session.specs.Call.{ClientSaid, client_lent, client_answer, client_step}
use Rattle.client_session.specs.Piece.{store_after}
use Rattle.client_session.specs.Finish.{finish_says}
use Rattle.cards.specs.Example.{Example, example}
use Rattle.cards.specs.Client.{empty_store, new, reply}

-- a session with framing on
abbrev pub framed : Client
framed = (reply (command_says 80 new (ascii "ATH1")).next "OK\r\r>").next

-- a query that was started gets a reply, and is finished with so much room for its values
abbrev finishing : ℕ → ClientSaid → String → ClientSaid
finishing room s t = finish_says room (reply s.next t).next (store_after s.next (reply s.next t).answer (ascii t) empty_store)

abbrev pub finish_with : ClientSaid → String → ClientSaid
finish_with s t = finishing 100 s t

-- the maker's own PID E0 from two ECUs, with one length or two
abbrev alike : String
alike = "7E80541E0010203\r7E90541E0010203\r\r>"

abbrev unlike : String
unlike = "7E80441E00102\r7E90541E0010203\r\r>"

abbrev both_ecus : ClientSaid
both_ecus = finish_with (query_says 80 framed (0xE0 ∷ []) 0 false) alike

-- a reply read for `query_pid` of E0, framed, with a lent buffer
abbrev read_e0 : List ℕ → List ℕ → ReadServed
read_e0 text out = read_reply framed.server (0xE0 ∷ []) false text out

abbrev read_unlike : ℕ → ReadServed
read_unlike room = read_e0 (ascii unlike) (replicate room 9)

-- `query_pid` of E0, unframed: a line shows that it has one byte, and another has a value of it before two bytes
abbrev unframed_e0 : ClientSaid
unframed_e0 = finish_with (query_says 80 new (0xE0 ∷ []) 0 false) "41E001\r410D20E00102\r\r>"

-- the count of a PID, as a query has it, after a query of it
abbrev count_after : Client → ℕ → String → ℕ
count_after c p t = count_in (finish_with (query_says 80 c (p ∷ []) 0 false) t).next.server.ecu_counts p

abbrev pub learning : List Example
learning =
    example "E0 of two ECUs" both_ecus.text (0xE0 ∷ 0xE9 ∷ 0x0F ∷ 0x05 ∷ 0x41 ∷ 0xE0 ∷ 1 ∷ 2 ∷ 3 ∷ 0xE0 ∷ 0xEA ∷ 0x0F ∷ 0x05 ∷ 0x41 ∷ 0xE0 ∷ 1 ∷ 2 ∷ 3 ∷ []) ∷
    example "two values" both_ecus.answer (client_answer (Ok (answer.Values 2))) ∷
    example "its length is learned" (length_in both_ecus.next.server.pid_lengths 0xE0) (some 3) ∷
    example "and its count, 2" (count_in both_ecus.next.server.ecu_counts 0xE0) 3 ∷
    example "E0 with two lengths: two values" (read_unlike 18).answer (result 2) ∷
    example "in 17 bytes" (read_unlike 18).written 17 ∷
    example "its values" (read_unlike 18).out (0xE0 ∷ 0xE9 ∷ 0x0F ∷ 0x04 ∷ 0x41 ∷ 0xE0 ∷ 1 ∷ 2 ∷ 0xE0 ∷ 0xEA ∷ 0x0F ∷ 0x05 ∷ 0x41 ∷ 0xE0 ∷ 1 ∷ 2 ∷ 3 ∷ 9 ∷ []) ∷
    example "no length is learned"
    (length_in (read_unlike 18).server.pid_lengths 0xE0 ∷ length_in (finish_with (query_says 80 framed (0xE0 ∷ []) 0 false) unlike).next.server.pid_lengths 0xE0 ∷ []) (none ∷ none ∷ []) ∷
    example "with room for 16 bytes nothing is learned or written" (read_unlike 16) (reply_read (record { answer = Err SmallBuffer; written = 0; server = framed.server }) (replicate 16 9)) ∷
    example "which is 6, and 8 for a reply over 4,096 bytes" ((read_unlike 16).answer ∷ (read_e0 (replicate 4097 13) []).answer ∷ []) (refused 6 ∷ refused 8 ∷ []) ∷
    example "a length of 1 that is learned cuts the value after it, and the byte left is a PID without data" unframed_e0.text
    (0x02 ∷ 0 ∷ 2 ∷ 0x41 ∷ 0x02 ∷ 0x0D ∷ 0 ∷ 3 ∷ 0x41 ∷ 0x0D ∷ 0x20 ∷ 0xE0 ∷ 0 ∷ 3 ∷ 0x41 ∷ 0xE0 ∷ 0x01 ∷ 0xE0 ∷ 0 ∷ 3 ∷ 0x41 ∷ 0xE0 ∷ 0x01 ∷ []) ∷
    example "the counts of E0, 0D and 02 are 2, 1 and 1" (map (count_in unframed_e0.next.server.ecu_counts) (0xE0 ∷ 0x0D ∷ 0x02 ∷ [])) (3 ∷ 2 ∷ 2 ∷ []) ∷
    example "`query_pids` of E0 alone learns no length" (length_in (finish_with (query_says 80 framed (0xE0 ∷ []) 0 true) alike).next.server.pid_lengths 0xE0) none ∷
    example "a length of 0, and data over 255 bytes"
    (map (λ (d : List ℕ). length_in (learn_length mode01_lengths 0xE0 (line 0 (0x41 ∷ 0xE0 ∷ d) ∷ [])) 0xE0) ([] ∷ replicate 256 0 ∷ [])) (some 0 ∷ none ∷ []) ∷
    example "multi-PID support by 0C for 0C and 0C, for 0C and 0D, and for 0C"
    (map (λ (pids : List ℕ). (finish_with (query_says 80 framed pids 0 true) "7E804410C1AF8\r\r>").next.server.multi_pid) ((0x0C ∷ 0x0C ∷ []) ∷ (0x0C ∷ 0x0D ∷ []) ∷ (0x0C ∷ []) ∷ []))
    (support.Yes ∷ support.No ∷ support.No ∷ []) ∷
    example "counts: two lines unframed, of one ECU, of two, and card 4's of an unknown one"
    (count_after new 0x0C "410C1AF8\r410C1AF8\r\r>" ∷ count_after framed 0x0C "7E804410C1AF8\r7E804410C1AF8\r\r>" ∷
    count_after framed 0x0C "7E804410C1AF8\r7E904410C1AF8\r\r>" ∷ count_after framed 0x31 "A12\r\r>" ∷ [])
    (3 ∷ 2 ∷ 3 ∷ 0 ∷ []) ∷
    example "a count is learned once" (count_after (finish_with (query_says 80 framed (0x0C ∷ []) 0 false) "7E804410C1AF8\r\r>").next 0x0C "7E804410C1AF8\r7E904410C1AF8\r\r>") 2 ∷
    example "256 occurrences" (ecus_giving false (replicate 256 (value 0x0C 0 []))) 255 ∷
    example "a known length is clamped to the line" (finish_with (query_says 80 new (0x0C ∷ []) 0 false) "410C1A\r\r>").text (0x0C ∷ 0x00 ∷ 0x03 ∷ 0x41 ∷ 0x0C ∷ 0x1A ∷ []) ∷
    example "lines that do not start with 41, or have one byte" (finish_with (query_says 80 new (0x0C ∷ []) 0 false) "7F0112\r41\r\r>").text [] ∷
    example "a query finished" (client_lent (finish_with (query_says 80 new (0x0C ∷ []) 0 false) "410C1AF8\r\r>") (replicate 9 9))
    (client_step (record {
      answer = Ok (answer.Values 1);
      written = 7;
      session = record {
        want_framing = true;
        server = record { framing = false; repeat = support.Unknown; multi_pid = support.Unknown; pid_lengths = mode01_lengths; ecu_counts = set (replicate 256 0) 0x0C 1 };
        last = record { bytes = ascii "010C" ++ replicate 14 0; len = 4 };
        query = record {
          text = record { bytes = ascii "010C" ++ replicate 14 0; len = 4 };
          pids = record { bytes = 0x0C ∷ replicate 5 0; len = 1 };
          several = false;
        };
        pending = record { under = under.Idle; got = 0 };
      };
    }) (0x0C ∷ 0x00 ∷ 0x04 ∷ 0x41 ∷ 0x0C ∷ 0x1A ∷ 0xF8 ∷ 9 ∷ 9 ∷ [])) ∷
    []

-- the values of a reply to 0D and 0C
abbrev in_order : Client → String → List ℕ
in_order c t = (finish_with (query_says 80 c (0x0D ∷ 0x0C ∷ []) 0 true) t).text

-- a session that has learned E0 to have no data
abbrev knows_e0 : Client
knows_e0 = (finish_with (query_says 80 new (0xE0 ∷ []) 0 false) "41E0\r\r>").next

-- document 02 §1: "values now stand by rising PID, and within a PID in reply order"
abbrev pub orders : List Example
orders =
    example "0D and then 0C: 0C stands first" (in_order new "410D20\r410C1AF8\r\r>")
    (0x0C ∷ 0 ∷ 4 ∷ 0x41 ∷ 0x0C ∷ 0x1A ∷ 0xF8 ∷ 0x0D ∷ 0 ∷ 3 ∷ 0x41 ∷ 0x0D ∷ 0x20 ∷ []) ∷
    example "C0 and then 0D on a line: 0D stands first" (in_order new "41C0000000000D20\r\r>")
    (0x0D ∷ 0 ∷ 3 ∷ 0x41 ∷ 0x0D ∷ 0x20 ∷ 0xC0 ∷ 0 ∷ 6 ∷ 0x41 ∷ 0xC0 ∷ 0 ∷ 0 ∷ 0 ∷ 0 ∷ []) ∷
    example "80, which is 00 but for its top bit, and then 0D: 0D stands first" (in_order new "4180010203040D20\r\r>")
    (0x0D ∷ 0 ∷ 3 ∷ 0x41 ∷ 0x0D ∷ 0x20 ∷ 0x80 ∷ 0 ∷ 6 ∷ 0x41 ∷ 0x80 ∷ 1 ∷ 2 ∷ 3 ∷ 4 ∷ []) ∷
    example "FF and then 00: 00 stands first" (in_order new "41FF01\r410000000000\r\r>")
    (0x00 ∷ 0 ∷ 6 ∷ 0x41 ∷ 0x00 ∷ 0 ∷ 0 ∷ 0 ∷ 0 ∷ 0xFF ∷ 0 ∷ 3 ∷ 0x41 ∷ 0xFF ∷ 0x01 ∷ []) ∷
    example "0D, 0C and 0D on a line: 0C stands first, then 0D twice" (in_order new "410D200C1AF80D21\r\r>")
    (0x0C ∷ 0 ∷ 4 ∷ 0x41 ∷ 0x0C ∷ 0x1A ∷ 0xF8 ∷ 0x0D ∷ 0 ∷ 3 ∷ 0x41 ∷ 0x0D ∷ 0x20 ∷ 0x0D ∷ 0 ∷ 3 ∷ 0x41 ∷ 0x0D ∷ 0x21 ∷ []) ∷
    example "card 4's line, of no known ECU, and then 0D of 7E8" (in_order framed "A12\r7E803410D20\r\r>")
    (0x0D ∷ 0xE9 ∷ 0x0F ∷ 0x03 ∷ 0x41 ∷ 0x0D ∷ 0x20 ∷ 0x31 ∷ 0x00 ∷ 0x03 ∷ 0x41 ∷ 0x31 ∷ 0x32 ∷ []) ∷
    example "7E9 and then 7E8, with 0C and 0D in both orders: 7E9's value stands first of each PID" (in_order framed "7E906410D200C1AF8\r7E806410C00010D21\r\r>")
    (0x0C ∷ 0xEA ∷ 0x0F ∷ 0x04 ∷ 0x41 ∷ 0x0C ∷ 0x1A ∷ 0xF8 ∷ 0x0C ∷ 0xE9 ∷ 0x0F ∷ 0x04 ∷ 0x41 ∷ 0x0C ∷ 0x00 ∷ 0x01 ∷
    0x0D ∷ 0xEA ∷ 0x0F ∷ 0x03 ∷ 0x41 ∷ 0x0D ∷ 0x20 ∷ 0x0D ∷ 0xE9 ∷ 0x0F ∷ 0x03 ∷ 0x41 ∷ 0x0D ∷ 0x21 ∷ []) ∷
    example "a PID of a learned length of 0, three times on a line" (in_order knows_e0 "41E0E0E0\r\r>")
    (0xE0 ∷ 0 ∷ 2 ∷ 0x41 ∷ 0xE0 ∷ 0xE0 ∷ 0 ∷ 2 ∷ 0x41 ∷ 0xE0 ∷ 0xE0 ∷ 0 ∷ 2 ∷ 0x41 ∷ 0xE0 ∷ []) ∷
    example "and twice before 0D: 0D stands first" (in_order knows_e0 "41E0E00D20\r\r>")
    (0x0D ∷ 0 ∷ 3 ∷ 0x41 ∷ 0x0D ∷ 0x20 ∷ 0xE0 ∷ 0 ∷ 2 ∷ 0x41 ∷ 0xE0 ∷ 0xE0 ∷ 0 ∷ 2 ∷ 0x41 ∷ 0xE0 ∷ []) ∷
    []

-- 0C and 0D asked, and 0C alone; the session when the reply, of 15 bytes, is complete
abbrev ask_two : ClientSaid
ask_two = query_says 80 new (0x0C ∷ 0x0D ∷ []) 0 true

abbrev ask_one : ClientSaid
ask_one = query_says 80 new (0x0C ∷ []) 0 false

abbrev complete_client : ClientSaid → Client
complete_client s = (reply s.next "410C1AF80D20\r\r>").next

-- its finish with so much room for 13 bytes of values, and with a store of so many bytes, in which the reply's second CR is now a byte of 80
abbrev spoilt : ℕ → ℕ → ClientSaid → ClientSaid
spoilt room size s = finish_says room (complete_client s) (ascii "410C1AF80D20\r" ++ (0x80 ∷ 62 ∷ replicate (size - 15) 0))

-- finishes that get a number
abbrev pub numbered : List Example
numbered =
    example "a finish out of turn, with room for 17 bytes, and of a store that is short or holds a byte of 80"
    ((finish_says 100 new empty_store).answer ∷ (finishing 17 (query_says 80 framed (0xE0 ∷ []) 0 false) alike).answer ∷ (finish_says 100 (with_under new under.Complete 1) (replicate 4095 0)).answer ∷
    (finish_says 100 (with_under new under.Complete 1) (0x80 ∷ empty_store)).answer ∷ [])
    (refused 1 ∷ refused 6 ∷ refused 6 ∷ refused 9 ∷ []) ∷
    example "9 comes after 6 for the store, and before 6 for the output" ((spoilt 13 4095 ask_two).answer ∷ (spoilt 12 4096 ask_two).answer ∷ []) (refused 6 ∷ refused 9 ∷ []) ∷
    example "9 forgets the last query, and 6 does not" ((spoilt 13 4096 ask_two).next.last ∷ (spoilt 13 4095 ask_two).next.last ∷ []) ([] ∷ ascii "010C0D" ∷ []) ∷
    example "9 ends the query" (spoilt 13 4096 ask_two).next.under under.Idle ∷
    example "multi-PID support after 9, of `query_pids` and of `query_pid`, and after 6"
    (map (λ (s : ClientSaid). s.next.server.multi_pid) (spoilt 13 4096 ask_two ∷ spoilt 13 4096 ask_one ∷ spoilt 13 4095 ask_two ∷ [])) (support.No ∷ support.Unknown ∷ support.Unknown ∷ []) ∷
    example "6 for the output leaves the session" (finishing 12 ask_two "410C1AF80D20\r\r>").next (complete_client ask_two) ∷
    example "a byte of 80 past the reply is not looked at" (finish_says 13 (complete_client ask_two) (ascii "410C1AF80D20\r\r>" ++ replicate 4081 0x80)).answer (client_answer (Ok (answer.Values 2))) ∷
    []
