-- Examples of 00 bytes on the serial line. Document 02 §2; what is expected follows from its sentences and document 01's alone.
use Rattle.std.specs.Prelude.{true, false, List, [], ◌∷◌, ◌++◌, map, ℕ, ◌-◌, length, replicate, Some, None}
use Rattle.wire.specs.Answer.{result, refused}
use Rattle.wire.specs.Text.{ascii, without_nulls}
use Rattle.line_list.specs.Lines.{line}
use Rattle.reply_lines.specs.Lines.{text_lines}
use Rattle.reply_lines.specs.Decode.{text_line, lines_of_reply}
use Rattle.reply_lines.specs.Reader.{text_step, line_from, past_step, step_text}
use Rattle.reply_values.specs.Read.{read_reply}
use Rattle.client_session.specs.declared.Command.TheVariants as command
use Rattle.client_session.specs.declared.Under.TheVariants as under
use Rattle.client_session.specs.Session.{Client, with_under}
use Rattle.client_session.specs.Call.{awaited, complete, ClientSaid, client_saying}
use Rattle.client_session.specs.Start.{init_says, query_says}
use Rattle.client_session.specs.Piece.{piece_says, store_after}
use Rattle.client_session.specs.Pieces.{fed}
use Rattle.client_session.specs.Finish.{finish_says}
use Rattle.cards.specs.Example.{Example, example}
use Rattle.cards.specs.Client.{empty_store, full_store, new, in_pieces}
use Rattle.cards.specs.Learning.{framed}

-- ---- the lines of a reply

-- `4`, 00, `1`: a pair, with 00 and white space around it, before a line of 00 alone and the prompt's
abbrev spread : List ℕ
spread = 0x00 ∷ 0x20 ∷ 0x34 ∷ 0x00 ∷ 0x31 ∷ 0x00 ∷ 0x09 ∷ 0x0D ∷ 0x00 ∷ 0x0D ∷ 0x3E ∷ []

-- ---- a query of 0D under way, framed or not, with so many bytes of its reply in the store

abbrev framed_query : Client
framed_query = (query_says 80 framed (0x0D ∷ []) 0 false).next

abbrev holding : ℕ → Client
holding n = with_under framed_query (under.Awaiting command.Query) n

-- `7E803 410D20` CR CR `>` with 00 slipped in
abbrev slipped : List ℕ
slipped =
    0x37 ∷ 0x00 ∷ 0x45 ∷ 0x38 ∷ 0x30 ∷ 0x33 ∷ 0x00 ∷ 0x20 ∷ 0x34 ∷ 0x31 ∷ 0x30 ∷ 0x44 ∷ 0x32 ∷ 0x00 ∷ 0x30 ∷ 0x0D ∷ 0x00 ∷ 0x0D ∷ 0x3E ∷ []

abbrev heard : ClientSaid
heard = piece_says 80 framed_query slipped empty_store

abbrev heard_store : List ℕ
heard_store = store_after framed_query heard.answer slipped empty_store

-- so many 00, and then some bytes
abbrev nulls_then : ℕ → List ℕ → List ℕ
nulls_then n s = replicate n 0x00 ++ s

-- a store that starts with some bytes
abbrev storing : List ℕ → List ℕ
storing s = s ++ replicate (4096 - length s) 9

-- ATZ is sent
abbrev resetting : Client
resetting = (init_says 80 new).next

-- a finish over what the host wrote to the store
abbrev finish_over : Client → List ℕ → List ℕ
finish_over c reply = (finish_says 100 (with_under c under.Complete (length reply)) (storing reply)).text

abbrev pub nulls : List Example
nulls =
    example "00 goes with white space at both ends of a line" (text_lines (0x00 ∷ 0x20 ∷ 0x00 ∷ 0x09 ∷ 0x41 ∷ 0x00 ∷ [])) ((0x41 ∷ []) ∷ []) ∷
    example "and a line of 00 and white space is none" (text_lines (0x00 ∷ 0x0D ∷ 0x00 ∷ 0x20 ∷ 0x00 ∷ 0x0D ∷ 0x3E ∷ [])) [] ∷
    example "a pair closes up across a 00, and not across a tab" (lines_of_reply false (0x34 ∷ 0x00 ∷ 0x31 ∷ []) ∷ lines_of_reply false (0x34 ∷ 0x09 ∷ 0x31 ∷ []) ∷ [])
    ((line 0 (0x41 ∷ []) ∷ []) ∷ (line 0 [] ∷ []) ∷ []) ∷
    example "four characters count as four" (lines_of_reply true (0x41 ∷ 0x00 ∷ 0x31 ∷ 0x32 ∷ 0x00 ∷ 0x0D ∷ [])) (line 0 (0x41 ∷ 0x31 ∷ 0x32 ∷ []) ∷ []) ∷
    example "an id and a length byte close up" (lines_of_reply true (0x37 ∷ 0x00 ∷ 0x45 ∷ 0x38 ∷ 0x30 ∷ 0x00 ∷ 0x33 ∷ 0x34 ∷ 0x00 ∷ 0x31 ∷ [])) (line 0x7E9 (0x41 ∷ []) ∷ []) ∷
    example "a reader's line starts and ends past 00 and white space, and the next is looked for past its CR" (line_from spread 0) (text_step (Some (record { start = 2; end = 5; next = 8 }))) ∷
    example "there is none" (line_from spread 8) (text_step None) ∷
    example "a 00 inside is a part of the line's text" (past_step 0 (line_from spread 0) ∷ step_text spread (line_from spread 0)) (8 ∷ 0x34 ∷ 0x00 ∷ 0x31 ∷ []) ∷
    example "which decodes without it" (text_line false (0x34 ∷ 0x00 ∷ 0x31 ∷ [])) (line 0 (0x41 ∷ [])) ∷
    example "a text without its 00" (without_nulls slipped) (ascii "7E803 410D20\r\r>") ∷
    example "00 alone: awaited, and the session is as it was" (piece_says 80 framed_query (0x00 ∷ []) empty_store) (client_saying awaited framed_query []) ∷
    example "and so is the store" (store_after framed_query (result awaited) (0x00 ∷ 0x00 ∷ []) full_store) full_store ∷
    example "00 slipped into a reply: it is complete" heard.answer (result complete) ∷
    example "its 15 bytes are in the store, which past them is as it was" (heard_store) (ascii "7E803 410D20\r\r>" ++ replicate 4081 0) ∷
    example "and are counted" heard.next.got 15 ∷
    example "its value" (finish_says 100 heard.next heard_store).text (0x0D ∷ 0xE9 ∷ 0x0F ∷ 0x03 ∷ 0x41 ∷ 0x0D ∷ 0x20 ∷ []) ∷
    example "129 bytes of 00, 128, 128 and a prompt, 127 and a prompt"
    (map (λ (p : List ℕ). (piece_says 80 framed_query p empty_store).answer) (nulls_then 129 [] ∷ nulls_then 128 [] ∷ nulls_then 128 (62 ∷ []) ∷ nulls_then 127 (62 ∷ []) ∷ []))
    (refused 3 ∷ result awaited ∷ refused 3 ∷ result complete ∷ []) ∷
    example "with 4,096 bytes in the store: 00 alone, and 00 before a CR"
    ((piece_says 80 (holding 4096) (0x00 ∷ 0x00 ∷ []) full_store).answer ∷ (piece_says 80 (holding 4096) (0x00 ∷ 0x0D ∷ []) full_store).answer ∷ []) (result awaited ∷ refused 8 ∷ []) ∷
    example "with 4,095: 127 bytes of 00 and a CR" (piece_says 80 (holding 4095) (nulls_then 127 (0x0D ∷ [])) full_store) (client_saying awaited (holding 4096) []) ∷
    example "an empty piece is 7" (piece_says 80 framed_query [] empty_store).answer (refused 7) ∷
    example "00 alone out of turn, with an out of 79 bytes, and with a store of 4,095"
    ((piece_says 80 new (0x00 ∷ []) empty_store).answer ∷ (piece_says 80 heard.next (0x00 ∷ []) empty_store).answer ∷ (piece_says 79 framed_query (0x00 ∷ []) empty_store).answer ∷
    (piece_says 80 framed_query (0x00 ∷ []) (replicate 4095 0)).answer ∷ [])
    (refused 1 ∷ refused 1 ∷ refused 6 ∷ refused 6 ∷ []) ∷
    example "a byte of 80 in the store: 00 alone, and 00 before another byte"
    ((piece_says 80 (holding 1) (0x00 ∷ []) (storing (0x80 ∷ []))).answer ∷ (piece_says 80 (holding 1) (0x00 ∷ 0x41 ∷ []) (storing (0x80 ∷ []))).answer ∷ [])
    (result awaited ∷ refused 9 ∷ []) ∷
    example "a prompt in the store: the same"
    ((piece_says 80 (holding 1) (0x00 ∷ []) (storing (62 ∷ []))).answer ∷ (piece_says 80 (holding 1) (0x00 ∷ 0x41 ∷ []) (storing (62 ∷ []))).answer ∷ [])
    (result awaited ∷ result complete ∷ []) ∷
    example "while ATZ's answer is awaited: 00 alone" (piece_says 80 resetting (nulls_then 256 []) empty_store) (client_saying awaited resetting []) ∷
    example "257 bytes of it, and of an answer" ((piece_says 80 resetting (nulls_then 257 []) empty_store).answer ∷ (piece_says 80 resetting (nulls_then 256 (0x78 ∷ [])) empty_store).answer ∷ [])
    (refused 3 ∷ refused 3 ∷ []) ∷
    example "00 and an `x`, and an empty piece" (map (λ (p : List ℕ). (piece_says 80 resetting p empty_store).text) ((0x00 ∷ 0x78 ∷ []) ∷ [] ∷ [])) (ascii "ATE0\r" ∷ ascii "ATE0\r" ∷ []) ∷
    example "pieces of 00 alone among others" (fed 80 (query_says 80 new (0x0C ∷ []) 0 false).next empty_store ((0x00 ∷ []) ∷ in_pieces)).said.next.got 11 ∷
    example "a finish over what the host wrote: card 4's line, and pairs"
    (finish_over framed_query (0x00 ∷ 0x41 ∷ 0x31 ∷ 0x32 ∷ 0x00 ∷ 0x00 ∷ 0x0D ∷ 0x3E ∷ []) ∷
    finish_over (query_says 80 new (0x0D ∷ []) 0 false).next (0x34 ∷ 0x00 ∷ 0x31 ∷ 0x20 ∷ 0x30 ∷ 0x44 ∷ 0x20 ∷ 0x32 ∷ 0x00 ∷ 0x30 ∷ 0x0D ∷ 0x3E ∷ []) ∷ [])
    ((0x31 ∷ 0x00 ∷ 0x03 ∷ 0x41 ∷ 0x31 ∷ 0x32 ∷ []) ∷ (0x0D ∷ 0x00 ∷ 0x03 ∷ 0x41 ∷ 0x0D ∷ 0x20 ∷ []) ∷ []) ∷
    example "a lent reply of 4,096 bytes of 00, and of one more" (map (λ (t : List ℕ). (read_reply new.server (0x0D ∷ []) false t []).answer) (replicate 4096 0 ∷ replicate 4097 0 ∷ []))
    (result 0 ∷ refused 8 ∷ []) ∷
    []
