-- Pieces with 00, worked, for any session in which a query's reply or the answer to ATZ is awaited; and that document 02 §2 needs "non-empty" and "within 3's limits".
use mathlib.Core.Path.{◌≡◌, refl, sym, ap, ◌∙◌}
use mathlib.Core.Bool.{false}
use mathlib.Core.List.{List, [], ◌∷◌, ◌++◌}
use mathlib.Core.Option.{get_or}
use Prim.Native.Nat.{ℕ, zero, suc, ◌+◌, ◌≤◌}
use native.Mathlib.Omega.{arith}
use lib.ListN.{length, replicate, take, length-append, length-take}
use lib.Seq.{sets}
use Rattle.wire.specs.Answer.{Answer, result, unless}
use Rattle.wire.specs.Text.{ascii, has, high, without_nulls}
use Rattle.wire.proofs.Cases.{from_no}
use Rattle.wire.proofs.TextLaws.{has-append, high-append}
use Rattle.client_session.specs.declared.Command.{Command}
use Rattle.client_session.specs.declared.Command.TheVariants.{Reset, Query}
use Rattle.client_session.specs.declared.Under.TheVariants.{Idle, Awaiting, Complete}
use Rattle.client_session.specs.Session.{Client, with_under, with_last_query}
use Rattle.client_session.specs.Call.{Progress, awaited, complete, ClientSaid, client_saying, client_refusing, client_failing}
use Rattle.client_session.specs.Piece.{send_setup, reply_in, reply_takes, piece_limit, piece_arrives, piece_says, store_after}
use Rattle.client_session.specs.Conversation.{Outcome, replaced_piece, NothingElse}
use Rattle.client_session.proofs.PieceLaws.{takes_on, piece_arrives_lem}
use Rattle.client_session.proofs.StoreLaws.{reply_in_lem}
use Rattle.client_session.proofs.ConversationLaws.{slipped-says}

abbrev nulls : ℕ → List ℕ
nulls n = replicate n 0

nulls-before : (n : ℕ) (s : List ℕ) → without_nulls (nulls n ++ s) ≡ without_nulls s
nulls-before zero s = refl
nulls-before (suc n) s = nulls-before n s

-- the reply to a query is awaited, or the answer to ATZ, and the store holds so many bytes of it
abbrev query : Client → ℕ → Client
query c got = with_under c (Awaiting Query) got

abbrev reset : Client → ℕ → Client
reset c got = with_under c (Awaiting Reset) got

-- a query's reply that is complete, and a query that a bare CR would repeat
abbrev answered : Client → ℕ → Client
answered c got = with_under (with_last_query c c.query.text) Complete got

module _ (c : Client) (got room : ℕ) (store : List ℕ) where
  -- 1: nothing is under way, or a reply is complete
  idle : piece_says room (with_under c Idle got) (nulls 1) store ≡ client_refusing (with_under c Idle got) 1
  unfolding piece_says
  idle = refl

  not_finished : piece_says room (with_under c Complete got) (nulls 1) store ≡ client_refusing (with_under c Complete got) 1
  unfolding piece_says
  not_finished = refl

  -- 3 counts 00
  over_128 : piece_says room (query c got) (nulls 129) store ≡ client_refusing (query c got) 3
  unfolding piece_says unless
  over_128 = refl

  prompt_129 : piece_says room (query c got) (nulls 128 ++ (62 ∷ [])) store ≡ client_refusing (query c got) 3
  unfolding piece_says unless
  prompt_129 = refl

  over_256 : piece_says room (reset c got) (nulls 257) store ≡ client_refusing (reset c got) 3
  unfolding piece_says unless
  over_256 = refl

  -- 6 comes before 00 alone
  small_out : piece_says 79 (query c got) (nulls 1) store ≡ client_refusing (query c got) 6
  unfolding piece_says unless
  small_out = refl

module _ (c : Client) (room : ℕ) (store : List ℕ) (out : 80 ≤ room) (size : 4096 ≤ length store) where
  arrives : (k : Command) (got : ℕ) (p : List ℕ) → length p ≤ piece_limit k →
      piece_says room (with_under c (Awaiting k) got) p store ≡ piece_arrives k (with_under c (Awaiting k) got) p store
  arrives k got p short = piece_arrives_lem room (with_under c (Awaiting k) got) p store refl out size short

  -- 00 alone has not arrived, whatever the store holds of the reply
  alone : (got : ℕ) → piece_says room (query c got) (nulls 1) store ≡ client_saying awaited (query c got) []
  alone got = arrives Query got (nulls 1) (omega arith)

  alone_128 : (got : ℕ) → piece_says room (query c got) (nulls 128) store ≡ client_saying awaited (query c got) []
  alone_128 got = arrives Query got (nulls 128) (omega arith)

  alone_256 : (got : ℕ) → piece_says room (reset c got) (nulls 256) store ≡ client_saying awaited (reset c got) []
  alone_256 got = arrives Reset got (nulls 256) (omega arith)

  -- an empty piece: 7
  empty : (got : ℕ) → piece_says room (query c got) [] store ≡ client_failing (query c got) 7
  unfolding reply_takes unless
  empty got = arrives Query got [] (omega arith)

  -- while ATZ's answer is awaited, it is dropped, as one with another byte than 00 is: ATE0 goes out
  reset_empty : (got : ℕ) → piece_says room (reset c got) [] store ≡ send_setup (reset c got) 0
  reset_empty got = arrives Reset got [] (omega arith)

  reset-other : (got : ℕ) → piece_says room (reset c got) (0 ∷ 120 ∷ []) store ≡ send_setup (reset c got) 0
  reset-other got = arrives Reset got (0 ∷ 120 ∷ []) (omega arith)

  setup_first : (send_setup c 0).text ≡ ascii "ATE0\r"
  setup_first = refl

  -- with 4,096 bytes 00 alone is no byte more, and 00 0D is one: 8
  alone_4096 : piece_says room (query c 4096) (nulls 2) store ≡ client_saying awaited (query c 4096) []
  alone_4096 = arrives Query 4096 (nulls 2) (omega arith)

  over_4096 : piece_says room (query c 4096) (0 ∷ 13 ∷ []) store ≡ client_failing (query c 4096) 8
  unfolding reply_takes unless
  over_4096 = arrives Query 4096 (0 ∷ 13 ∷ []) (omega arith)

  -- with fewer, none of them a prompt or 80 or more, 127 of 00 and 0D are one more
  one_more : (got : ℕ) → got + 1 ≤ 4096 → high (take got store) ≡ false → has 62 (take got store) ≡ false →
      piece_says room (query c got) (13 ∷ []) store ≡ client_saying awaited (query c (got + 1)) []
  unfolding has high
  one_more got few low more =
      let r = take got store in
      let e : reply_in (query c got) store ++ (13 ∷ []) ≡ r ++ (13 ∷ []) = ap (λ t. t ++ (13 ∷ [])) (reply_in_lem (query c got) store (omega arith)) in
      let n : length (reply_in (query c got) store ++ (13 ∷ [])) ≡ got + 1 = ap length e ∙ omega (arith, length-append r (13 ∷ []), length-take got store) in
      let h : high (r ++ (13 ∷ [])) ≡ false = high-append r (13 ∷ []) ∙ rw low in
      let m : has 62 (r ++ (13 ∷ [])) ≡ false = has-append 62 r (13 ∷ []) ∙ rw more in
      arrives Query got (13 ∷ []) (omega arith) ∙ takes_on Query (query c got) (13 ∷ []) store (λ z. omega arith) few (ap high e ∙ h) ∙ rw (ap (has 62) e ∙ m, n)

  last_byte : high (take 4095 store) ≡ false → has 62 (take 4095 store) ≡ false →
      piece_says room (query c 4095) (nulls 127 ++ (13 ∷ [])) store ≡ client_saying awaited (query c 4096) []
  last_byte low more =
      slipped-says room (query c 4095) (nulls 127 ++ (13 ∷ [])) (13 ∷ []) store
      (record { non_empty = (omega arith, omega arith); in_limits = (refl, refl); same_otherwise = nulls-before 127 (13 ∷ []) }) ∙
      one_more 4095 (omega arith) low more

  last_stored : store_after (query c 4095) (result awaited) (nulls 127 ++ (13 ∷ [])) store ≡ sets store 4095 (13 ∷ [])
  last_stored = ap (sets store 4095) (nulls-before 127 (13 ∷ []))

  -- 127 bytes of 00 and the prompt complete a reply
  prompt_128 : piece_says room (query c 0) (nulls 127 ++ (62 ∷ [])) store ≡ client_saying complete (answered c 1) []
  unfolding reply_takes unless has high
  prompt_128 = arrives Query 0 (nulls 127 ++ (62 ∷ [])) (omega arith)

  -- a whole reply with 00 in it
  abbrev reply : List ℕ
  reply = 55 ∷ 0 ∷ 69 ∷ 56 ∷ 48 ∷ 51 ∷ 0 ∷ 32 ∷ 52 ∷ 49 ∷ 48 ∷ 68 ∷ 50 ∷ 0 ∷ 48 ∷ 13 ∷ 0 ∷ 13 ∷ 62 ∷ []

  whole : piece_says room (query c 0) reply store ≡ client_saying complete (answered c 15) []
  unfolding reply_takes unless has high
  whole = arrives Query 0 reply (omega arith)

  whole-stored : store_after (query c 0) (result complete) reply store ≡ sets store 0 (ascii "7E803 410D20\r\r>")
  whole-stored = refl

-- a store that the host wrote 80 or a prompt to: 00 alone is not looked at, and the next byte is
module _ (c : Client) (room : ℕ) (rest : List ℕ) (out : 80 ≤ room) (size : 4095 ≤ length rest) where
  high_alone : piece_says room (query c 1) (nulls 1) (128 ∷ rest) ≡ client_saying awaited (query c 1) []
  high_alone = alone c room (128 ∷ rest) out (omega arith) 1

  high-next : piece_says room (query c 1) (0 ∷ 65 ∷ []) (128 ∷ rest) ≡ client_failing (query c 1) 9
  unfolding reply_takes unless high
  high-next = arrives c room (128 ∷ rest) out (omega arith) Query 1 (0 ∷ 65 ∷ []) (omega arith)

  prompt_alone : piece_says room (query c 1) (nulls 1) (62 ∷ rest) ≡ client_saying awaited (query c 1) []
  prompt_alone = alone c room (62 ∷ rest) out (omega arith) 1

  prompt_next : piece_says room (query c 1) (0 ∷ 65 ∷ []) (62 ∷ rest) ≡ client_saying complete (answered c 2) []
  unfolding reply_takes unless has high
  prompt_next = arrives c room (62 ∷ rest) out (omega arith) Query 1 (0 ∷ 65 ∷ []) (omega arith)

-- ---- the premises are needed

-- the answer of the first step
abbrev first_answer : List Outcome → Answer Progress
first_answer [] = result awaited
first_answer (o ∷ os) = get_or o.answer (result awaited)

-- if nothing else changes, a piece and the one in its place have the same answer
same_answer : (c : Client) (store p q out : List ℕ) {d e : ClientSaid} → NothingElse c store (replaced_piece p q out ∷ []) → piece_says (length out) c p store ≡ d →
    piece_says (length out) c q store ≡ e →
    e.answer ≡ d.answer
same_answer c store p q out h r s = ap (λ (x : ClientSaid). x.answer) (sym s) ∙ ap first_answer h.own ∙ ap (λ (x : ClientSaid). x.answer) r

module _ (c : Client) (store out : List ℕ) (room : 80 ≤ length out) (size : 4096 ≤ length store) where
  -- "non-empty": 00 slipped into an empty piece turns 7 into an awaited reply
  needs_some : (got : ℕ) → NothingElse (query c got) store (replaced_piece [] (nulls 1) out ∷ []) → ⊥
  needs_some got h =
      let z = same_answer (query c got) store [] (nulls 1) out h (empty c (length out) store room size got) (alone c (length out) store room size got) in
      from_no (cc)

  -- "within 3's limits": 00 added to a piece of 128 bytes gets 3
  abbrev full : List ℕ
  full = replicate 128 65

  full_taken : piece_says (length out) (query c 0) full store ≡ client_saying awaited (query c 128) []
  unfolding reply_takes unless has high
  full_taken = arrives c (length out) store room size Query 0 full (omega arith)

  full_over : piece_says (length out) (query c 0) (0 ∷ full) store ≡ client_refusing (query c 0) 3
  unfolding piece_says unless
  full_over = refl

  needs_limit : NothingElse (query c 0) store (replaced_piece full (0 ∷ full) out ∷ []) → ⊥
  needs_limit h = let z = same_answer (query c 0) store full (0 ∷ full) out h full_taken full_over in from_no (cc)
