-- What the bench run's delivery of a reply comes to, whatever the piece lengths: a reply of at most 4,096 bytes completes, a longer one gets 8.
use mathlib.Core.Path.{◌≡◌, refl, sym, ap, subst, ◌∙◌}
use mathlib.Core.Bool.{true, false, cond}
use mathlib.Core.List.{List, [], ◌∷◌, ◌++◌, append_assoc}
use Prim.Native.Nat.{ℕ, ◌+◌, ◌≤◌, ◌<◌}
use native.Mathlib.Omega.{arith}
use lib.Dec.{eqb, leb, ltb}
use lib.ListN.{length, take, length-append}
use lib.Seq.{sets}
use borrow.Author.Tests.{ltb-true, ltb-false}
use Rattle.wire.specs.Answer.{refused}
use Rattle.wire.specs.Text.{has, high, joined}
use Rattle.wire.proofs.Cases.{by_test, or_none_lem}
use Rattle.wire.proofs.TextLaws.{has-append, high-append}
use Rattle.hex_text.specs.Digits.{hex_digit}
use Rattle.line_list.specs.Lines.{Line}
use Rattle.reply.specs.Reply.{reply_text}
use Rattle.reply.proofs.ByteLaws.{reply_body, reply_prompt, body_none, body_prompt, body_nulls}
use Rattle.client_session.specs.declared.Command.{Command}
use Rattle.client_session.specs.declared.Under.TheVariants as under
use Rattle.client_session.specs.Session.{Client, with_under}
use Rattle.client_session.specs.Call.{ClientSaid, client_failing}
use Rattle.client_session.specs.Piece.{completed, reply_in, piece_says, store_after}
use Rattle.client_session.specs.Pieces.{awaits, Fed, fed}
use Rattle.client_session.proofs.PieceLaws.{takes_too_much, piece_joined}
use Rattle.client_session.proofs.StoreLaws.{store_holds, reply_in_lem}
use Rattle.client_session.proofs.PiecesLaws as in_pieces
use Rattle.client_session.proofs.PiecesLaws.{Sized, Awaiting, Plainly, prompted, piece_more, piece_stored, awaiting_more, all_of_it, piece_without_null}
use Rattle.bench.specs.Deliver.{pieces}
use Rattle.bench.specs.Steps.{delivered}
use Rattle.bench.proofs.PiecesLaws.{pieces-sized, pieces-joined}
use Rattle.bench.specs.Run.{send_room}

none_yet : has 62 [] ≡ false
unfolding has
none_yet = refl

-- a reply whose last byte alone is a prompt: the session comes out as it completes the whole reply, which stands at the front of the store
pub arrives : (k : Command) (c : Client) (store ks body : List ℕ) → Awaiting send_room k c store [] → Plainly body →
    ((delivered send_room c store ks (prompted body)).said ≡ completed k c (prompted body)) ×
    ((delivered send_room c store ks (prompted body)).store ≡ sets store 0 (prompted body))
unfolding delivered
arrives k c store ks body w ok =
    let r = prompted body in
    let e = in_pieces.delivered send_room k c store [] (pieces ks r) body w ok (pieces-sized ks r) none_yet (pieces-joined ks r) in (
      ap (λ (f : Fed). f.said) e,
      ap (λ (f : Fed). f.store) e ∙ (λ i. sets store (w.got i) (pieces-joined ks r i)),
    )

-- so a session that has counted the whole reply reads it there
pub reply_stands : (c : Client) (store r : List ℕ) → c.got ≡ length r → length r ≤ 4096 → 4096 ≤ length store → reply_in c (sets store 0 r) ≡ r
reply_stands c store r n short size =
    let m : c.got ≡ 0 + length r = omega arith in
    reply_in_lem c (sets store 0 r) (omega arith) ∙ ap (λ k. take k (sets store 0 r)) m ∙ store_holds store 0 r (omega arith)

-- ---- a reply that is too long

-- it gets 8, and nothing is sent
abbrev pub TooLong : ClientSaid → Type 0
TooLong d = (d.answer ≡ refused 8) × (d.text ≡ [])

-- a piece p of such a reply, of which the store holds st and the pieces ps are still to come
module _ (room : ℕ) (k : Command) (c : Client) (store st p : List ℕ) (ps : List (List ℕ)) (body : List ℕ)
    (w : Awaiting room k c store st) (prompt : has 62 body ≡ false) (low : high body ≡ false) (nulls : has 0 body ≡ false) (long : 4096 ≤ length body)
    (z : Sized (p ∷ ps)) (q : st ++ joined (p ∷ ps) ≡ prompted body) where
  rest : (st ++ p) ++ joined ps ≡ prompted body
  rest = append_assoc st p (joined ps) ∙ q

  no_null : has 0 p ≡ false
  no_null = piece_without_null st p (joined ps) body nulls rest

  abbrev step : ClientSaid → Fed
  step d = let s = store_after c d.answer p store in cond (awaits d.answer) (fed room d.next s ps) (record { said = d; store = s; left = ps })

  -- the first with which the reply is too long gets 8
  past : 4096 < length st + length p → TooLong (fed room c store (p ∷ ps)).said
  past h =
      let e : piece_says room c p store ≡ client_failing c 8 =
      piece_joined room c p store w.turn w.reply w.out w.size z.0 z.1 no_null ∙ takes_too_much k c p store (λ n. omega (arith, z.0)) (omega (arith, w.got)) in
      (ap (λ (d : ClientSaid). (step d).said.answer) e, ap (λ (d : ClientSaid). (step d).said.text) e)

  module _ (fits : length st + length p ≤ 4096) where
    low_yet : high (st ++ p) ≡ false
    unfolding high
    low_yet = (or_none_lem (high (st ++ p)) (high (joined ps)) (sym (high-append (st ++ p) (joined ps)) ∙ ap high rest ∙ high-append body (62 ∷ []) ∙ rw low)).0

    -- one before it does not hold the prompt
    none_in : has 62 (st ++ p) ≡ false
    none_in =
        by_test (has 62 (st ++ p))
        (λ e.
        let empty = all_of_it (st ++ p) (joined ps) body prompt rest e in
        absurd (omega (arith, ap length rest, ap length empty, length-append (st ++ p) (joined ps), length-append st p, length-append body (62 ∷ []))))
        (λ e. e)

    within : (fed room c store (p ∷ ps)).said ≡ (fed room (with_under c (under.Awaiting k) (length (st ++ p))) (sets store c.got p) ps).said
    within =
        let d = piece_more room k c store st p w z.0 z.1 fits low_yet no_null none_in in
        let s = piece_stored room k c store st p w z.0 z.1 fits low_yet no_null in
        λ i. (cond (awaits (d i).answer) (fed room (d i).next (s i) ps) (record { said = d i; store = s i; left = ps })).said

    later : Awaiting room k (with_under c (under.Awaiting k) (length (st ++ p))) (sets store c.got p) (st ++ p)
    later = awaiting_more room k c store st p w z.0 z.1 fits low_yet no_null

fed-overflows : (room : ℕ) (k : Command) (c : Client) (store st : List ℕ) (ps : List (List ℕ)) (body : List ℕ) → Awaiting room k c store st →
    has 62 body ≡ false → high body ≡ false → has 0 body ≡ false → 4096 ≤ length body → length st ≤ 4096 → Sized ps → st ++ joined ps ≡ prompted body → TooLong (fed room c store ps).said
fed-overflows room k c store st [] body w prompt low nulls long few z q = absurd (omega (arith, ap length q, length-append st [], length-append body (62 ∷ [])))
fed-overflows room k c store st (p ∷ ps) body w prompt low nulls long few z q =
    by_test (ltb 4096 (length st + length p))
    (λ t. past room k c store st p ps body w prompt low nulls long z q (ltb-true 4096 (length st + length p) t))
    (λ t.
    let fits = ltb-false 4096 (length st + length p) t in
    subst TooLong (sym (within room k c store st p ps body w prompt low nulls long z q fits))
    (fed-overflows room k _ _ (st ++ p) ps body (later room k c store st p ps body w prompt low nulls long z q fits) prompt low nulls long
    (omega (arith, length-append st p)) z.2 (rest room k c store st p ps body w prompt low nulls long z q)))

-- a reply of more than 4,096 bytes gets 8
pub overflows : (k : Command) (c : Client) (store ks body : List ℕ) → Awaiting send_room k c store [] → has 62 body ≡ false → high body ≡ false → has 0 body ≡ false → 4096 ≤ length body →
    TooLong (delivered send_room c store ks (prompted body)).said
unfolding delivered
overflows k c store ks body w prompt low nulls long =
    let r = prompted body in
    fed-overflows send_room k c store [] (pieces ks r) body w prompt low nulls long (omega arith) (pieces-sized ks r) (pieces-joined ks r)

-- ---- what the server replies with

-- in the settings of a framed initialisation, to lines or to none
body_low : (ls : List Line) → high (reply_body false false true ls) ≡ false
unfolding high hex_digit
body_low ls = body_none (leb 128) tt refl false false true ls

body_length : (ls : List Line) → length (reply_text false false true ls) ≡ length (reply_body false false true ls) + 1
body_length ls = ap length (reply_prompt false false true ls) ∙ length-append (reply_body false false true ls) (62 ∷ [])

pub plainly : (ls : List Line) → length (reply_text false false true ls) ≤ 4096 → Plainly (reply_body false false true ls)
plainly ls h = record { prompt = body_prompt false false true ls; low = body_low ls; nulls = body_nulls false false true ls; short = omega (arith, body_length ls) }

-- no `?` stands in it
pub no_question : (ls : List Line) → has 63 (reply_text false false true ls) ≡ false
unfolding has hex_digit
no_question ls = ap (has 63) (reply_prompt false false true ls) ∙ has-append 63 (reply_body false false true ls) (62 ∷ []) ∙ rw (body_none (λ c. eqb c 63) tt refl false false true ls)

-- and a reply to lines, or to none, gets 8 when it has more than 4,096 bytes
module _ (k : Command) (c : Client) (store ks : List ℕ) (w : Awaiting send_room k c store []) (ls : List Line) where
  pub reply-overflows : 4096 < length (reply_text false false true ls) → TooLong (delivered send_room c store ks (reply_text false false true ls)).said
  reply-overflows h =
      rw (reply_prompt false false true ls)
      (overflows k c store ks (reply_body false false true ls) w (body_prompt false false true ls) (body_low ls) (body_nulls false false true ls) (omega (arith, body_length ls)))
