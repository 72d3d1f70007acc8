-- Document 02 §2: "00 slipped into non-empty pieces within 3's limits, or pieces of 00 alone added, change no other answer of the client, nor session or buffer."
use mathlib.Core.Path.{◌≡◌, refl, sym, ap, subst, ◌∙◌}
use mathlib.Core.Bool.{true, false, not, ◌||◌}
use mathlib.Core.List.{List, [], ◌∷◌}
use Prim.Native.Nat.{ℕ, ◌≤◌, ◌<◌}
use native.Mathlib.Omega.{arith}
use lib.Dec.{eqb, ltb}
use lib.ListN.{length}
use borrow.Author.Tests.{le-ltb, lt-ltb, ltb-false}
use Rattle.wire.specs.Answer.{Answer, result, refused, unless}
use Rattle.wire.specs.Text.{without_nulls}
use Rattle.wire.proofs.Cases.{by_test}
use Rattle.wire.proofs.PassingLaws.{passing-length, passing_again}
use Rattle.client_session.specs.declared.Under.{Under}
use Rattle.client_session.specs.declared.Under.TheVariants.{Idle, Awaiting, Complete}
use Rattle.client_session.specs.Session.{Client, when_awaiting}
use Rattle.client_session.specs.Call.{Progress, awaited}
use Rattle.client_session.specs.Piece.{piece_limit, nulls_alone, piece_says, store_after}
use Rattle.client_session.specs.Conversation.{piece, Outcome, called, outcome, conversation, Edit, unedited, replaced_piece, added_piece, original, edited}
use Rattle.client_session.specs.Conversation.{over_limit, SlippedInto, OnlyNulls, own_outcomes, of_nulls_alone, Untouched, AddedUntouched, NothingElse}
use Rattle.client_session.proofs.NullLaws.{alone_nothing}
use Rattle.client_session.proofs.StoreLaws.{store_kept}

-- ---- two pieces that differ in 00 alone, neither empty nor over 3's limit, say the same and leave the same store

alone_by : (p : List ℕ) → 0 < length p → nulls_alone p ≡ eqb (length (without_nulls p)) 0
alone_by p h = rw (lt-ltb 0 (length p) h)

module _ (room : ℕ) (c : Client) (p q store : List ℕ) (h : SlippedInto c p q) where
  says_at : (u : Under) → c.under ≡ u → piece_says room c p store ≡ piece_says room c q store
  unfolding piece_says unless
  says_at Idle e = rw e
  says_at (Awaiting k) e =
      let before : ltb (piece_limit k) (length p) ≡ false = rw e at h.in_limits.0 in
      let after : ltb (piece_limit k) (length q) ≡ false = rw e at h.in_limits.1 in
      rw (e, before, after, alone_by p h.non_empty.0, alone_by q h.non_empty.1, h.same_otherwise)
  says_at Complete e = rw e

  pub slipped-says : piece_says room c p store ≡ piece_says room c q store
  slipped-says = says_at c.under refl

stored_same : (c : Client) (a : Answer Progress) (p q store : List ℕ) → without_nulls p ≡ without_nulls q → store_after c a p store ≡ store_after c a q store
stored_same c (refused n) p q store e = refl
stored_same c (result r) p q store e = rw e

pub slipped-same : (c : Client) (p q store out : List ℕ) → SlippedInto c p q → outcome c store (piece p out) ≡ outcome c store (piece q out)
slipped-same c p q store out h =
    let e = slipped-says (length out) c p q store h in
    (λ i. called (e i) out (store_after c (e i).answer p store)) ∙
    ap (called (piece_says (length out) c q store) out) (stored_same c (piece_says (length out) c q store).answer p q store h.same_otherwise)

-- so a piece that has another byte than 00 comes to what it comes to without its 00: "The Rust is compared on the same pieces without the 00 bytes"
shorter_within : (c : Client) (p q : List ℕ) → length q ≤ length p → over_limit c p ≡ false → over_limit c q ≡ false
shorter_within c p q h e = within_at c.under e
  where
    within_at : (u : Under) → when_awaiting u false (λ k. ltb (piece_limit k) (length p)) ≡ false → when_awaiting u false (λ k. ltb (piece_limit k) (length q)) ≡ false
    within_at Idle e = refl
    within_at (Awaiting k) e = le-ltb (piece_limit k) (length q) (omega (arith, ltb-false (piece_limit k) (length p) e))
    within_at Complete e = refl

pub without_slipped : (c : Client) (p : List ℕ) → over_limit c p ≡ false → 0 < length (without_nulls p) → SlippedInto c (without_nulls p) p
without_slipped c p e h =
    let shorter = passing-length (λ b. not (eqb b 0)) p in
    record {
      non_empty = (h, omega arith);
      in_limits = (shorter_within c p (without_nulls p) shorter e, e);
      same_otherwise = passing_again (λ b. not (eqb b 0)) p;
    }

-- ---- a piece of 00 alone leaves session and buffers

module _ (c : Client) (n store out : List ℕ) (alone : nulls_alone n ≡ true) where
  untouched_by : (a : Answer Progress) → of_nulls_alone a ≡ true → piece_says (length out) c n store ≡ record { answer = a; next = c; text = [] } →
      Untouched c store out (outcome c store (piece n out))
  untouched_by a t e =
      record {
        answer = a;
        kind = t;
        comes =
            (λ i. called (e i) out (store_after c (e i).answer n store)) ∙
            ap (called (record { answer = a; next = c; text = [] }) out) (store_kept c a n store (alone_nothing n alone));
      }

  untouched_at : (u : Under) → c.under ≡ u → Untouched c store out (outcome c store (piece n out))
  unfolding piece_says unless
  untouched_at Idle e = untouched_by (refused 1) refl (rw e)
  untouched_at (Awaiting k) e =
      by_test (ltb (piece_limit k) (length n))
      (λ f. untouched_by (refused 3) refl (rw (e, f)))
      (λ f.
      by_test (ltb (length out) 80 || ltb (length store) 4096)
      (λ g. untouched_by (refused 6) refl (rw (e, f, g)))
      (λ g. untouched_by (result awaited) refl (rw (e, f, g, alone))))
  untouched_at Complete e = untouched_by (refused 1) refl (rw e)

  pub nulls_untouched : Untouched c store out (outcome c store (piece n out))
  nulls_untouched = untouched_at c.under refl

-- ---- step by step

-- the edited conversation from a session and a store
abbrev after : Client → List ℕ → List Edit → List Outcome
after c store es = conversation c store (edited es)

own_same : (c : Client) (store : List ℕ) (es : List Edit) → OnlyNulls c store es → own_outcomes es (after c store es) ≡ conversation c store (original es)
own_same c store [] h = refl
own_same c store (unedited s ∷ es) h = ap (λ os. outcome c store s ∷ os) (own_same (outcome c store s).next (outcome c store s).store es h)
own_same c store (replaced_piece p q out ∷ es) h =
    let e = sym (slipped-same c p q store out h.0) in
    (λ i. e i ∷ own_outcomes es (after (e i).next (e i).store es)) ∙ ap (λ os. outcome c store (piece p out) ∷ os) (own_same (outcome c store (piece p out)).next (outcome c store (piece p out)).store es h.1)
own_same c store (added_piece n out ∷ es) h =
    let e = (nulls_untouched c n store out h.0).comes in
    (λ i. own_outcomes es (after (e i).next (e i).store es)) ∙ own_same c store es h.1

abbrev Added : Outcome → List Edit → Type 0
Added o es = AddedUntouched o.next o.store es (after o.next o.store es)

added_untouched : (c : Client) (store : List ℕ) (es : List Edit) → OnlyNulls c store es → AddedUntouched c store es (after c store es)
added_untouched c store [] h = tt
added_untouched c store (unedited s ∷ es) h = added_untouched (outcome c store s).next (outcome c store s).store es h
added_untouched c store (replaced_piece p q out ∷ es) h = subst (λ o. Added o es) (slipped-same c p q store out h.0) (added_untouched (outcome c store (piece p out)).next (outcome c store (piece p out)).store es h.1)
added_untouched c store (added_piece n out ∷ es) h =
    let u = nulls_untouched c n store out h.0 in
    (u, subst (λ o. Added o es) (sym u.comes) (added_untouched c store es h.1))

-- from any session and any store
pub nulls_change_nothing : (c : Client) (store : List ℕ) (es : List Edit) → OnlyNulls c store es → NothingElse c store es
nulls_change_nothing c store es h = record { own = own_same c store es h; added = added_untouched c store es h }
