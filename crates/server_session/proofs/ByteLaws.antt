-- Laws of a byte: what it does where it gets no number, and how much it sends.
use mathlib.Core.Path.{◌≡◌, refl, sym, ap, ◌∙◌}
use mathlib.Core.Bool.{Bool, true, false, cond, ◌&&◌, not}
use mathlib.Core.List.{List, [], ◌∷◌, ◌++◌, append-nil}
use Prim.Native.Nat.{ℕ, ◌≤◌, ◌<◌}
use native.Mathlib.Omega.{arith}
use lib.Dec.{eqb, leb, lit≤}
use lib.ListN.{length, length-append}
use borrow.Author.Tests.{eqb-true, eqb-false, eq-eqb, ne_eqb, ltb-false, le-ltb, leb-false, lt-leb, not-false}
use Rattle.wire.specs.Answer.{result, unless}
use Rattle.wire.specs.Text.{ascii}
use Rattle.wire.proofs.Cases.{by_test, from_no}
use Rattle.wire.proofs.UnlessLaws.{unless_by}
use Rattle.reply.specs.Shape.{chip_reply}
use Rattle.server_session.specs.declared.Phase.{Phase}
use Rattle.server_session.specs.declared.Phase.TheVariants.{Reading, AtCommand, ObdCommand}
use Rattle.server_session.specs.Session.{Session, is_reading}
use Rattle.server_session.specs.Call.{ServerSaid, server_saying, server_refusing}
use Rattle.server_session.specs.Bytes.{canonical, with_line, echoed, command_phase, empty_line, line_end, byte_taken, byte_says, goes_on}
use Rattle.server_session.proofs.LineLaws.{and_false}

-- a byte that gets no number
pub record Open (room : ℕ) (s : Session) (b : ℕ) : Type 0 where
  pub turn : s.phase ≡ Reading
  pub free : 8 ≤ room
  pub low : b < 128
  pub short : (b ≡ 13 → ⊥) → (b ≡ 10 → ⊥) → length s.line < 128

pub reading : (p : Phase) → is_reading p ≡ true → p ≡ Reading
reading Reading e = refl
reading AtCommand e = from_no cc
reading ObdCommand e = from_no cc

short_of : (a b c : Bool) → a && (not b && not c) ≡ false → b ≡ false → c ≡ false → a ≡ false
short_of false b c e p q = refl
short_of true b c e p q = from_no (let z : true ≡ false = sym (rw (p, q)) ∙ e in cc)

-- what holds of each number and of a byte that gets none holds of what a byte says
pub byte_by : (P : ServerSaid → Type 0) (room : ℕ) (s : Session) (b : ℕ) → ((n : ℕ) → P (server_refusing s n)) → (Open room s b → P (byte_taken s b)) → P (byte_says room s b)
unfolding byte_says
byte_by P room s b f g =
    unless_by P _ f
    (λ (t, (f, (l, (n, _)))).
    g
    (record {
      turn = reading s.phase (not-false _ t);
      free = ltb-false room 8 f;
      low = leb-false 128 b l;
      short = λ x y. leb-false 128 (length s.line) (short_of _ (eqb b 13) (eqb b 10) n (ne_eqb b 13 x) (ne_eqb b 10 y));
    }))

room_left : (n b : ℕ) → ((b ≡ 13 → ⊥) → (b ≡ 10 → ⊥) → n < 128) → leb 128 n && (not (eqb b 13) && not (eqb b 10)) ≡ false
room_left n b h =
    by_test (eqb b 13)
    (λ e. rw e (and_false (leb 128 n)))
    (λ e. by_test (eqb b 10) (λ f. rw (e, f) (and_false (leb 128 n))) (λ f. rw (lt-leb 128 n (h (eqb-false b 13 e) (eqb-false b 10 f)))))

pub says_open : (room : ℕ) (s : Session) (b : ℕ) → Open room s b → byte_says room s b ≡ byte_taken s b
unfolding byte_says unless
says_open room s b o = rw (o.turn, le-ltb room 8 o.free, lt-leb 128 b o.low, room_left (length s.line) b o.short)

-- The end of a line

-- the same, after some text
abbrev pub after_text : List ℕ → ServerSaid → ServerSaid
after_text e d = record { answer = d.answer; taken = d.taken; next = d.next; text = e ++ d.text }

pub empty_none : (s : Session) (e l : List ℕ) → length l ≡ 0 →
    empty_line s e l ≡ server_saying 1 (with_line s [] Reading) (e ++ chip_reply s.state.linefeeds (ascii "?" ∷ []))
empty_none s e [] h = refl
empty_none s e (c ∷ l) h = absurd (omega arith)

pub empty_last : (s : Session) (e l : List ℕ) → (length l ≡ 0 → ⊥) → empty_line s e l ≡ server_saying 1 (with_line s l ObdCommand) e
empty_last s e [] h = absurd (h refl)
empty_last s e (c ∷ l) h = refl

pub line_empty : (s : Session) (e l : List ℕ) → length l ≡ 0 → line_end s e l ≡ empty_line s e s.state.last
line_empty s e [] h = refl
line_empty s e (c ∷ l) h = absurd (omega arith)

pub line_command : (s : Session) (e l : List ℕ) → (length l ≡ 0 → ⊥) → line_end s e l ≡ server_saying 1 (with_line s l (command_phase l)) e
line_command s e [] h = absurd (h refl)
line_command s e (c ∷ l) h = refl

empty_after : (s : Session) (e l : List ℕ) → empty_line s e l ≡ after_text e (empty_line s [] l)
empty_after s e [] = refl
empty_after s e (c ∷ l) = rw (append-nil e)

end_after : (s : Session) (e l : List ℕ) → line_end s e l ≡ after_text e (line_end s [] l)
end_after s e [] = empty_after s e s.state.last
end_after s e (c ∷ l) = rw (append-nil e)

-- A byte that gets no number

pub taken_cr : (s : Session) (b : ℕ) → b ≡ 13 → byte_taken s b ≡ after_text (echoed s (b ∷ [])) (line_end s [] (canonical s.line))
unfolding byte_taken
taken_cr s b e = rw (eq-eqb b 13 e) (end_after s (echoed s (b ∷ [])) (canonical s.line))

pub taken_lf : (s : Session) (b : ℕ) → b ≡ 10 → byte_taken s b ≡ server_saying 1 s (echoed s (b ∷ []))
unfolding byte_taken
taken_lf s b e = rw e

pub taken_plain : (s : Session) (b : ℕ) → (b ≡ 13 → ⊥) → (b ≡ 10 → ⊥) →
    byte_taken s b ≡ server_saying 1 (with_line s (s.line ++ (b ∷ [])) Reading) (echoed s (b ∷ []))
unfolding byte_taken
taken_plain s b p q = rw (ne_eqb b 13 p, ne_eqb b 10 q)

-- How much is sent

echo_short : (s : Session) (b : ℕ) → length (echoed s (b ∷ [])) ≤ 1
echo_short s b = go s.state.echo
  where
    go : (on : Bool) → length {A = ℕ} (cond on (b ∷ []) []) ≤ 1
    go true = lit≤ tt
    go false = lit≤ tt

unknown_short : (on : Bool) → length (chip_reply on (ascii "?" ∷ [])) ≤ 6
unknown_short true = lit≤ tt
unknown_short false = lit≤ tt

end_short : (s : Session) (l : List ℕ) → length (line_end s [] l).text ≤ 6
end_short s [] = go s.state.last
  where
    go : (l : List ℕ) → length (empty_line s [] l).text ≤ 6
    go [] = unknown_short s.state.linefeeds
    go (c ∷ l) = lit≤ tt
end_short s (c ∷ l) = lit≤ tt

taken_short : (s : Session) (b : ℕ) → length (byte_taken s b).text ≤ 7
taken_short s b =
    by_test (eqb b 13)
    (λ e.
    rw (taken_cr s b (eqb-true b 13 e))
    (omega (arith, length-append (echoed s (b ∷ [])) (line_end s [] (canonical s.line)).text, echo_short s b, end_short s (canonical s.line))))
    (λ e.
    by_test (eqb b 10)
    (λ f. rw (taken_lf s b (eqb-true b 10 f)) (omega (arith, echo_short s b)))
    (λ f. rw (taken_plain s b (eqb-false b 13 e) (eqb-false b 10 f)) (omega (arith, echo_short s b))))

-- a byte sends at most 8 bytes, and no more than there is room for
pub text_short : (room : ℕ) (s : Session) (b : ℕ) → (length (byte_says room s b).text ≤ 8) × (length (byte_says room s b).text ≤ room)
text_short room s b =
    byte_by (λ (d : ServerSaid). (length d.text ≤ 8) × (length d.text ≤ room)) room s b
    (λ n. (omega arith, omega arith))
    (λ o. (omega (arith, taken_short s b), omega (arith, taken_short s b, o.free)))

-- How many are taken: a byte that gets no number has a result, and is taken

pub end_result : (s : Session) (e l : List ℕ) → (p : Phase) × ((line_end s e l).answer ≡ result p) × ((line_end s e l).taken ≡ 1)
end_result s e [] = go s.state.last
  where
    go : (l : List ℕ) → (p : Phase) × ((empty_line s e l).answer ≡ result p) × ((empty_line s e l).taken ≡ 1)
    go [] = (_, refl, refl)
    go (c ∷ l) = (_, refl, refl)
end_result s e (c ∷ l) = (_, refl, refl)

taken_one : (s : Session) (b : ℕ) → (byte_taken s b).taken ≡ 1
taken_one s b =
    by_test (eqb b 13)
    (λ e. rw (taken_cr s b (eqb-true b 13 e)) (end_result s [] (canonical s.line)).2)
    (λ e. by_test (eqb b 10) (λ f. rw (taken_lf s b (eqb-true b 10 f))) (λ f. rw (taken_plain s b (eqb-false b 13 e) (eqb-false b 10 f))))

pub taken_most : (room : ℕ) (s : Session) (b : ℕ) → (byte_says room s b).taken ≤ 1
taken_most room s b = byte_by (λ (d : ServerSaid). d.taken ≤ 1) room s b (λ n. omega arith) (λ o. omega (arith, taken_one s b))

pub on_taken : (room : ℕ) (s : Session) (b : ℕ) → goes_on (byte_says room s b).answer ≡ true → (byte_says room s b).taken ≡ 1
on_taken room s b = byte_by (λ (d : ServerSaid). goes_on d.answer ≡ true → d.taken ≡ 1) room s b (λ n e. from_no cc) (λ o _. taken_one s b)

-- it gets no number where it is said to be taken
pub open_of : (room : ℕ) (s : Session) (b : ℕ) → byte_says room s b ≡ byte_taken s b → Open room s b
open_of room s b =
    byte_by (λ (d : ServerSaid). d ≡ byte_taken s b → Open room s b) room s b
    (λ n e. from_no (ap (λ (d : ServerSaid). d.taken) e ∙ taken_one s b))
    (λ o _. o)
