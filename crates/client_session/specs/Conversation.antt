-- A conversation on one session and one store, and what 00 does to it. Document 02 §2: "00 slipped into non-empty pieces within 3's limits, or pieces of 00 alone added,
-- change no other answer of the client, nor session or buffer." ConversationLaws proves it. A session is what it means (Session.antt `client`).
use Rattle.std.specs.Prelude.{◌≡◌, Bool, true, false, ◌||◌, List, [], ◌∷◌, ℕ, ◌<◌, eqb, ltb, length}
use Rattle.std.proofs.Math.Option.{Option, none, some}
use Rattle.wire.specs.Answer.{Answer, result, refused}
use Rattle.wire.specs.Text.{without_nulls}
use Rattle.client_session.specs.declared.Failure.{Failure}
use Rattle.client_session.specs.Session.{Client, when_awaiting}
use Rattle.client_session.specs.Call.{Progress, ClientSaid, client_lent}
use Rattle.client_session.specs.Start.{init_says, command_says, query_says}
use Rattle.client_session.specs.Piece.{piece_limit, nulls_alone, piece_says, store_after, failure_says}
use Rattle.client_session.specs.Pieces.{awaits}
use Rattle.client_session.specs.Finish.{finish_says}

-- A step: a call with what it is handed and, last, the out buffer that it is lent; or what the host makes of its store between calls. A query is of `query_pid` or of
-- `query_pids`, as in Start.antt.
pub data Step : Type 0 where
  init : List ℕ → Step
  command : List ℕ → List ℕ → Step
  query : List ℕ → ℕ → Bool → List ℕ → Step
  piece : List ℕ → List ℕ → Step
  failure : Failure → List ℕ → Step
  finish : List ℕ → Step
  host : (List ℕ → List ℕ) → Step

-- What a step comes to: the call as the host sees it (ClientServed), with the store; the host's own step has no answer and no out buffer.
pub record Outcome : Type 0 where
  pub answer : Option (Answer Progress)
  pub written : ℕ
  pub next : Client
  pub store : List ℕ
  pub out : List ℕ

-- a call that says so, with its out buffer and the store then
abbrev pub called : ClientSaid → List ℕ → List ℕ → Outcome
called d out store =
    let s = client_lent d out in
    record { answer = some s.answer; written = s.written; next = s.next; store = store; out = s.out }

abbrev pub outcome : Client → List ℕ → Step → Outcome
outcome c store (init out) = called (init_says (length out) c) out store
outcome c store (command text out) = called (command_says (length out) c text) out store
outcome c store (query pids count several out) = called (query_says (length out) c pids count several) out store
outcome c store (piece p out) = let d = piece_says (length out) c p store in called d out (store_after c d.answer p store)
outcome c store (failure failed out) = called (failure_says (length out) c failed) out store
outcome c store (finish out) = called (finish_says (length out) c store) out store
outcome c store (host f) = record { answer = none; written = 0; next = c; store = f store; out = [] }

-- each step takes the session and the store as the last one left them
abbrev pub conversation : Client → List ℕ → List Step → List Outcome
conversation c store [] = []
conversation c store (s ∷ ss) = let o = outcome c store s in o ∷ conversation o.next o.store ss

-- ---- 00 in a conversation

-- A step that is left as it is; a piece, another that takes its place, and the out buffer that is lent; or a piece that is added, and its out buffer.
pub data Edit : Type 0 where
  unedited : Step → Edit
  replaced_piece : List ℕ → List ℕ → List ℕ → Edit
  added_piece : List ℕ → List ℕ → Edit

-- the conversation before the edits, and after them
abbrev pub original : List Edit → List Step
original [] = []
original (unedited s ∷ es) = s ∷ original es
original (replaced_piece p q out ∷ es) = piece p out ∷ original es
original (added_piece n out ∷ es) = original es

abbrev pub edited : List Edit → List Step
edited [] = []
edited (unedited s ∷ es) = s ∷ edited es
edited (replaced_piece p q out ∷ es) = piece q out ∷ edited es
edited (added_piece n out ∷ es) = piece n out ∷ edited es

-- 3 is for a piece while a reply is awaited: where none is, 1 comes first
abbrev pub over_limit : Client → List ℕ → Bool
over_limit c p = when_awaiting c.under false (λ k. ltb (piece_limit k) (length p))

-- "00 slipped into non-empty pieces within 3's limits": two pieces for one session that differ in 00 alone.
pub record SlippedInto (c : Client) (p q : List ℕ) : Type 0 where
  pub non_empty : (0 < length p) × (0 < length q)
  pub in_limits : (over_limit c p ≡ false) × (over_limit c q ≡ false)
  pub same_otherwise : without_nulls p ≡ without_nulls q

-- "or pieces of 00 alone added"; each edit is held to the session at which the original conversation stands
abbrev pub OnlyNulls : Client → List ℕ → List Edit → Type 0
OnlyNulls c store [] = Unit {0}
OnlyNulls c store (unedited s ∷ es) = let o = outcome c store s in OnlyNulls o.next o.store es
OnlyNulls c store (replaced_piece p q out ∷ es) = let o = outcome c store (piece p out) in SlippedInto c p q × OnlyNulls o.next o.store es
OnlyNulls c store (added_piece n out ∷ es) = (nulls_alone n ≡ true) × OnlyNulls c store es

-- ---- what they change

-- of the edited conversation, the steps that the original one has
abbrev pub own_outcomes : List Edit → List Outcome → List Outcome
own_outcomes [] os = []
own_outcomes (e ∷ es) [] = []
own_outcomes (unedited s ∷ es) (o ∷ os) = o ∷ own_outcomes es os
own_outcomes (replaced_piece p q out ∷ es) (o ∷ os) = o ∷ own_outcomes es os
own_outcomes (added_piece n out ∷ es) (o ∷ os) = own_outcomes es os

-- the answers of a piece of 00 alone: 1, 3, 6, or the reply is awaited as before; Piece.antt says which
abbrev pub of_nulls_alone : Answer Progress → Bool
of_nulls_alone (refused n) = eqb n 1 || (eqb n 3 || eqb n 6)
of_nulls_alone (result p) = awaits (result p)

-- A step that has such an answer, sends nothing, and leaves session, store and out buffer.
pub record Untouched (c : Client) (store out : List ℕ) (o : Outcome) : Type 0 where
  pub answer : Answer Progress
  pub kind : of_nulls_alone answer ≡ true
  pub comes : o ≡ record { answer = some answer; written = 0; next = c; store = store; out = out }

-- so does each added piece, where the step before it left session and store
abbrev pub AddedUntouched : Client → List ℕ → List Edit → List Outcome → Type 0
AddedUntouched c store [] os = Unit {0}
AddedUntouched c store (e ∷ es) [] = ⊥
AddedUntouched c store (unedited s ∷ es) (o ∷ os) = AddedUntouched o.next o.store es os
AddedUntouched c store (replaced_piece p q out ∷ es) (o ∷ os) = AddedUntouched o.next o.store es os
AddedUntouched c store (added_piece n out ∷ es) (o ∷ os) = Untouched c store out o × AddedUntouched o.next o.store es os

-- 00 changes nothing else: the steps of the original conversation have the same answers, bytes to send, sessions, stores and out buffers.
pub record NothingElse (c : Client) (store : List ℕ) (es : List Edit) : Type 0 where
  pub own : own_outcomes es (conversation c store (edited es)) ≡ conversation c store (original es)
  pub added : AddedUntouched c store es (conversation c store (edited es))
