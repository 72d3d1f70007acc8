-- The parts that stand in a run's record fit its buffer, and each is read back as one part. So the record's bytes tell the parts.
use mathlib.Core.Path.{◌≡◌, refl}
use mathlib.Core.Bool.{Bool}
use mathlib.Core.List.{List, [], ◌∷◌, ◌++◌}
use Prim.Native.Nat.{ℕ, ◌-◌, ◌≤◌}
use native.Mathlib.Omega.{arith}
use lib.Dec.{ltb}
use lib.ListN.{length, length-append}
use borrow.Author.Tests.{ltb-false}
use Rattle.wire.specs.Answer.{Answer, result, refused, if_result}
use Rattle.wire.specs.Text.{joined}
use Rattle.wire.proofs.Cases.{by_test}
use Rattle.wire.proofs.UnlessLaws.{unless_by}
use Rattle.group.specs.Group.{group_bytes}
use Rattle.line_list.specs.Lines.{lines_bytes}
use Rattle.value.specs.Values.{Value, values_bytes}
use Rattle.value.proofs.RecordLaws.{ValuesFit, part_back}
use Rattle.reply_lines.specs.Decode.{lines_of_reply}
use Rattle.reply_values.specs.Values.{values_of, answer_order}
use Rattle.reply_values.specs.Learn.{lengths_after}
use Rattle.reply_values.proofs.OrderLaws.{order_fit}
use Rattle.reply_values.proofs.WalkLaws.{values_fit}
use Rattle.reply_values.proofs.ReadLaws.{reply-known}
use Rattle.client_session.specs.Session.{Client}
use Rattle.client_session.specs.Call.{Progress, value_count, ClientSaid}
use Rattle.client_session.specs.Piece.{reply_in}
use Rattle.client_session.specs.Finish.{gives_values, finish_says}
use Rattle.client_session.proofs.FinishLaws.{read_for}
use Rattle.bench.specs.Script.{Query, script}
use Rattle.bench.specs.Run.{values_room, Bench, initialised, start_says, asking, part_of, finished, part, Run, ended, after, asked, run_says}
use Rattle.bench.specs.Steps.{standing}
use Rattle.hire_text.specs.Steps.{IsPart, AreParts}

-- ---- a query's part, from any sessions

-- what a finish says is a part
abbrev AnswersPart : Answer Progress → List ℕ → Type 0
AnswersPart (refused n) text = Unit {0}
AnswersPart (result p) text = IsPart (group_bytes (value_count p) ++ text)

abbrev SaysPart : ClientSaid → Type 0
SaysPart f = AnswersPart f.answer f.text

-- values in the order of an answer can be read back
ordered-part : (vs : List Value) → ValuesFit vs → IsPart (group_bytes (length (answer_order vs)) ++ values_bytes (answer_order vs))
ordered-part vs h = λ rest. (answer_order vs, part_back (answer_order vs) rest (order_fit vs h))

-- an id has three digits, so ECU+1 is at most 4,096
reply-part : (room : ℕ) (c : Client) (reply : List ℕ) → SaysPart (gives_values room c (read_for c reply))
reply-part room c reply =
    let ls = lines_of_reply c.server.framing reply in
    let lengths = lengths_after c.query.several c.query.pids c.server.pid_lengths ls in
    unless_by SaysPart _ (λ n. tt) (λ _. ordered-part (values_of lengths ls) (values_fit lengths ls (reply-known c.server.framing reply)))

finish_part : (room : ℕ) (c : Client) (store : List ℕ) → SaysPart (finish_says room c store)
unfolding finish_says
finish_part room c store = unless_by SaysPart _ (λ n. tt) (λ _. unless_by SaysPart _ (λ n. tt) (λ _. reply-part room c (reply_in c store)))

-- the answer of a query is a part, or a number
abbrev AnswerPart : Answer (List ℕ) → Type 0
AnswerPart (refused n) = Unit {0}
AnswerPart (result bytes) = IsPart bytes

part_of_lem : (a : Answer Progress) (text : List ℕ) → AnswersPart a text → AnswerPart (part_of a text)
part_of_lem (refused n) text h = tt
part_of_lem (result p) text h = h

finished-part : (a : Answer Progress) (text : List ℕ) (b : Bench) (handed : List (List ℕ)) →
    AnswerPart (finished (record { answer = a; text = text; bench = b; handed = handed })).answer
finished-part (refused n) text b handed = tt
finished-part (result p) text b handed =
    let f = finish_says values_room b.client b.store in part_of_lem f.answer f.text (finish_part values_room b.client b.store)

query-part : (b : Bench) (q : Query) → AnswerPart (part b q).answer
unfolding part
query-part b q = let t = asking b (start_says b.client q.pids q.count) (lines_bytes q.lines) in finished-part t.answer t.text t.bench t.handed

-- ---- the parts of a run

record Stand (room : ℕ) (parts : List (List ℕ)) : Type 0 where
  fits : length (joined parts) ≤ room
  are : AreParts parts

none_stands : (room : ℕ) → Stand room []
none_stands room = record { fits = omega arith; are = tt }

one_stands : (room : ℕ) (a : Answer (List ℕ)) (handed : List (List ℕ)) (others : List ℕ → Run) → AnswerPart a → ((bytes : List ℕ) → Stand (room - length bytes) (others bytes).parts) →
    Stand room (standing room a handed others).parts
one_stands room (refused n) handed others h s = none_stands room
one_stands room (result bytes) handed others h s =
    by_test (ltb room (length bytes))
    (λ e. rw e (none_stands room))
    (λ e.
    let few = ltb-false room (length bytes) e in
    rw e (record { fits = omega (arith, length-append bytes (joined (others bytes).parts), (s bytes).fits); are = (h, (s bytes).are) }))

asked_stand : (room : ℕ) (b : Bench) (qs : List Query) → Stand room (asked room b qs).parts
asked_stand room b [] = none_stands room
asked_stand room b (q ∷ qs) =
    let p = part b q in
    one_stands room p.answer p.handed (λ bytes. asked (room - length bytes) p.bench qs) (query-part b q)
    (λ bytes. asked_stand (room - length bytes) p.bench qs)

begun_stand : (room : ℕ) (b : Bench) (handed : List (List ℕ)) (a : Answer Progress) (qs : List Query) →
    Stand room (if_result a (λ n. ended n handed) (λ p. after [] handed (asked room b qs))).parts
begun_stand room b handed (refused n) qs = none_stands room
begun_stand room b handed (result p) qs = asked_stand room b qs

run_stand : (repeat : Bool) (ks : List ℕ) (room : ℕ) (s : List ℕ) (a : Answer (List Query)) → script s ≡ a → Stand room (run_says repeat ks room s).parts
unfolding run_says
run_stand repeat ks room s (refused n) e = rw e (none_stands room)
run_stand repeat ks room s (result qs) e = let t = initialised repeat ks in rw e (begun_stand room t.bench t.handed t.answer qs)

module _ (repeat : Bool) (ks : List ℕ) (room : ℕ) (s : List ℕ) where
  pub run_fits : length (joined (run_says repeat ks room s).parts) ≤ room
  run_fits = (run_stand repeat ks room s (script s) refl).fits

  -- every part of a run, on every script, is read back as one part
  pub run_parts : AreParts (run_says repeat ks room s).parts
  run_parts = (run_stand repeat ks room s (script s) refl).are
