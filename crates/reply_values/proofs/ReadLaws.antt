-- Laws of a reply read as a whole: what stands in the store, and what is answered.
use mathlib.Core.Path.{◌≡◌, sym, ap, ◌∙◌}
use mathlib.Core.Bool.{Bool}
use mathlib.Core.List.{List, [], ◌∷◌, map}
use Prim.Native.Nat.{ℕ, ◌+◌, ◌*◌, ◌≤◌, ◌<◌}
use native.Mathlib.Omega.{arith}
use lib.ListN.{length}
use lib.Seq.{sets}
use borrow.Author.Tests.{lt-ltb, le-ltb}
use Rattle.wire.specs.Answer.{result, refused, unless}
use Rattle.wire.specs.Text.{without_nulls}
use Rattle.wire.proofs.PutLaws.{put_whole_lem}
use Rattle.value.specs.Values.{Value, values_bytes}
use Rattle.value.proofs.RecordLaws.{ValuesFit}
use Rattle.reply_lines.specs.Lines.{text_lines}
use Rattle.reply_lines.specs.Decode.{text_line, lines_of_reply}
use Rattle.reply_lines.proofs.DecodeLaws.{line_ecu}
use Rattle.reply_lines.proofs.NullLaws.{reply_without_nulls}
use Rattle.reply_values.specs.Values.{values_of, answer_order}
use Rattle.server_state.specs.declared.FeatureSupport.{FeatureSupport}
use Rattle.server_state.specs.declared.ServerState.{ServerState}
use Rattle.reply_values.specs.Learn.{lengths_after, learn_counts, multi_after}
use Rattle.reply_values.specs.Read.{Reading, reading, ReadServed, read_reply}
use Rattle.reply_values.specs.declared.Tally.{Tally}
use Rattle.reply_values.specs.Steps.{no_values, PutValues, Stored, RoomIn, with_values}
use Rattle.reply_values.proofs.OrderLaws.{order_size, order_fit}
use Rattle.reply_values.proofs.SizeLaws.{reply_size_lem}
use Rattle.reply_values.proofs.TallyLaws.{bytes_many, tallied_all}
use Rattle.reply_values.proofs.WalkLaws.{KnownEcus, values_fit}

-- The whole

-- every ECU+1 of a reply is at most 4,096
pub reply-known : (framing : Bool) (reply : List ℕ) → KnownEcus (lines_of_reply framing reply)
unfolding lines_of_reply
reply-known framing reply = known (text_lines reply) where
  known : (ss : List (List ℕ)) → KnownEcus (map (text_line framing) ss)
  known [] = tt
  known (s ∷ ss) = (line_ecu framing s, known ss)

-- Document 02 §2: "A 00 that the finish .. meets is skipped": a reply reads as it would without its 00
pub reading_without_nulls : (s : ServerState) (pids : List ℕ) (several : Bool) (reply : List ℕ) → reading s pids several (without_nulls reply) ≡ reading s pids several reply
reading_without_nulls s pids several reply = rw (reply_without_nulls s.framing reply)

-- there is room for the values of a text of at most 4,096 bytes in a store with three bytes for each of them and three more
pub text_room : (framing : Bool) (text lengths : List ℕ) → length text ≤ 4096 → (n : ℕ) → 3 * length text + 3 ≤ n →
    RoomIn (record { values = []; size = n }) (values_of lengths (lines_of_reply framing text))
text_room framing text lengths short n room = record {
  room = omega (arith, reply_size_lem lengths framing text short);
  ecus = values_fit lengths (lines_of_reply framing text) (reply-known framing text);
}

-- they are what is found there
pub stored_found : {vs us : List Value} {r s : Stored} {n : ℕ} → s ≡ record { values = []; size = n } → r ≡ with_values s us → vs ≡ r.values → vs ≡ us
stored_found {us = us} s r v = v ∙ ap Stored.values (r ∙ ap (λ s. with_values s us) s)

-- a value has five bytes at least
pub text_few : (framing : Bool) (text lengths : List ℕ) → length text ≤ 4096 → (n : ℕ) → 3 * length text + 3 ≤ n →
    5 * length (values_of lengths (lines_of_reply framing text)) ≤ n
text_few framing text lengths short n room =
    omega (arith, bytes_many (values_of lengths (lines_of_reply framing text)), (text_room framing text lengths short n room).room)

-- what a number comes to, and what is read where none applies
abbrev unread_for : ServerState → ℕ → List ℕ → ReadServed
unread_for s n out = record { answer = refused n; written = 0; server = s; out = out }

abbrev whole_of : Reading → List ℕ → ReadServed
whole_of r out =
    let text = values_bytes r.values in
    record { answer = result (length r.values); written = length text; server = r.server; out = sets out 0 text }

module _ (s : ServerState) (pids : List ℕ) (several : Bool) where
  -- a reply that is too long
  pub read_long_lem : (reply out : List ℕ) → 4096 < length reply → read_reply s pids several reply out ≡ unread_for s 8 out
  unfolding read_reply unless
  read_long_lem reply out h = rw (lt-ltb 4096 (length reply) h)

  -- any other: its values are longer than the buffer, or they fit
  module _ (reply out : List ℕ) (short : length reply ≤ 4096) where
    abbrev text : List ℕ
    text = values_bytes (reading s pids several reply).values

    pub read_full : length out < length text → read_reply s pids several reply out ≡ unread_for s 6 out
    unfolding read_reply unless
    read_full h = rw (le-ltb 4096 (length reply) short, lt-ltb (length out) (length text) h)

    pub read_fits : length text ≤ length out → read_reply s pids several reply out ≡ whole_of (reading s pids several reply) out
    unfolding read_reply unless
    read_fits h = rw (le-ltb 4096 (length reply) short, le-ltb (length out) (length text) h)

  -- what values teach, with the lengths that they were found by
  abbrev reading_of : List ℕ → List Value → Reading
  reading_of lengths vs = record {
    values = answer_order vs;
    server = record {
      framing = s.framing;
      repeat = s.repeat;
      multi_pid = multi_after several pids vs s.multi_pid;
      pid_lengths = lengths;
      ecu_counts = learn_counts s.framing 0 s.ecu_counts vs;
    };
  }

  -- the answer to a query, by the values that were found
  module _ (text : List ℕ) (short : length text ≤ 4096) {after : List ℕ} (learned : after ≡ lengths_after several pids s.pid_lengths (lines_of_reply s.framing text))
      {vs : List Value} (found : vs ≡ values_of after (lines_of_reply s.framing text)) where
    read_found : reading s pids several text ≡ reading_of after vs
    read_found = ap (λ ls. reading_of ls (values_of ls (lines_of_reply s.framing text))) (sym learned) ∙ ap (reading_of after) (sym found)

    text_size : length (values_bytes (reading s pids several text).values) ≡ length (values_bytes vs)
    text_size = ap (λ (r : Reading). length (values_bytes r.values)) read_found ∙ order_size vs

    pub read_small : {out : List ℕ} → length out < length (values_bytes vs) → unread_for s 6 out ≡ read_reply s pids several text out
    read_small {out} h = sym (read_full text out short (omega (arith, text_size)))

    pub read_whole : {out o₁ counts : List ℕ} {tally : Tally} {multi : FeatureSupport} → length (values_bytes vs) ≤ length out →
        counts ≡ learn_counts s.framing 0 s.ecu_counts vs → multi ≡ multi_after several pids vs s.multi_pid →
        PutValues (answer_order vs) out no_values o₁ tally →
        record {
          answer = result tally.count;
          written = tally.at;
          server = record { framing = s.framing; repeat = s.repeat; multi_pid = multi; pid_lengths = after; ecu_counts = counts };
          out = o₁;
        } ≡ read_reply s pids several text out
    read_whole {out} {o₁} {counts} {tally} {multi} h l m w =
        let known : ValuesFit vs = rw found (values_fit after (lines_of_reply s.framing text) (reply-known s.framing text)) in
        let fit : length (values_bytes (answer_order vs)) ≤ length out = omega (arith, order_size vs) in
        let many : tally.count ≡ length (answer_order vs) = tallied_all (order_fit vs known) fit w in
        let all : tally.at ≡ length (values_bytes (answer_order vs)) = let e = put_whole_lem w.put (omega arith) in omega arith in
        (λ i. record {
          answer = result (many i);
          written = all i;
          server = record { framing = s.framing; repeat = s.repeat; multi_pid = m i; pid_lengths = after; ecu_counts = l i };
          out = w.put.bytes i;
        })
        ∙ sym (read_fits text out short (omega (arith, text_size)) ∙ ap (λ (r : Reading). whole_of r out) read_found)
