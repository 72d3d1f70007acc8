-- What a reply gives and teaches a query. Document 01, client_session.rs: "Finishing learns in the Rust's order: one PID: length, counts, values; several
-- (`query_pids`, even of one PID): counts, values, multi-PID." Document 02 §1: "values now stand by rising PID, and within a PID in reply order."
use Rattle.std.specs.Prelude.{Bool, List, [], ◌∷◌, ℕ, ltb, length}
use Rattle.std.proofs.lemmas.List.Edits.{sets}
use Rattle.wire.specs.Answer.{Answer, result, refused, count_answer, unless}
use Rattle.value.specs.Values.{Value, values_bytes}
use Rattle.server_state.specs.declared.ServerState.{ServerState}
use Rattle.reply_lines.specs.Decode.{lines_of_reply}
use Rattle.reply_values.specs.Values.{values_of, answer_order}
use Rattle.reply_values.specs.Learn.{lengths_after, learn_counts, multi_after}
use Rattle.reply_values.specs.declared.ReplyRead.{ReplyRead}

-- The values of a reply in the order of an answer, and what is known of the ELM327 after it.
pub record Reading : Type 0 where
  pub values : List Value
  pub server : ServerState

-- a reply to a query of some PIDs, several where it is one of `query_pids`: a length that is learned counts for this reply already
abbrev pub reading : ServerState → List ℕ → Bool → List ℕ → Reading
reading s pids several reply =
    let ls = lines_of_reply s.framing reply in
    let lengths = lengths_after several pids s.pid_lengths ls in
    let vs = values_of lengths ls in
    let counts = learn_counts s.framing 0 s.ecu_counts vs in
    let multi = multi_after several pids vs s.multi_pid in
    record { values = answer_order vs; server = record { framing = s.framing; repeat = s.repeat; multi_pid = multi; pid_lengths = lengths; ecu_counts = counts } }

-- A reply read with a lent buffer: how many values it has or a number, how many bytes they take, what is known then, and the buffer.
pub record ReadServed : Type 0 where
  pub answer : Answer ℕ
  pub written : ℕ
  pub server : ServerState
  pub out : List ℕ

-- 8 for a reply over 4,096 bytes, its 00 counted, and 6 where the values are longer than the buffer: nothing is learned or written. 8 comes first, since how long
-- the values of such a reply would be is not worked out; a finish reads at most 4,096
unfoldable pub read_reply : ServerState → List ℕ → Bool → List ℕ → List ℕ → ReadServed
read_reply s pids several reply out =
    let r = reading s pids several reply in
    let text = values_bytes r.values in
    unless ((ltb 4096 (length reply), 8) ∷ (ltb (length out) (length text), 6) ∷ [])
    (λ n. record { answer = refused n; written = 0; server = s; out = out })
    (record { answer = result (length r.values); written = length text; server = r.server; out = sets out 0 text })

abbrev pub reply_read : ReplyRead → List ℕ → ReadServed
reply_read r out = record { answer = count_answer r.answer; written = r.written; server = r.server; out = out }
