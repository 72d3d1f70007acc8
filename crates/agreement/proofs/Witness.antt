-- The premises of demand 3 can be met: runs of one list of four queries, of which the second repeats the first, the third is answered by two PIDs on one line and the
-- fourth asks for a PID outside the table; of one query of two PIDs; and of lists with queries without lines.
use mathlib.Core.Path.{◌≡◌, refl, sym, ap}
use mathlib.Core.Bool.{true, false}
use mathlib.Core.List.{List, [], ◌∷◌, ◌++◌}
use Prim.Native.Nat.{ℕ, zero, suc, ◌<◌}
use native.Mathlib.Omega.{arith}
use lib.Dec.{eqb, leb}
use lib.ListN.{length, take, get_or, replicate}
use borrow.Author.Tests.{leb-false, eqb-true}
use Rattle.wire.specs.Answer.{result, unless}
use Rattle.wire.specs.Text.{ascii, any, has, high, is_space, raised}
use Rattle.wire.proofs.Cases.{by_test, or_none_lem}
use Rattle.wire.proofs.All.{all_from}
use Rattle.wire.specs.declared.Refusal.TheVariants as refusal
use Rattle.hex_text.specs.Digits.{hex_digit}
use Rattle.hex_text.specs.Read.{digit}
use Rattle.pid.specs.J1979.{j1979}
use Rattle.pid.specs.Lengths.{mode01_lengths}
use Rattle.group.specs.Group.{group_bytes}
use Rattle.group.specs.Format.{write_row}
use Rattle.line_list.specs.Lines.{Line, line, lines_of_list}
use Rattle.value.specs.Values.{Value, value, value_format, read_record}
use Rattle.at_command.specs.Dialect.{at_kind}
use Rattle.reply.specs.Reply.{line_text, reply_text}
use Rattle.server_session.specs.Bytes.{canonical, byte_taken, byte_says, bytes_say}
use Rattle.server_session.specs.Replies.{answer_says, reply_says}
use Rattle.query.specs.Query.{text_of_query}
use Rattle.reply_lines.specs.Lines.{text_lines}
use Rattle.reply_lines.specs.Decode.{text_line, lines_of_reply}
use Rattle.reply_values.specs.Values.{walked, answer_order}
use Rattle.reply_values.specs.Learn.{learn_length}
use Rattle.client_session.specs.Start.{init_says, query_says}
use Rattle.client_session.specs.Piece.{reply_takes, piece_says}
use Rattle.client_session.specs.Finish.{finish_says}
use Rattle.bench.specs.Script.{Query, query, query_format, script}
use Rattle.bench.specs.Exchange.{exchanged}
use Rattle.bench.specs.Deliver.{pieces}
use Rattle.std.specs.Prelude.{Ok, Err}
use Rattle.bench.specs.Run.{initialised, part, Run, run_says, run_lent}
use Rattle.agreement.specs.Vehicle.{SameValues}
use Rattle.agreement.specs.Lines.{end, next, alone, table, GoodLine, GoodLines}
use Rattle.agreement.specs.Demand.{GoodQueries, givens, first_parts, Drive, drive, comes_to, Ran, hire_record, GoodFirst, GoodAll, EveryFits}
use Rattle.agreement.specs.Ends.{reach}
use Rattle.agreement.proofs.Ran.{run_given}
use Rattle.agreement.proofs.Agreement.{agreement}

-- the bytes of a script, all below 256 by one computed test
abbrev pub script_of : List Query → List ℕ
script_of qs = write_row query_format qs

pub low_at : (s : List ℕ) → any (leb 256) s ≡ false → (i : ℕ) → i < length s → get_or s i 0 < 256
low_at [] e i h = absurd (omega arith)
low_at (b ∷ s) e zero h = leb-false 256 b (or_none_lem (leb 256 b) (any (leb 256) s) e).0
low_at (b ∷ s) e (suc i) h = low_at s (or_none_lem (leb 256 b) (any (leb 256) s) e).1 i (omega arith)

-- What is computed of a run: its queries, the commands handed out, and that the contract of `bench::run` holds of it.
pub record Computed (d : Drive) (qs : List Query) (texts : List (List ℕ)) : Type 0 where
  pub ran : Ran d
  pub reads : script d.script_bytes ≡ result qs
  pub handed : (comes_to d).handed ≡ texts

-- engine speed with the low byte of its value; engine speed and vehicle speed on one line; the maker's own PID E0
abbrev pub engine : ℕ → ℕ → Query
engine ecu low = query (0x0C ∷ []) 2 (line ecu (0x41 ∷ 0x0C ∷ 0x1A ∷ low ∷ []) ∷ [])

abbrev pub speeds : ℕ → List ℕ → Query
speeds ecu values = query (0x0C ∷ 0x0D ∷ []) 0 (line ecu (0x41 ∷ values) ∷ [])

abbrev pub own : Query
own = query (0xE0 ∷ []) 0 (line 0 (0x41 ∷ 0xE0 ∷ 1 ∷ 2 ∷ 3 ∷ []) ∷ [])

abbrev pub unknown : List Query
unknown = engine 0 0xF8 ∷ engine 0 0xF8 ∷ speeds 0 (0x0C ∷ 0x1A ∷ 0xF8 ∷ 0x0D ∷ 0x20 ∷ []) ∷ own ∷ []

-- their parts
abbrev pub engine_value : ℕ → List ℕ
engine_value low = 0x0C ∷ 0xE9 ∷ 0x0F ∷ 0x04 ∷ 0x41 ∷ 0x0C ∷ 0x1A ∷ low ∷ []

abbrev pub speed_value : List ℕ
speed_value = 0x0D ∷ 0xE9 ∷ 0x0F ∷ 0x03 ∷ 0x41 ∷ 0x0D ∷ 0x20 ∷ []

abbrev pub own_value : List ℕ
own_value = 0xE0 ∷ 0xE9 ∷ 0x0F ∷ 0x05 ∷ 0x41 ∷ 0xE0 ∷ 1 ∷ 2 ∷ 3 ∷ []

abbrev unknown_record : List ℕ
unknown_record = (1 ∷ engine_value 0xF8) ++ (1 ∷ engine_value 0xF8) ++ (2 ∷ engine_value 0xF8) ++ speed_value ++ (1 ∷ own_value)

-- the first vehicle, with repeat on and pieces of 128 bytes
abbrev pub first : Drive
first = drive true [] (script_of unknown) (replicate 45 0) (unknown_record ++ (0 ∷ [])) (record { answer = Ok tt; written = 44 })

pub first_run : Computed first unknown (ascii "010C1" ∷ ascii "010C1" ∷ ascii "010C0D" ∷ ascii "01E0" ∷ [])
unfolding has high is_space raised hex_digit digit j1979 mode01_lengths group_bytes lines_of_list value_format at_kind line_text reply_text canonical
    unless byte_taken byte_says bytes_say answer_says reply_says text_of_query text_lines text_line lines_of_reply walked answer_order learn_length init_says query_says
    reply_takes piece_says finish_says script query_format exchanged pieces initialised part run_says
first_run = record { ran = record { bytes = low_at (script_of unknown) refl; ran = refl }; reads = refl; handed = refl }

-- others, from a known ECU, with the two PIDs in the other order, repeat off and other pieces
abbrev known : ℕ → List Query
known low = engine 0x7E9 low ∷ engine 0x7E9 0xF8 ∷ speeds 0x7E9 (0x0D ∷ 0x20 ∷ 0x0C ∷ 0x1A ∷ 0xF8 ∷ []) ∷ own ∷ []

abbrev other : ℕ → Drive
other low =
    drive false (1 ∷ 2 ∷ 0 ∷ 200 ∷ 3 ∷ []) (script_of (known low)) (replicate 44 0)
    ((1 ∷ engine_value low) ++ (1 ∷ engine_value 0xF8) ++ (2 ∷ engine_value 0xF8) ++ speed_value ++ (1 ∷ own_value)) (record { answer = Ok tt; written = 44 })

second_run : Computed (other 0xF8) (known 0xF8) (ascii "010C1" ∷ ascii "010C1" ∷ ascii "010C0D" ∷ ascii "01E0" ∷ [])
unfolding has high is_space raised hex_digit digit j1979 mode01_lengths group_bytes lines_of_list value_format at_kind line_text reply_text canonical
    unless byte_taken byte_says bytes_say answer_says reply_says text_of_query text_lines text_line lines_of_reply walked answer_order learn_length init_says query_says
    reply_takes piece_says finish_says script query_format exchanged pieces initialised part run_says
second_run = record { ran = record { bytes = low_at (script_of (known 0xF8)) refl; ran = refl }; reads = refl; handed = refl }

third_run : Computed (other 0xF9) (known 0xF9) (ascii "010C1" ∷ ascii "010C1" ∷ ascii "010C0D" ∷ ascii "01E0" ∷ [])
unfolding has high is_space raised hex_digit digit j1979 mode01_lengths group_bytes lines_of_list value_format at_kind line_text reply_text canonical
    unless byte_taken byte_says bytes_say answer_says reply_says text_of_query text_lines text_line lines_of_reply walked answer_order learn_length init_says query_says
    reply_takes piece_says finish_says script query_format exchanged pieces initialised part run_says
third_run = record { ran = record { bytes = low_at (script_of (known 0xF9)) refl; ran = refl }; reads = refl; handed = refl }

-- the first one's script in a record buffer of 20 bytes: 6 ends the run at the third part
abbrev pub ended6 : Drive
ended6 = drive true [] (script_of unknown) (replicate 20 0) ((1 ∷ engine_value 0xF8) ++ (1 ∷ engine_value 0xF8) ++ (0 ∷ 0 ∷ [])) (record { answer = Err refusal.SmallBuffer; written = 18 })

pub ended6_run : Computed ended6 unknown (ascii "010C1" ∷ ascii "010C1" ∷ ascii "010C0D" ∷ [])
unfolding has high is_space raised hex_digit digit j1979 mode01_lengths group_bytes lines_of_list value_format at_kind line_text reply_text canonical
    unless byte_taken byte_says bytes_say answer_says reply_says text_of_query text_lines text_line lines_of_reply walked answer_order learn_length init_says query_says
    reply_takes piece_says finish_says script query_format exchanged pieces initialised part run_says
ended6_run = record { ran = record { bytes = low_at (script_of unknown) refl; ran = refl }; reads = refl; handed = refl }

-- the same with a last query, never asked, whose line does not start with 41
abbrev unasked : List Query
unasked = engine 0 0xF8 ∷ engine 0 0xF8 ∷ speeds 0 (0x0C ∷ 0x1A ∷ 0xF8 ∷ 0x0D ∷ 0x20 ∷ []) ∷ query (0x0C ∷ []) 0 (line 0 (0x7F ∷ 0x01 ∷ 0x12 ∷ []) ∷ []) ∷ []

abbrev last_unasked : Drive
last_unasked = drive true [] (script_of unasked) (replicate 20 0) ((1 ∷ engine_value 0xF8) ++ (1 ∷ engine_value 0xF8) ++ (0 ∷ 0 ∷ [])) (record { answer = Err refusal.SmallBuffer; written = 18 })

unasked_run : Computed last_unasked unasked (ascii "010C1" ∷ ascii "010C1" ∷ ascii "010C0D" ∷ [])
unfolding has high is_space raised hex_digit digit j1979 mode01_lengths group_bytes lines_of_list value_format at_kind line_text reply_text canonical
    unless byte_taken byte_says bytes_say answer_says reply_says text_of_query text_lines text_line lines_of_reply walked answer_order learn_length init_says query_says
    reply_takes piece_says finish_says script query_format exchanged pieces initialised part run_says
unasked_run = record { ran = record { bytes = low_at (script_of unasked) refl; ran = refl }; reads = refl; handed = refl }

-- a second query with eight lines of 255 bytes: its reply has 8 * (5 + 2 * 255 + 1) + 2 bytes, and 8 ends the run
abbrev long_line : Line
long_line = line 0 (0x41 ∷ 0xE1 ∷ replicate 253 7)

abbrev long : List Query
long = let l = long_line in engine 0 0xF8 ∷ query (0xE1 ∷ []) 0 (l ∷ l ∷ l ∷ l ∷ l ∷ l ∷ l ∷ l ∷ []) ∷ engine 0 0xF8 ∷ []

abbrev pub ended8 : Drive
ended8 = drive true [] (script_of long) (replicate 10 0) ((1 ∷ engine_value 0xF8) ++ (0 ∷ [])) (record { answer = Err refusal.ReplyTooLong; written = 9 })

-- ---- the premises

module _ (L : ℕ → ℕ) where
  pub good_engine : (ecu low : ℕ) → GoodLines L (engine ecu low).lines
  unfolding j1979
  good_engine ecu low = ((_, refl, table _ _ (next 0x0C (0x1A ∷ low ∷ []) [] _ refl refl end)), tt)

  good_long : L 0xE1 ≡ 253 → GoodLine L long_line
  unfolding j1979
  good_long e = (_, refl, alone 0xE1 (replicate 253 7) refl (sym e))

pub good_own : GoodLines (λ p. 3) own.lines
unfolding j1979
good_own = ((_, refl, alone 0xE0 (1 ∷ 2 ∷ 3 ∷ []) refl refl), tt)

pub good_unknown : GoodQueries (λ p. 3) unknown
unfolding j1979
good_unknown = (
  good_engine (λ p. 3) 0 0xF8,
  (
    good_engine (λ p. 3) 0 0xF8,
    (
      ((_, refl, table _ _ (next 0x0C (0x1A ∷ 0xF8 ∷ []) _ _ refl refl (next 0x0D (0x20 ∷ []) [] _ refl refl end))), tt),
      (good_own, tt),
    ),
  ),
)

good_known : (low : ℕ) → GoodQueries (λ p. 3) (known low)
unfolding j1979
good_known low = (
  good_engine (λ p. 3) 0x7E9 low,
  (
    good_engine (λ p. 3) 0x7E9 0xF8,
    (
      ((_, refl, table _ _ (next 0x0D (0x20 ∷ []) _ _ refl refl (next 0x0C (0x1A ∷ 0xF8 ∷ []) [] _ refl refl end))), tt),
      (good_own, tt),
    ),
  ),
)

pub good_8 : GoodQueries (λ p. 253) long
good_8 =
    let l = good_long (λ p. 253) refl in
    (good_engine (λ p. 253) 0 0xF8, ((l, (l, (l, (l, (l, (l, (l, (l, tt)))))))), (good_engine (λ p. 253) 0 0xF8, tt)))

-- the run that 8 ends, by the laws: to compute it step by step takes too long
long_reads : script (script_of long) ≡ result long
unfolding script unless query_format group_bytes
long_reads = refl

pub ended8_run : Computed ended8 long (ascii "010C1" ∷ ascii "01E1" ∷ [])
unfolding line_text reply_text hex_digit text_of_query value_format group_bytes j1979 query_format answer_order
ended8_run =
    let bytes = low_at (script_of long) refl in
    let e = run_given true [] (script_of long) (all_from (λ b. b < 256) (script_of long) bytes) (λ p. 253) 10 long long_reads good_8 in
    record { ran = record { bytes = bytes; ran = ap (λ (r : Run). run_lent r (replicate 10 0)) (sym e) }; reads = long_reads; handed = ap (λ (r : Run). r.handed) e }

-- ---- two runs

module _ {d : Drive} {qs : List Query} {texts : List (List ℕ)} (c : Computed d qs texts) where
  pub good_first : (L : ℕ → ℕ) (n : ℕ) → GoodQueries L (take n qs) → GoodFirst n d
  good_first L n good = (L, rw c.reads good)

  pub good_all : (L : ℕ → ℕ) → GoodQueries L (take (length qs) qs) → GoodAll d
  good_all L good = (L, rw c.reads good)

  pub fits : (reach (length d.lent_buffer) qs (givens qs)).answer ≡ result tt → EveryFits d
  fits e = rw c.reads e

-- what vehicles gave
abbrev engine_given : ℕ → ℕ → ℕ → Value
engine_given ecu a b = value 0x0C ecu (a ∷ b ∷ [])

abbrev speed_given : ℕ → ℕ → Value
speed_given ecu a = value 0x0D ecu (a ∷ [])

-- two values in either order
swapped : SameValues (engine_given 0x7E9 0x1A 0xF8 ∷ speed_given 0x7E9 0x20 ∷ []) (speed_given 0x7E9 0x20 ∷ engine_given 0x7E9 0x1A 0xF8 ∷ [])
swapped p = by_test (eqb 0x0C p) (λ t. rw (← eqb-true 0x0C p t) refl) (λ t. rw t refl)

pub first_fits : EveryFits first
unfolding line_text reply_text hex_digit value_format group_bytes j1979
first_fits = fits first_run refl

-- the records of the first two have the same bytes, since the vehicles gave the same
same_records : hire_record first ≡ hire_record (other 0xF8)
unfolding line_text reply_text hex_digit value_format group_bytes j1979
same_records =
    let same = (agreement first (other 0xF8) first_run.ran second_run.ran).equal (good_all first_run (λ p. 3) good_unknown)
    (good_all second_run (λ p. 3) (good_known 0xF8)) first_fits (fits second_run refl) in
    same.1 (rw (first_run.reads, second_run.reads) ((λ p. refl), ((λ p. refl), (swapped, ((λ p. refl), tt)))))

-- the low byte of the first value
abbrev low_of : List Value → ℕ
low_of [] = 0
low_of (v ∷ vs) = get_or v.bytes 1 0

-- and that of the third differs, since its vehicle gave another value
other_record : hire_record first ≡ hire_record (other 0xF9) → ⊥
unfolding line_text reply_text hex_digit value_format group_bytes j1979
other_record h =
    let same = (agreement first (other 0xF9) first_run.ran third_run.ran).equal (good_all first_run (λ p. 3) good_unknown)
    (good_all third_run (λ p. 3) (good_known 0xF9)) first_fits (fits third_run refl) in
    let e : ◌≡◌ {A = ℕ} 0xF8 0xF9 = ap low_of ((rw (first_run.reads, third_run.reads) at (same.0 h)).0 0x0C) in
    absurd (omega arith)

-- ---- one query of two PIDs, answered by two ECUs

abbrev both : List Line → List Query
both ls = query (0x0D ∷ 0x0C ∷ []) 0 ls ∷ []

abbrev both_run : List Line → List ℕ → Drive
both_run ls values = drive true [] (script_of (both ls)) (replicate 31 0) (4 ∷ values) (record { answer = Ok tt; written = 31 })

-- both PIDs on a line: of 7E9, and of 7E8
abbrev of_7e9 : Line
of_7e9 = line 0x7EA (0x41 ∷ 0x0D ∷ 0x20 ∷ 0x0C ∷ 0x1A ∷ 0xF8 ∷ [])

abbrev of_7e8 : Line
of_7e8 = line 0x7E9 (0x41 ∷ 0x0C ∷ 0 ∷ 1 ∷ 0x0D ∷ 0x21 ∷ [])

-- a PID on a line: as part of the reply, and as a value of the record
abbrev engine_line : ℕ → ℕ → ℕ → Line
engine_line ecu a b = line ecu (0x41 ∷ 0x0C ∷ a ∷ b ∷ [])

abbrev speed_line : ℕ → ℕ → Line
speed_line ecu a = line ecu (0x41 ∷ 0x0D ∷ a ∷ [])

abbrev engine_of : ℕ → ℕ → ℕ → List ℕ
engine_of low a b = 0x0C ∷ low ∷ 0x0F ∷ 0x04 ∷ 0x41 ∷ 0x0C ∷ a ∷ b ∷ []

abbrev speed_of : ℕ → ℕ → List ℕ
speed_of low a = 0x0D ∷ low ∷ 0x0F ∷ 0x03 ∷ 0x41 ∷ 0x0D ∷ a ∷ []

-- 7E9 answers first, line by line or PID by PID; and 7E8 does
abbrev by_line : Drive
by_line = both_run (of_7e9 ∷ of_7e8 ∷ []) (engine_of 0xEA 0x1A 0xF8 ++ engine_of 0xE9 0 1 ++ speed_of 0xEA 0x20 ++ speed_of 0xE9 0x21)

abbrev by_pid : Drive
by_pid =
    both_run (engine_line 0x7EA 0x1A 0xF8 ∷ engine_line 0x7E9 0 1 ∷ speed_line 0x7EA 0x20 ∷ speed_line 0x7E9 0x21 ∷ [])
    (engine_of 0xEA 0x1A 0xF8 ++ engine_of 0xE9 0 1 ++ speed_of 0xEA 0x20 ++ speed_of 0xE9 0x21)

abbrev turned : Drive
turned = both_run (of_7e8 ∷ of_7e9 ∷ []) (engine_of 0xE9 0 1 ++ engine_of 0xEA 0x1A 0xF8 ++ speed_of 0xE9 0x21 ++ speed_of 0xEA 0x20)

by_line_run : Computed by_line (both (of_7e9 ∷ of_7e8 ∷ [])) (ascii "010D0C" ∷ [])
unfolding has high is_space raised hex_digit digit j1979 mode01_lengths group_bytes lines_of_list value_format at_kind line_text reply_text canonical
    unless byte_taken byte_says bytes_say answer_says reply_says text_of_query text_lines text_line lines_of_reply walked answer_order learn_length init_says query_says
    reply_takes piece_says finish_says script query_format exchanged pieces initialised part run_says
by_line_run = record { ran = record { bytes = low_at by_line.script_bytes refl; ran = refl }; reads = refl; handed = refl }

by_pid_run : Computed by_pid (both (engine_line 0x7EA 0x1A 0xF8 ∷ engine_line 0x7E9 0 1 ∷ speed_line 0x7EA 0x20 ∷ speed_line 0x7E9 0x21 ∷ [])) (ascii "010D0C" ∷ [])
unfolding has high is_space raised hex_digit digit j1979 mode01_lengths group_bytes lines_of_list value_format at_kind line_text reply_text canonical
    unless byte_taken byte_says bytes_say answer_says reply_says text_of_query text_lines text_line lines_of_reply walked answer_order learn_length init_says query_says
    reply_takes piece_says finish_says script query_format exchanged pieces initialised part run_says
by_pid_run = record { ran = record { bytes = low_at by_pid.script_bytes refl; ran = refl }; reads = refl; handed = refl }

turned_run : Computed turned (both (of_7e8 ∷ of_7e9 ∷ [])) (ascii "010D0C" ∷ [])
unfolding has high is_space raised hex_digit digit j1979 mode01_lengths group_bytes lines_of_list value_format at_kind line_text reply_text canonical
    unless byte_taken byte_says bytes_say answer_says reply_says text_of_query text_lines text_line lines_of_reply walked answer_order learn_length init_says query_says
    reply_takes piece_says finish_says script query_format exchanged pieces initialised part run_says
turned_run = record { ran = record { bytes = low_at turned.script_bytes refl; ran = refl }; reads = refl; handed = refl }

module _ (L : ℕ → ℕ) where
  good_7E9 : GoodLine L of_7e9
  unfolding j1979
  good_7E9 = (_, refl, table _ _ (next 0x0D (0x20 ∷ []) _ _ refl refl (next 0x0C (0x1A ∷ 0xF8 ∷ []) [] _ refl refl end)))

  good_7E8 : GoodLine L of_7e8
  unfolding j1979
  good_7E8 = (_, refl, table _ _ (next 0x0C (0 ∷ 1 ∷ []) _ _ refl refl (next 0x0D (0x21 ∷ []) [] _ refl refl end)))

  good_engine-line : (ecu a b : ℕ) → GoodLine L (engine_line ecu a b)
  unfolding j1979
  good_engine-line ecu a b = (_, refl, table _ _ (next 0x0C (a ∷ b ∷ []) [] _ refl refl end))

  good_speed-line : (ecu a : ℕ) → GoodLine L (speed_line ecu a)
  unfolding j1979
  good_speed-line ecu a = (_, refl, table _ _ (next 0x0D (a ∷ []) [] _ refl refl end))

good_by_line : GoodAll by_line
good_by_line = let L : (ℕ → ℕ) = λ p. 0 in good_all by_line_run L ((good_7E9 L, (good_7E8 L, tt)), tt)

good_by_pid : GoodAll by_pid
good_by_pid =
    let L : (ℕ → ℕ) = λ p. 0 in
    good_all by_pid_run L
    ((good_engine-line L 0x7EA 0x1A 0xF8, (good_engine-line L 0x7E9 0 1, (good_speed-line L 0x7EA 0x20, (good_speed-line L 0x7E9 0x21, tt)))), tt)

good_turned : GoodAll turned
good_turned = let L : (ℕ → ℕ) = λ p. 0 in good_all turned_run L ((good_7E8 L, (good_7E9 L, tt)), tt)

-- the values of each PID, of 7E9 and of 7E8, as the first two vehicles sent them
regrouped : SameValues
    (speed_given 0x7EA 0x20 ∷ engine_given 0x7EA 0x1A 0xF8 ∷ engine_given 0x7E9 0 1 ∷ speed_given 0x7E9 0x21 ∷ [])
    (engine_given 0x7EA 0x1A 0xF8 ∷ engine_given 0x7E9 0 1 ∷ speed_given 0x7EA 0x20 ∷ speed_given 0x7E9 0x21 ∷ [])
regrouped p = by_test (eqb 0x0D p) (λ t. rw (← eqb-true 0x0D p t) refl) (λ t. rw t refl)

-- the first two records have the same bytes: the PIDs came in different orders, and within each PID the ECUs in the same order
other_order : hire_record by_line ≡ hire_record by_pid
unfolding line_text reply_text hex_digit value_format group_bytes j1979
other_order =
    let same = (agreement by_line by_pid by_line_run.ran by_pid_run.ran).equal good_by_line good_by_pid (fits by_line_run refl) (fits by_pid_run refl) in
    same.1 (rw (by_line_run.reads, by_pid_run.reads) (regrouped, tt))

-- the ECU+1 of the first value
abbrev ecu_of : List Value → ℕ
ecu_of [] = 0
ecu_of (v ∷ vs) = v.ecu

-- and the third has other bytes, since within each PID the ECUs came in the other order
other_ecu : hire_record by_line ≡ hire_record turned → ⊥
unfolding line_text reply_text hex_digit value_format group_bytes j1979
other_ecu h =
    let same = (agreement by_line turned by_line_run.ran turned_run.ran).equal good_by_line good_turned (fits by_line_run refl) (fits turned_run refl) in
    let e : ◌≡◌ {A = ℕ} 0x7EA 0x7E9 = ap ecu_of ((rw (by_line_run.reads, turned_run.reads) at (same.0 h)).0 0x0C) in
    absurd (omega arith)

-- ---- queries without lines (document 02 §13)

-- vehicle speed is asked for four times: first of all and unanswered, after engine speed and unanswered, again, and again, with an answer
abbrev pub vehicle : List Line → Query
vehicle ls = query (0x0D ∷ []) 0 ls

abbrev silent : ℕ → List Line → List Query
silent ecu ls = vehicle [] ∷ engine ecu 0xF8 ∷ vehicle [] ∷ vehicle ls ∷ vehicle (speed_line ecu 0x20 ∷ []) ∷ []

-- with repeat on
abbrev silent_run : Drive
silent_run = drive true [] (script_of (silent 0 [])) (replicate 20 0) ((0 ∷ 1 ∷ engine_value 0xF8) ++ (0 ∷ 0 ∷ 1 ∷ speed_value)) (record { answer = Ok tt; written = 20 })

silent_run_lem : Computed silent_run (silent 0 []) (ascii "010D" ∷ ascii "010C1" ∷ ascii "010D" ∷ ascii "010D" ∷ ascii "010D" ∷ [])
unfolding has high is_space raised hex_digit digit j1979 mode01_lengths group_bytes lines_of_list value_format at_kind line_text reply_text canonical
    unless byte_taken byte_says bytes_say answer_says reply_says text_of_query text_lines text_line lines_of_reply walked answer_order learn_length init_says query_says
    reply_takes piece_says finish_says script query_format exchanged pieces initialised part run_says
silent_run_lem = record { ran = record { bytes = low_at silent_run.script_bytes refl; ran = refl }; reads = refl; handed = refl }

-- with repeat off, other pieces, and a known ECU
abbrev silent_off : Drive
silent_off =
    drive false (1 ∷ 2 ∷ 0 ∷ 200 ∷ 3 ∷ []) (script_of (silent 0x7E9 [])) (replicate 21 0) ((0 ∷ 1 ∷ engine_value 0xF8) ++ (0 ∷ 0 ∷ 1 ∷ speed_value) ++ (0 ∷ []))
    (record { answer = Ok tt; written = 20 })

silent_off_run : Computed silent_off (silent 0x7E9 []) (ascii "010D" ∷ ascii "010C1" ∷ ascii "010D" ∷ ascii "010D" ∷ ascii "010D" ∷ [])
unfolding has high is_space raised hex_digit digit j1979 mode01_lengths group_bytes lines_of_list value_format at_kind line_text reply_text canonical
    unless byte_taken byte_says bytes_say answer_says reply_says text_of_query text_lines text_line lines_of_reply walked answer_order learn_length init_says query_says
    reply_takes piece_says finish_says script query_format exchanged pieces initialised part run_says
silent_off_run = record { ran = record { bytes = low_at silent_off.script_bytes refl; ran = refl }; reads = refl; handed = refl }

-- with an answer to the fourth query
abbrev spoken : Drive
spoken =
    drive true [] (script_of (silent 0 (speed_line 0 0x20 ∷ []))) (replicate 27 0) ((0 ∷ 1 ∷ engine_value 0xF8) ++ (0 ∷ 1 ∷ speed_value) ++ (1 ∷ speed_value))
    (record { answer = Ok tt; written = 27 })

spoken_run : Computed spoken (silent 0 (speed_line 0 0x20 ∷ [])) (ascii "010D" ∷ ascii "010C1" ∷ ascii "010D" ∷ ascii "010D" ∷ ascii "010D" ∷ [])
unfolding has high is_space raised hex_digit digit j1979 mode01_lengths group_bytes lines_of_list value_format at_kind line_text reply_text canonical
    unless byte_taken byte_says bytes_say answer_says reply_says text_of_query text_lines text_line lines_of_reply walked answer_order learn_length init_says query_says
    reply_takes piece_says finish_says script query_format exchanged pieces initialised part run_says
spoken_run = record { ran = record { bytes = low_at spoken.script_bytes refl; ran = refl }; reads = refl; handed = refl }

good_silent : (L : ℕ → ℕ) (ecu : ℕ) (ls : List Line) → GoodLines L ls → GoodQueries L (silent ecu ls)
good_silent L ecu ls g = (tt, (good_engine L ecu 0xF8, (tt, (g, ((good_speed-line L ecu 0x20, tt), tt)))))

-- the first two records have the same bytes
silent-same : hire_record silent_run ≡ hire_record silent_off
unfolding line_text reply_text hex_digit value_format group_bytes j1979
silent-same =
    let L : (ℕ → ℕ) = λ p. 0 in
    let same = (agreement silent_run silent_off silent_run_lem.ran silent_off_run.ran).equal (good_all silent_run_lem L (good_silent L 0 [] tt))
    (good_all silent_off_run L (good_silent L 0x7E9 [] tt)) (fits silent_run_lem refl) (fits silent_off_run refl) in
    same.1 (rw (silent_run_lem.reads, silent_off_run.reads) ((λ p. refl), ((λ p. refl), ((λ p. refl), ((λ p. refl), ((λ p. refl), tt))))))

-- and the third has others, since "no values on one side matches only no values on the other"
silent-other : hire_record silent_run ≡ hire_record spoken → ⊥
unfolding line_text reply_text hex_digit value_format group_bytes j1979
silent-other h =
    let L : (ℕ → ℕ) = λ p. 0 in
    let same = (agreement silent_run spoken silent_run_lem.ran spoken_run.ran).equal (good_all silent_run_lem L (good_silent L 0 [] tt))
    (good_all spoken_run L (good_silent L 0 (speed_line 0 0x20 ∷ []) (good_speed-line L 0 0x20, tt))) (fits silent_run_lem refl) (fits spoken_run refl) in
    let e : ◌≡◌ {A = ℕ} 0 1 = ap length ((rw (silent_run_lem.reads, spoken_run.reads) at (same.0 h)).1.1.1.0 0x0D) in
    absurd (omega arith)

-- two such queries in a record of one byte: 6 comes at the second part, `00`, and what stands agrees with the longer run
abbrev silent_full : Drive
silent_full = drive true [] (script_of (vehicle [] ∷ vehicle [] ∷ [])) (0 ∷ []) (0 ∷ []) (record { answer = Err refusal.SmallBuffer; written = 1 })

silent_full_run : Computed silent_full (vehicle [] ∷ vehicle [] ∷ []) (ascii "010D" ∷ ascii "010D" ∷ [])
unfolding has high is_space raised hex_digit digit j1979 mode01_lengths group_bytes lines_of_list value_format at_kind line_text reply_text canonical
    unless byte_taken byte_says bytes_say answer_says reply_says text_of_query text_lines text_line lines_of_reply walked answer_order learn_length init_says query_says
    reply_takes piece_says finish_says script query_format exchanged pieces initialised part run_says
silent_full_run = record { ran = record { bytes = low_at silent_full.script_bytes refl; ran = refl }; reads = refl; handed = refl }

silent_stands : first_parts 1 (hire_record silent_run) ≡ first_parts 1 (hire_record silent_full)
unfolding read_record value_format
silent_stands =
    let L : (ℕ → ℕ) = λ p. 0 in
    let holds = (agreement silent_run silent_full silent_run_lem.ran silent_full_run.ran).before 1 (omega arith) (omega arith)
    (good_first silent_run_lem L 1 (tt, tt)) (good_first silent_full_run L 1 (tt, tt)) in
    holds.1 (rw (silent_run_lem.reads, silent_full_run.reads) ((λ p. refl), tt))

-- ---- runs that ended early

-- two parts stand where 6 ended the run, and one where 8 did; the claim holds of them, whatever the queries that never ran
two_stand : first_parts 2 (hire_record first) ≡ first_parts 2 (hire_record last_unasked)
unfolding read_record value_format
two_stand =
    let holds = (agreement first last_unasked first_run.ran unasked_run.ran).before 2 (omega arith) (omega arith)
    (good_first first_run (λ p. 3) 2 (good_engine (λ p. 3) 0 0xF8, (good_engine (λ p. 3) 0 0xF8, tt)))
    (good_first unasked_run (λ p. 3) 2 (good_engine (λ p. 3) 0 0xF8, (good_engine (λ p. 3) 0 0xF8, tt))) in
    holds.1 (rw (first_run.reads, unasked_run.reads) ((λ p. refl), ((λ p. refl), tt)))

one_stands : first_parts 1 (hire_record first) ≡ first_parts 1 (hire_record ended8)
unfolding read_record value_format
one_stands =
    let holds = (agreement first ended8 first_run.ran ended8_run.ran).before 1 (omega arith) (omega arith)
    (good_first first_run (λ p. 3) 1 (good_engine (λ p. 3) 0 0xF8, tt))
    (good_first ended8_run (λ p. 3) 1 (good_engine (λ p. 3) 0 0xF8, tt)) in
    holds.1 (rw (first_run.reads, ended8_run.reads) ((λ p. refl), tt))
