-- Premises of demand 3 that are needed: for each there are runs that meet the others, of which the claim is false. For two words none were found (the end of this file).
-- Fresh sessions, framing on and ATZ's answer as one piece are no premises here: the run is defined so.
use mathlib.Core.Path.{◌≡◌, refl, ap}
use mathlib.Core.Bool.{true}
use mathlib.Core.List.{List, [], ◌∷◌, ◌++◌}
use Prim.Native.Nat.{ℕ}
use native.Mathlib.Omega.{arith}
use lib.ListN.{length, get_or, replicate}
use Rattle.wire.specs.Answer.{unless}
use Rattle.wire.specs.Text.{ascii, has, high, is_space, raised}
use Rattle.wire.specs.declared.Refusal.TheVariants as refusal
use Rattle.hex_text.specs.Digits.{hex_digit}
use Rattle.hex_text.specs.Read.{digit}
use Rattle.pid.specs.J1979.{j1979}
use Rattle.pid.specs.Lengths.{mode01_lengths}
use Rattle.group.specs.Group.{group_bytes}
use Rattle.group.specs.Format.{write_row}
use Rattle.line_list.specs.Lines.{Line, line, lines_of_list}
use Rattle.value.specs.Values.{Value, value_format, part_format, read_record}
use Rattle.at_command.specs.Dialect.{at_kind}
use Rattle.reply.specs.Reply.{line_text, reply_text}
use Rattle.server_session.specs.Bytes.{canonical, byte_taken, byte_says, bytes_say}
use Rattle.server_session.specs.Replies.{answer_says, reply_says}
use Rattle.query.specs.Query.{text_of_query}
use Rattle.reply_lines.specs.Lines.{text_lines}
use Rattle.reply_lines.specs.Decode.{text_line, lines_of_reply}
use Rattle.reply_values.specs.Values.{walked, answer_order}
use Rattle.reply_values.specs.Learn.{learn_length}
use Rattle.client_session.specs.Start.{init_says, query_says}
use Rattle.client_session.specs.Piece.{reply_takes, piece_says}
use Rattle.client_session.specs.Finish.{finish_says}
use Rattle.bench.specs.Script.{Query, query, query_format, script}
use Rattle.bench.specs.Exchange.{exchanged}
use Rattle.bench.specs.Deliver.{pieces}
use Rattle.std.specs.Prelude.{Ok, Err}
use Rattle.bench.specs.Run.{initialised, part, run_says, recorded, run_lent}
use Rattle.agreement.specs.Lines.{end, next, alone, table}
use Rattle.agreement.specs.Demand.{first_parts, Drive, drive, comes_to, Ran, hire_record, GoodFirst, GoodAll, EveryFits, Holds, Equal, EqualFirst}
use Rattle.agreement.proofs.Parts.{ordered}
use Rattle.agreement.proofs.Witness.{
  script_of,
  low_at,
  Computed,
  good_first,
  good_all,
  fits,
  engine,
  own,
  unknown,
  engine_value,
  speed_value,
  own_value,
  good_engine,
  good_own,
  good_unknown,
  good_8,
  first,
  first_run,
  first_fits,
  ended6,
  ended6_run,
  ended8,
  ended8_run,
  vehicle,
}

-- how many data bytes the first value has
abbrev data_of : List Value → ℕ
data_of [] = 0
data_of (v ∷ vs) = length v.bytes

-- and the first of them
abbrev byte_of : List Value → ℕ
byte_of [] = 0
byte_of (v ∷ vs) = get_or v.bytes 0 0

-- a query of the maker's own PID
abbrev makers : List Line → Query
makers ls = query (0xE0 ∷ []) 0 ls

-- ---- "a PID outside the table stands alone on its line"

-- Its length is learned from the first query, so the client finds a further PID on the line, and the vehicle gave none.
abbrev crowded : List Query
crowded = own ∷ vehicle (line 0 (0x41 ∷ 0x0D ∷ 0x20 ∷ 0xE0 ∷ 1 ∷ 2 ∷ 3 ∷ 0x0C ∷ 0x1A ∷ 0xF8 ∷ []) ∷ []) ∷ []

abbrev apart : List Query
apart =
    own ∷ vehicle (line 0 (0x41 ∷ 0x0D ∷ 0x20 ∷ []) ∷ line 0 (0x41 ∷ 0xE0 ∷ 1 ∷ 2 ∷ 3 ∷ []) ∷ line 0 (0x41 ∷ 0x0C ∷ 0x1A ∷ 0xF8 ∷ []) ∷ []) ∷ []

abbrev three_values : List Query → Drive
three_values qs = drive true [] (script_of qs) (replicate 35 0) ((1 ∷ own_value) ++ (3 ∷ engine_value 0xF8) ++ speed_value ++ own_value) (record { answer = Ok tt; written = 35 })

crowded_run : Computed (three_values crowded) crowded (ascii "01E0" ∷ ascii "010D" ∷ [])
unfolding has high is_space raised hex_digit digit j1979 mode01_lengths group_bytes lines_of_list value_format at_kind line_text reply_text canonical
    unless byte_taken byte_says bytes_say answer_says reply_says text_of_query text_lines text_line lines_of_reply walked answer_order learn_length init_says query_says
    reply_takes piece_says finish_says script query_format exchanged pieces initialised part run_says
crowded_run = record { ran = record { bytes = low_at (script_of crowded) refl; ran = refl }; reads = refl; handed = refl }

apart_run : Computed (three_values apart) apart (ascii "01E0" ∷ ascii "010D" ∷ [])
unfolding has high is_space raised hex_digit digit j1979 mode01_lengths group_bytes lines_of_list value_format at_kind line_text reply_text canonical
    unless byte_taken byte_says bytes_say answer_says reply_says text_of_query text_lines text_line lines_of_reply walked answer_order learn_length init_says query_says
    reply_takes piece_says finish_says script query_format exchanged pieces initialised part run_says
apart_run = record { ran = record { bytes = low_at (script_of apart) refl; ran = refl }; reads = refl; handed = refl }

good_apart : GoodAll (three_values apart)
unfolding j1979
good_apart = good_all apart_run (λ p. 3) (
  good_own,
  (
    (
      (_, refl, table _ _ (next 0x0D (0x20 ∷ []) [] _ refl refl end)),
      ((_, refl, alone 0xE0 (1 ∷ 2 ∷ 3 ∷ []) refl refl), ((_, refl, table _ _ (next 0x0C (0x1A ∷ 0xF8 ∷ []) [] _ refl refl end)), tt)),
    ),
    tt,
  ),
)

not_alone : GoodAll (three_values apart) × EveryFits (three_values crowded) × EveryFits (three_values apart) × (Equal (three_values crowded) (three_values apart) → ⊥)
unfolding line_text reply_text hex_digit value_format group_bytes j1979
not_alone = (
  good_apart,
  fits crowded_run refl,
  fits apart_run refl,
  λ c.
      let gave = rw (crowded_run.reads, apart_run.reads) at (c.0 refl) in
      let e : ◌≡◌ {A = ℕ} 6 3 = ap data_of (gave.1.0 0xE0) in
      absurd (omega arith),
)

-- ---- "with one length throughout its run"

abbrev longer : List Query
longer = own ∷ makers (line 0 (0x41 ∷ 0xE0 ∷ 1 ∷ 2 ∷ 3 ∷ 0x0D ∷ 0x20 ∷ []) ∷ []) ∷ []

abbrev level : List Query
level = own ∷ makers (line 0 (0x41 ∷ 0xE0 ∷ 1 ∷ 2 ∷ 3 ∷ []) ∷ line 0 (0x41 ∷ 0x0D ∷ 0x20 ∷ []) ∷ []) ∷ []

abbrev two_values : List Query → Drive
two_values qs = drive true [] (script_of qs) (replicate 27 0) ((1 ∷ own_value) ++ (2 ∷ speed_value) ++ own_value) (record { answer = Ok tt; written = 27 })

longer_run : Computed (two_values longer) longer (ascii "01E0" ∷ ascii "01E0" ∷ [])
unfolding has high is_space raised hex_digit digit j1979 mode01_lengths group_bytes lines_of_list value_format at_kind line_text reply_text canonical
    unless byte_taken byte_says bytes_say answer_says reply_says text_of_query text_lines text_line lines_of_reply walked answer_order learn_length init_says query_says
    reply_takes piece_says finish_says script query_format exchanged pieces initialised part run_says
longer_run = record { ran = record { bytes = low_at (script_of longer) refl; ran = refl }; reads = refl; handed = refl }

level_run : Computed (two_values level) level (ascii "01E0" ∷ ascii "01E0" ∷ [])
unfolding has high is_space raised hex_digit digit j1979 mode01_lengths group_bytes lines_of_list value_format at_kind line_text reply_text canonical
    unless byte_taken byte_says bytes_say answer_says reply_says text_of_query text_lines text_line lines_of_reply walked answer_order learn_length init_says query_says
    reply_takes piece_says finish_says script query_format exchanged pieces initialised part run_says
level_run = record { ran = record { bytes = low_at (script_of level) refl; ran = refl }; reads = refl; handed = refl }

good_level : GoodAll (two_values level)
unfolding j1979
good_level = good_all level_run (λ p. 3) (
  good_own,
  (((_, refl, alone 0xE0 (1 ∷ 2 ∷ 3 ∷ []) refl refl), ((_, refl, table _ _ (next 0x0D (0x20 ∷ []) [] _ refl refl end)), tt)), tt),
)

two_lengths : GoodAll (two_values level) × EveryFits (two_values longer) × EveryFits (two_values level) × (Equal (two_values longer) (two_values level) → ⊥)
unfolding line_text reply_text hex_digit value_format group_bytes j1979
two_lengths = (
  good_level,
  fits longer_run refl,
  fits level_run refl,
  λ c.
      let gave = rw (longer_run.reads, level_run.reads) at (c.0 refl) in
      let e : ◌≡◌ {A = ℕ} 5 3 = ap data_of (gave.1.0 0xE0) in
      absurd (omega arith),
)

-- It is asked of the query that ended a run too, for what holds of the run: the part has 17 bytes, and what the vehicle gave takes 12.
abbrev overrun : Drive
overrun = drive true [] (script_of longer) (replicate 24 0) ((1 ∷ own_value) ++ replicate 14 0) (record { answer = Err refusal.SmallBuffer; written = 10 })

overrun_run : Computed overrun longer (ascii "01E0" ∷ ascii "01E0" ∷ [])
unfolding has high is_space raised hex_digit digit j1979 mode01_lengths group_bytes lines_of_list value_format at_kind line_text reply_text canonical
    unless byte_taken byte_says bytes_say answer_says reply_says text_of_query text_lines text_line lines_of_reply walked answer_order learn_length init_says query_says
    reply_takes piece_says finish_says script query_format exchanged pieces initialised part run_says
overrun_run = record { ran = record { bytes = low_at (script_of longer) refl; ran = refl }; reads = refl; handed = refl }

last_of_another_length : GoodFirst 1 overrun × (Holds overrun → ⊥)
unfolding read_record line_text reply_text hex_digit value_format group_bytes j1979
last_of_another_length = (
  good_first overrun_run (λ p. 3) 1 (good_own, tt),
  λ h.
      let e : ◌≡◌ {A = ℕ} 1 2 = rw overrun_run.reads at h.stand in
      absurd (omega arith),
)

-- ---- "that fits the limits"

abbrev once : List Query
once = engine 0 0xF8 ∷ []

abbrev twice : List Query
twice = engine 0 0xF8 ∷ engine 0 0xF8 ∷ []

abbrev one_part : Drive
one_part = drive true [] (script_of once) (replicate 9 0) (1 ∷ engine_value 0xF8) (record { answer = Ok tt; written = 9 })

abbrev two_parts : Drive
two_parts = drive true [] (script_of twice) (replicate 18 0) ((1 ∷ engine_value 0xF8) ++ (1 ∷ engine_value 0xF8)) (record { answer = Ok tt; written = 18 })

once_run : Computed one_part once (ascii "010C1" ∷ [])
unfolding has high is_space raised hex_digit digit j1979 mode01_lengths group_bytes lines_of_list value_format at_kind line_text reply_text canonical
    unless byte_taken byte_says bytes_say answer_says reply_says text_of_query text_lines text_line lines_of_reply walked answer_order learn_length init_says query_says
    reply_takes piece_says finish_says script query_format exchanged pieces initialised part run_says
once_run = record { ran = record { bytes = low_at (script_of once) refl; ran = refl }; reads = refl; handed = refl }

twice_run : Computed two_parts twice (ascii "010C1" ∷ ascii "010C1" ∷ [])
unfolding has high is_space raised hex_digit digit j1979 mode01_lengths group_bytes lines_of_list value_format at_kind line_text reply_text canonical
    unless byte_taken byte_says bytes_say answer_says reply_says text_of_query text_lines text_line lines_of_reply walked answer_order learn_length init_says query_says
    reply_takes piece_says finish_says script query_format exchanged pieces initialised part run_says
twice_run = record { ran = record { bytes = low_at (script_of twice) refl; ran = refl }; reads = refl; handed = refl }

-- a run that 6 or 8 ended has the record of a shorter list
part_overruns : GoodAll ended6 × GoodAll two_parts × EveryFits two_parts × (Equal ended6 two_parts → ⊥)
unfolding line_text reply_text hex_digit value_format group_bytes j1979
part_overruns = (
  good_all ended6_run (λ p. 3) good_unknown,
  good_all twice_run (λ p. 3) (good_engine (λ p. 3) 0 0xF8, (good_engine (λ p. 3) 0 0xF8, tt)),
  fits twice_run refl,
  λ c. (rw (ended6_run.reads, twice_run.reads) at (c.0 refl)).1.1,
)

reply_too_long : GoodAll one_part × GoodAll ended8 × EveryFits one_part × (Equal one_part ended8 → ⊥)
unfolding line_text reply_text hex_digit value_format group_bytes j1979
reply_too_long = (
  good_all once_run (λ p. 3) (good_engine (λ p. 3) 0 0xF8, tt),
  good_all ended8_run (λ p. 253) good_8,
  fits once_run refl,
  λ c. (rw (once_run.reads, ended8_run.reads) at (c.0 refl)).1,
)

-- ---- "of the queries before that point, whose parts stand"

more_than_stand : EqualFirst 3 first ended6 → ⊥
unfolding first_parts read_record line_text reply_text hex_digit value_format group_bytes j1979
more_than_stand h =
    let e : ◌≡◌ {A = ℕ} 34 18 = ap length (h.1 (rw first_run.reads ((λ p. refl), ((λ p. refl), ((λ p. refl), tt))))) in
    absurd (omega arith)

more_than_stand_before : EqualFirst 3 ended6 first → ⊥
unfolding first_parts read_record line_text reply_text hex_digit value_format group_bytes j1979
more_than_stand_before h =
    let e : ◌≡◌ {A = ℕ} 18 34 = ap length (h.1 (rw first_run.reads ((λ p. refl), ((λ p. refl), ((λ p. refl), tt))))) in
    absurd (omega arith)

-- ---- what is known of a call

-- A run that wrote nothing.
abbrev unwritten : Drive
unwritten = drive true [] (script_of unknown) (replicate 45 0) (replicate 45 0) (record { answer = Ok tt; written = 0 })

contract_broken : GoodAll unwritten × EveryFits unwritten × (Equal first unwritten → ⊥)
unfolding line_text reply_text hex_digit value_format group_bytes j1979
contract_broken = (
  ((λ p. 3), rw first_run.reads good_unknown),
  first_fits,
  λ c.
      let e : ◌≡◌ {A = ℕ} 44 0 = ap length (c.1 (rw first_run.reads ((λ p. refl), ((λ p. refl), ((λ p. refl), ((λ p. refl), tt)))))) in
      absurd (omega arith),
)

-- A number over 255 is no byte: the reply has its last two digits alone.
abbrev speed : ℕ → List Query
speed b = vehicle (line 0 (0x41 ∷ 0x0D ∷ b ∷ []) ∷ []) ∷ []

abbrev speed_run : ℕ → Drive
speed_run b = drive true [] (script_of (speed b)) (replicate 8 0) (1 ∷ speed_value) (record { answer = Ok tt; written = 8 })

speed_run_lem : Computed (speed_run 0x20) (speed 0x20) (ascii "010D" ∷ [])
unfolding has high is_space raised hex_digit digit j1979 mode01_lengths group_bytes lines_of_list value_format at_kind line_text reply_text canonical
    unless byte_taken byte_says bytes_say answer_says reply_says text_of_query text_lines text_line lines_of_reply walked answer_order learn_length init_says query_says
    reply_takes piece_says finish_says script query_format exchanged pieces initialised part run_says
speed_run_lem = record { ran = record { bytes = low_at (script_of (speed 0x20)) refl; ran = refl }; reads = refl; handed = refl }

no_byte : (recorded (speed_run 0x120).run (speed_run 0x120).buffer ≡ run_lent (comes_to (speed_run 0x120)) (replicate 8 0)) × Ran (speed_run 0x20) × (Equal (speed_run 0x120) (speed_run 0x20) → ⊥)
unfolding has high is_space raised hex_digit digit j1979 mode01_lengths group_bytes lines_of_list value_format at_kind line_text reply_text
    canonical unless byte_taken byte_says bytes_say answer_says reply_says text_of_query text_lines text_line lines_of_reply walked answer_order learn_length init_says
    query_says reply_takes piece_says finish_says script query_format exchanged pieces initialised part run_says
no_byte = (
  refl,
  speed_run_lem.ran,
  λ c.
      let e : ◌≡◌ {A = ℕ} 0x120 0x20 = ap byte_of ((c.0 refl).0 0x0D) in
      absurd (omega arith),
)

-- ---- "A line is 41 and one or more PID values of the table's length"

-- No pair is given for these two words. A line that starts otherwise gives no value to the client, nor did the vehicle by it; and the last value of a line may be cut
-- short for both. Here are such lines, with the record that has what the vehicle gave.
abbrev loose : List Query
loose = vehicle (line 0 (0x42 ∷ 0x0D ∷ 0x20 ∷ []) ∷ line 0 (0x41 ∷ []) ∷ line 0 (0x41 ∷ 0x0D ∷ 0x20 ∷ 0x0C ∷ 0x1A ∷ []) ∷ []) ∷ []

abbrev loose_run : Drive
loose_run = drive true [] (script_of loose) (replicate 15 0) ((2 ∷ 0x0C ∷ 0xE9 ∷ 0x0F ∷ 3 ∷ 0x41 ∷ 0x0C ∷ 0x1A ∷ []) ++ speed_value) (record { answer = Ok tt; written = 15 })

loose_run_lem : Computed loose_run loose (ascii "010D" ∷ [])
unfolding has high is_space raised hex_digit digit j1979 mode01_lengths group_bytes lines_of_list value_format at_kind line_text reply_text canonical
    unless byte_taken byte_says bytes_say answer_says reply_says text_of_query text_lines text_line lines_of_reply walked answer_order learn_length init_says query_says
    reply_takes piece_says finish_says script query_format exchanged pieces initialised part run_says
loose_run_lem = record { ran = record { bytes = low_at (script_of loose) refl; ran = refl }; reads = refl; handed = refl }

loose-given : hire_record loose_run ≡ write_row part_format (ordered loose)
unfolding value_format group_bytes j1979 answer_order
loose-given = refl
