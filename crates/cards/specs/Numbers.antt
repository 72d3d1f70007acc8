-- Examples of group numbers, line lists, values, records, lengths and scripts. Document 01, "Group numbers and value records", pid.rs, "The bench run"; SAE J1979.
use Rattle.std.specs.Prelude.{true, false, List, [], ◌∷◌, map, ℕ, replicate, Ok, Err, Some, None}
use Rattle.std.proofs.Math.Option.{none, some}
use Rattle.wire.specs.Answer.{result, refused, count_answer, number_of}
use Rattle.wire.specs.Put.{count_written}
use Rattle.wire.specs.declared.Refusal.TheVariants.{Malformed, SmallBuffer}
use Rattle.group.specs.Group.{got, group_bytes}
use Rattle.group.specs.Answers.{group_read, group_at}
use Rattle.group.specs.Format.{write_row}
use Rattle.line_list.specs.Lines.{line, line_format, lines_bytes}
use Rattle.line_list.specs.Answers.{list_step, line_at, lines_in, put_line}
use Rattle.value.specs.Values.{Value, value, value_format, part_format, read_record, of_pid}
use Rattle.value.specs.Answers.{value_step, value_at}
use Rattle.pid.specs.J1979.{j1979}
use Rattle.pid.specs.Lengths.{mode01_lengths, entry_length, length_in, listed}
use Rattle.bench.specs.Script.{Query, query, query_format, script}
use Rattle.bench.specs.Steps.{query_at, queries_in}
use Rattle.cards.specs.Example.{Example, example}

-- a line list: from an unknown ECU, vehicle speed 20
abbrev pub speed_line : List ℕ
speed_line = 0x00 ∷ 0x03 ∷ 0x41 ∷ 0x0D ∷ 0x20 ∷ []

-- card 1's value; and a record of two queries, with no value and with one
abbrev engine_speed : List ℕ
engine_speed = 0x0C ∷ 0xE9 ∷ 0x0F ∷ 0x04 ∷ 0x41 ∷ 0x0C ∷ 0x1A ∷ 0xF8 ∷ []

abbrev pub two_parts : List ℕ
two_parts = 0x00 ∷ 0x01 ∷ 0x0D ∷ 0xE9 ∷ 0x0F ∷ 0x03 ∷ 0x41 ∷ 0x0D ∷ 0x20 ∷ []

abbrev speeds : List (List Value)
speeds = [] ∷ (value 0x0D 0x7E9 (0x20 ∷ []) ∷ []) ∷ []

-- document 01's worked script
abbrev pub worked : List ℕ
worked = 0x01 ∷ 0x0C ∷ 0x02 ∷ 0x01 ∷ 0x00 ∷ 0x04 ∷ 0x41 ∷ 0x0C ∷ 0x1A ∷ 0xF8 ∷ []

abbrev worked_queries : List Query
worked_queries = query (0x0C ∷ []) 2 (line 0 (0x41 ∷ 0x0C ∷ 0x1A ∷ 0xF8 ∷ []) ∷ []) ∷ []

-- a line with the highest ECU+1 and length; a query with the most PIDs and the highest ECU count+1
abbrev longest : List ℕ
longest = 0x80 ∷ 0x20 ∷ 0xFF ∷ 0x01 ∷ replicate 255 0x20

abbrev six_pids : List ℕ
six_pids = 0x06 ∷ 0x04 ∷ 0x05 ∷ 0x0B ∷ 0x0C ∷ 0x0D ∷ 0x0F ∷ 0x80 ∷ 0x02 ∷ 0x00 ∷ []

abbrev six : Query
six = query (0x04 ∷ 0x05 ∷ 0x0B ∷ 0x0C ∷ 0x0D ∷ 0x0F ∷ []) 256 []

abbrev pub numbers : List Example
numbers =
    example "127, 300 and 4,096 as group numbers" (map group_bytes (127 ∷ 300 ∷ 4096 ∷ [])) ((0x7F ∷ []) ∷ (0xAC ∷ 0x02 ∷ []) ∷ (0x80 ∷ 0x20 ∷ []) ∷ []) ∷
    example "300 after a byte" (group_at 511 (0x05 ∷ 0xAC ∷ 0x02 ∷ 0x07 ∷ []) 1) (group_read (Ok (record { value = 300; next = 3 }))) ∷
    example "80 00 is not the shortest form" (group_at 511 (0x80 ∷ 0x00 ∷ []) 0) (refused 5) ∷
    example "300 is over 255" (group_at 255 (0xAC ∷ 0x02 ∷ []) 0) (refused 5) ∷
    example "a number that does not end" (group_at 511 (0x80 ∷ []) 0) (group_read (Err Malformed)) ∷
    example "one line" (lines_in speed_line) (count_answer (Ok 1)) ∷
    example "its ECU, its data and the next line" (line_at speed_line 0) (result (some (record { ecu = 0; start = 2; next = 5 }))) ∷
    example "no line after it" (line_at speed_line 5) (list_step (Ok None)) ∷
    example "an ECU of 4,096 and one of 4,097" (lines_in (0x80 ∷ 0x20 ∷ 0x00 ∷ []) ∷ lines_in (0x81 ∷ 0x20 ∷ 0x00 ∷ []) ∷ []) (result 1 ∷ refused 5 ∷ []) ∷
    example "a line of 256 bytes" (lines_in (0x00 ∷ 0x80 ∷ 0x02 ∷ replicate 256 0)) (count_answer (Err Malformed)) ∷
    example "a line cut short" (line_at (0x00 ∷ 0x03 ∷ 0x41 ∷ []) 0) (list_step (Err Malformed)) ∷
    example "64 and 65 lines" (lines_in (replicate 128 0) ∷ lines_in (replicate 130 0) ∷ []) (result 64 ∷ refused 5 ∷ []) ∷
    example "a line of 7E8" (lines_bytes (line 0x7E9 (0x41 ∷ 0x0D ∷ 0x20 ∷ []) ∷ [])) (0xE9 ∷ 0x0F ∷ 0x03 ∷ 0x41 ∷ 0x0D ∷ 0x20 ∷ []) ∷
    example "an ECU+1 of 4,096 and 255 bytes, written" (line_format.write (line 4096 (replicate 255 0x20))) longest ∷
    example "the same read" (line_format.read longest) (got (line 4096 (replicate 255 0x20)) []) ∷
    example "a line written into what it takes, after two bytes" (put_line (replicate 7 0xFF) 2 (line 0 (0x41 ∷ 0x0D ∷ 0x20 ∷ []))) (count_written (Ok 7) (0xFF ∷ 0xFF ∷ speed_line)) ∷
    example "a byte less" (put_line (replicate 6 0xFF) 2 (line 0 (0x41 ∷ 0x0D ∷ 0x20 ∷ []))) (count_written (Err SmallBuffer) (replicate 6 0xFF)) ∷
    example "an ECU+1 of 4,097, and 256 bytes, for no room" (put_line [] 0 (line 4097 []) ∷ put_line [] 0 (line 0 (replicate 256 0)) ∷ [])
    (replicate 2 (count_written (Err Malformed) [])) ∷
    example "card 1's value written" (value_format.write (value 0x0C 0x7E9 (0x1A ∷ 0xF8 ∷ []))) engine_speed ∷
    example "the worked part written" (part_format.write (value 0x0C 0x7E9 (0x1A ∷ 0xF8 ∷ []) ∷ [])) (0x01 ∷ engine_speed) ∷
    example "the same read, before a byte" (part_format.read (0x01 ∷ 0x0C ∷ 0xE9 ∷ 0x0F ∷ 0x04 ∷ 0x41 ∷ 0x0C ∷ 0x1A ∷ 0xF8 ∷ 0x07 ∷ [])) (got (value 0x0C 0x7E9 (0x1A ∷ 0xF8 ∷ []) ∷ []) (0x07 ∷ [])) ∷
    example "a value of ECU+1 4,096 and of 4,097" (value_at (0x0D ∷ 0x80 ∷ 0x20 ∷ 0x02 ∷ 0x41 ∷ 0x0D ∷ []) 0 ∷ value_at (0x0D ∷ 0x81 ∷ 0x20 ∷ 0x02 ∷ 0x41 ∷ 0x0D ∷ []) 0 ∷ [])
    (result (some (record { pid = 0x0D; ecu = 4096; start = 6; next = 6 })) ∷ refused 5 ∷ []) ∷
    example "card 1's value: PID, ECU+1, where its data starts, and the end" (value_at engine_speed 0) (result (some (record { pid = 0x0C; ecu = 0x7E9; start = 6; next = 8 }))) ∷
    example "no value after it, and one of another PID than it says" (value_at engine_speed 8 ∷ value_at (0x0D ∷ 0x00 ∷ 0x02 ∷ 0x41 ∷ 0x0C ∷ []) 0 ∷ [])
    (value_step (Ok None) ∷ value_step (Err Malformed) ∷ []) ∷
    example "a record of two queries" (read_record two_parts) (got speeds []) ∷
    example "the same record written" (write_row part_format speeds) two_parts ∷
    example "the values of a PID" (of_pid 0x0D (value 0x0C 0 (0x1A ∷ 0xF8 ∷ []) ∷ value 0x0D 0 (0x20 ∷ []) ∷ [])) (value 0x0D 0 (0x20 ∷ []) ∷ []) ∷
    example "lengths of 1F, 24, 64, C0, and of 66 and E0, which the table has not" (map j1979 (0x1F ∷ 0x24 ∷ 0x64 ∷ 0xC0 ∷ 0x66 ∷ 0xE0 ∷ [])) (some 2 ∷ some 4 ∷ some 5 ∷ some 4 ∷ none ∷ none ∷ []) ∷
    example "the table: 1F, 64 and E0" (map (length_in mode01_lengths) (0x1F ∷ 0x64 ∷ 0xE0 ∷ [])) (map number_of (Some 2 ∷ Some 5 ∷ None ∷ [])) ∷
    example "a learned length of 0 is known" (entry_length 0) (some 0) ∷
    example "the known set: 65, 66, 80, A0, C0 and E0" (map listed (0x65 ∷ 0x66 ∷ 0x80 ∷ 0xA0 ∷ 0xC0 ∷ 0xE0 ∷ [])) (true ∷ false ∷ true ∷ true ∷ true ∷ false ∷ []) ∷
    example "the worked script's queries" (script worked) (result worked_queries) ∷
    example "the same script written" (write_row query_format worked_queries) worked ∷
    example "six PIDs and a count of 255, written" (query_format.write six) six_pids ∷
    example "the same read" (script six_pids) (result (six ∷ [])) ∷
    example "where its PIDs, its lines and the next query stand" (query_at worked 0) (result (some (record { pids = 1; few = 1; count = 2; list = 4; next = 10 }))) ∷
    example "no query after it" (query_at worked 10) (result none) ∷
    example "no PID, and seven" (query_at (0x00 ∷ 0x00 ∷ 0x00 ∷ []) 0 ∷ query_at (0x07 ∷ replicate 9 0) 0 ∷ []) (replicate 2 (refused 5)) ∷
    example "a count of 255 and of 256" (queries_in (0x01 ∷ 0x0C ∷ 0x80 ∷ 0x02 ∷ 0x00 ∷ []) ∷ queries_in (0x01 ∷ 0x0C ∷ 0x81 ∷ 0x02 ∷ 0x00 ∷ []) ∷ [])
    (result 1 ∷ refused 5 ∷ []) ∷
    example "a query of 64 lines and of 65" (queries_in (0x01 ∷ 0x0C ∷ 0x00 ∷ 0x40 ∷ replicate 128 0) ∷ queries_in (0x01 ∷ 0x0C ∷ 0x00 ∷ 0x41 ∷ replicate 130 0) ∷ [])
    (result 1 ∷ refused 5 ∷ []) ∷
    example "the empty script has no query" (queries_in []) (result 0) ∷
    example "16,384 bytes with no PID, and one byte more" (queries_in (replicate 16384 0) ∷ queries_in (replicate 16385 0) ∷ []) (refused 5 ∷ refused 3 ∷ []) ∷
    []
