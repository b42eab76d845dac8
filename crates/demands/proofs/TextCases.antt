-- Document 02, [1], [2], [3] and [10]: texts and the answers to them, computed of the definitions: a comma file and a
-- sheet as they are written, byte for byte, each refusal with its number and value, and the columns. Each declaration
-- has the name of its sentence. Assumes nothing.
use mathlib.Core.Path.{◌≡◌, refl}
use mathlib.Core.Bool.{false, true}
use mathlib.Core.List.{List, [], ◌∷◌, ◌++◌, map}
use Prim.Native.Nat.{ℕ}
use lib.IntN.{ℤ, pos, negsuc}
use lib.ListN.{replicate}
use Rattle.refusal.specs.declared.Refusal.TheVariants.{Line, TooShort}
use Rattle.refusal.specs.Numbers.{number_of, value_of}
use Rattle.sample_range.specs.Range.{first_bad}
use Rattle.decimal.specs.Decimal.{all_digits, digits_of, digits_within, is_number}
use Rattle.decimal.specs.Decimal as decimal
use Rattle.decimal.specs.Field.{field_text}
use Rattle.decimal.specs.Leading.{leading}
use Rattle.decimal.specs.Lines.{lines_of}
use Rattle.degrees.specs.Degrees.{degrees_text, filled, is_size, size, size_length}
use Rattle.comma_line.specs.Line as comma
use Rattle.comma_line.specs.Text.{first_wrong, text_from, text_of}
use Rattle.comma_read.specs.Answers.{reading_comma, reading_lines}
use Rattle.comma_write.specs.Answers.{last_time}
use Rattle.comma_write.specs.Answers as scribe
use Rattle.campaign_state.specs.Answers.{entering}
use Rattle.campaign_state.specs.State.{sound}
use Rattle.sheet_line.specs.Line.{telling}
use Rattle.sheet_records.specs.Answers as ledger
use Rattle.sheet_records.specs.Ledger.{lines_from, sheet_text}
use Rattle.sheet_line.specs.declared.Field.TheVariants.{Empty, LeadingZero, Number, Strange, TooLong}
use Rattle.sheet_line.specs.Field.{ends_here, fault_in, field_at, field_of, read_as}
use Rattle.sheet_line.specs.Column.{how_many, record_column, record_fields, standard_column, standard_fields}
use Rattle.sheet_line.specs.Form.{begins}
use Rattle.sheet_reply.specs.Written.{reason_text, refused_text}
use Rattle.refusal.specs.declared.Refusal.{Refusal}
use Rattle.std.specs.Prelude.{Result, Ok, Err}

-- ---- [1] comma files
-- nothing but a number for what is done, the number and the value for what is refused
abbrev of_reading : Result ℕ Refusal → List ℕ
of_reading (Ok n) = n ∷ []
of_reading (Err r) = number_of r ∷ value_of r ∷ []

abbrev of_writing : Result ℕ Refusal → List ℕ
of_writing (Ok n) = n ∷ []
of_writing (Err r) = number_of r ∷ value_of r ∷ []

-- -41.5, 0, 0.007, 1,000 and -0.001 degrees
abbrev five : List ℤ
five = negsuc 41499 ∷ pos 0 ∷ pos 7 ∷ pos 1000000 ∷ negsuc 0 ∷ []

-- always three decimals, minus only below zero, times from 0 on by the step
comma_written : text_of 500 five
    ≡
    48 ∷ 44 ∷ 45 ∷ 52 ∷ 49 ∷ 46 ∷ 53 ∷ 48 ∷ 48 ∷ 10 ∷
    53 ∷ 48 ∷ 48 ∷ 44 ∷ 48 ∷ 46 ∷ 48 ∷ 48 ∷ 48 ∷ 10 ∷
    49 ∷ 48 ∷ 48 ∷ 48 ∷ 44 ∷ 48 ∷ 46 ∷ 48 ∷ 48 ∷ 55 ∷ 10 ∷
    49 ∷ 53 ∷ 48 ∷ 48 ∷ 44 ∷ 49 ∷ 48 ∷ 48 ∷ 48 ∷ 46 ∷ 48 ∷ 48 ∷ 48 ∷ 10 ∷
    50 ∷ 48 ∷ 48 ∷ 48 ∷ 44 ∷ 45 ∷ 48 ∷ 46 ∷ 48 ∷ 48 ∷ 49 ∷ 10 ∷ []
unfolding text_from comma.sample_text degrees_text digits_of digits_within
comma_written = refl

-- the time of the last sample
comma_last_time : last_time 500 five ≡ 2000
comma_last_time = refl

-- 1; 2 with the place; 7 with the bytes needed; and just enough of them
comma_writer_refuses :
    of_writing (scribe.writing_comma 0 five [])
    ∷ of_writing (scribe.writing_comma 10001 five [])
    ∷ of_writing (scribe.writing_comma 500 (pos 0 ∷ pos 0 ∷ negsuc 1000000 ∷ []) [])
    ∷ of_writing (scribe.writing_comma 500 five (replicate 56 0))
    ∷ of_writing (scribe.writing_comma 500 five (replicate 57 0))
    ∷ []
    ≡ (1 ∷ 1 ∷ []) ∷ (1 ∷ 1 ∷ []) ∷ (2 ∷ 2 ∷ []) ∷ (7 ∷ 57 ∷ []) ∷ (57 ∷ []) ∷ []
unfolding scribe.writing_comma first_bad text_from comma.sample_text degrees_text digits_of digits_within
comma_writer_refuses = refl

-- 0,1.5 and 500,2
abbrev good : List ℕ
good = 48 ∷ 44 ∷ 49 ∷ 46 ∷ 53 ∷ 10 ∷ 53 ∷ 48 ∷ 48 ∷ 44 ∷ 50 ∷ 10 ∷ []

-- 0,1000.001 and 500,2
abbrev outside : List ℕ
outside = 48 ∷ 44 ∷ 49 ∷ 48 ∷ 48 ∷ 48 ∷ 46 ∷ 48 ∷ 48 ∷ 49 ∷ 10 ∷ 53 ∷ 48 ∷ 48 ∷ 44 ∷ 50 ∷ 10 ∷ []

-- 0,1 and 500,-1000.001
abbrev outside_second : List ℕ
outside_second = 48 ∷ 44 ∷ 49 ∷ 10 ∷ 53 ∷ 48 ∷ 48 ∷ 44 ∷ 45 ∷ 49 ∷ 48 ∷ 48 ∷ 48 ∷ 46 ∷ 48 ∷ 48 ∷ 49 ∷ 10 ∷ []

-- 0,1000.001 and 501,2
abbrev wrong_second : List ℕ
wrong_second = 48 ∷ 44 ∷ 49 ∷ 48 ∷ 48 ∷ 48 ∷ 46 ∷ 48 ∷ 48 ∷ 49 ∷ 10 ∷ 53 ∷ 48 ∷ 49 ∷ 44 ∷ 50 ∷ 10 ∷ []

-- 1; 10 with the line number, before 2 though the bad sample stands first; 2 with the place; 7 with the samples
comma_reader_refuses :
    of_reading (reading_comma 0 wrong_second 0) ∷ of_reading (reading_comma 10001 good 2)
    ∷ of_reading (reading_comma 500 wrong_second 0) ∷ of_reading (reading_comma 1000 good 2)
    ∷ of_reading (reading_comma 500 outside 0) ∷ of_reading (reading_comma 500 outside_second 0)
    ∷ of_reading (reading_comma 500 good 1) ∷ of_reading (reading_comma 500 good 2)
    ∷ []
    ≡ (1 ∷ 1 ∷ []) ∷ (1 ∷ 1 ∷ [])
    ∷ (10 ∷ 2 ∷ []) ∷ (10 ∷ 2 ∷ [])
    ∷ (2 ∷ 0 ∷ []) ∷ (2 ∷ 1 ∷ [])
    ∷ (7 ∷ 2 ∷ []) ∷ (2 ∷ [])
    ∷ []
unfolding reading_lines first_wrong first_bad lines_of comma.is_comma_line comma.right
    leading is_number all_digits decimal.value_of is_size size size_length filled
comma_reader_refuses = refl

-- of two wrong lines the first is named: 0,1 and 501,2 and x
comma_first_wrong : of_reading (reading_comma 500
    (48 ∷ 44 ∷ 49 ∷ 10 ∷ 53 ∷ 48 ∷ 49 ∷ 44 ∷ 50 ∷ 10 ∷ 120 ∷ 10 ∷ []) 3)
    ≡ 10 ∷ 2 ∷ []
unfolding reading_lines first_wrong lines_of comma.is_comma_line comma.right leading is_number all_digits decimal.value_of
    is_size size size_length filled
comma_first_wrong = refl

-- numbers as on the sheet: a time of 12 digits and none of 13, and whole degrees of 12 digits, which are out of range
comma_longest_numbers :
    (comma.right 999999999999 (replicate 12 57 ++ (44 ∷ 49 ∷ 10 ∷ [])) ≡ true)
    × (comma.right 1000000000000 (49 ∷ (replicate 12 48 ++ (44 ∷ 49 ∷ 10 ∷ []))) ≡ false)
    × (of_reading (reading_comma 500 (48 ∷ 44 ∷ (replicate 12 57 ++ (10 ∷ []))) 1) ≡ 2 ∷ 0 ∷ [])
unfolding reading_lines first_wrong first_bad lines_of comma.is_comma_line comma.right leading is_number all_digits
    decimal.value_of is_size size size_length filled
comma_longest_numbers = (refl, refl, refl)

-- ---- [2] the job sheet, written
-- a record without failure, then a failed one, which has the minus
sheet_written : sheet_text 7200000 (pos 1800000 ∷ negsuc 933979 ∷ [])
    ≡
    115 ∷ 116 ∷ 97 ∷ 110 ∷ 100 ∷ 97 ∷ 114 ∷ 100 ∷ 9 ∷ 55 ∷ 50 ∷ 48 ∷ 48 ∷ 48 ∷ 48 ∷ 48 ∷ 10 ∷
    49 ∷ 9 ∷ 48 ∷ 9 ∷ 49 ∷ 56 ∷ 48 ∷ 48 ∷ 48 ∷ 48 ∷ 48 ∷ 10 ∷
    50 ∷ 9 ∷ 49 ∷ 9 ∷ 57 ∷ 51 ∷ 51 ∷ 57 ∷ 56 ∷ 48 ∷ 10 ∷ []
unfolding sheet_text lines_from field_text digits_of digits_within
sheet_written = refl

-- 1 with item 5 before all; the first record at fault decides: 4, 3, and after 64 failures 4, 3, 6; then 7 with the
-- bytes needed, and just enough of them
sheet_writer_refuses :
    of_writing (ledger.writing_sheet 0 (pos 0 ∷ []) [])
    ∷ of_writing (ledger.writing_sheet 7 (pos 0 ∷ pos 10000001 ∷ []) [])
    ∷ of_writing (ledger.writing_sheet 7 (negsuc 10000000 ∷ pos 0 ∷ []) [])
    ∷ of_writing (ledger.writing_sheet 7 (replicate 64 (negsuc 0) ++ (pos 0 ∷ [])) [])
    ∷ of_writing (ledger.writing_sheet 7 (replicate 64 (negsuc 0) ++ (pos 10000001 ∷ [])) [])
    ∷ of_writing (ledger.writing_sheet 7 (replicate 64 (negsuc 0) ++ (pos 1 ∷ [])) [])
    ∷ of_writing (ledger.writing_sheet 7 (pos 1 ∷ negsuc 9999999 ∷ []) (replicate 29 0))
    ∷ of_writing (ledger.writing_sheet 7 (pos 1 ∷ negsuc 9999999 ∷ []) (replicate 30 0))
    ∷ []
    ≡ (1 ∷ 5 ∷ []) ∷ (4 ∷ 0 ∷ []) ∷ (3 ∷ 0 ∷ [])
    ∷ (4 ∷ 0 ∷ []) ∷ (3 ∷ 0 ∷ []) ∷ (6 ∷ 0 ∷ [])
    ∷ (7 ∷ 30 ∷ []) ∷ (30 ∷ [])
    ∷ []
unfolding ledger.writing_sheet ledger.judged ledger.judged_from telling entering sound
    sheet_text lines_from field_text digits_of digits_within
sheet_writer_refuses = refl

-- ---- [3] the place of the first bad sample, past both ends of the range
bad_sample_named : first_bad (pos 1000000 ∷ negsuc 999999 ∷ pos 0 ∷ negsuc 1000000 ∷ pos 1000001 ∷ []) ≡ 3
unfolding first_bad
bad_sample_named = refl

-- ---- [10] what is wrong with a field
-- empty; strange before a leading zero and before too long; a leading zero before too long; too long; 12 digits; 0
field_faults :
    read_as [] 4 ∷ read_as (48 ∷ 120 ∷ []) 4
    ∷ read_as (49 ∷ 32 ∷ replicate 12 49) 4
    ∷ read_as (replicate 13 48) 4 ∷ read_as (replicate 13 49) 4 ∷ read_as (replicate 12 49) 4 ∷ read_as (48 ∷ []) 4
    ∷ []
    ≡ Empty ∷ Strange 5 ∷ Strange 5 ∷ LeadingZero ∷ TooLong ∷ Number 111111111111 16 ∷ Number 0 5 ∷ []
unfolding read_as fault_in leading is_number all_digits decimal.value_of
field_faults = refl

-- the column of line 1, 0 where nothing is wrong or the line as a whole is; of the lines
-- standard TAB 7200000 LF, standard TAB  LF, standard TAB 72x0 LF
-- standard TAB 07 LF, standard TAB 1234567890123 LF, Standard TAB 7 LF
--  TAB 7 LF, standard 7 LF, standard TAB 7 TAB  LF
-- standard TAB 7
standard_columns : map standard_column
    ((115 ∷ 116 ∷ 97 ∷ 110 ∷ 100 ∷ 97 ∷ 114 ∷ 100 ∷ 9 ∷ 55 ∷ 50 ∷ 48 ∷ 48 ∷ 48 ∷ 48 ∷ 48 ∷ 10 ∷ [])
    ∷ (115 ∷ 116 ∷ 97 ∷ 110 ∷ 100 ∷ 97 ∷ 114 ∷ 100 ∷ 9 ∷ 10 ∷ [])
    ∷ (115 ∷ 116 ∷ 97 ∷ 110 ∷ 100 ∷ 97 ∷ 114 ∷ 100 ∷ 9 ∷ 55 ∷ 50 ∷ 120 ∷ 48 ∷ 10 ∷ [])
    ∷ (115 ∷ 116 ∷ 97 ∷ 110 ∷ 100 ∷ 97 ∷ 114 ∷ 100 ∷ 9 ∷ 48 ∷ 55 ∷ 10 ∷ [])
    ∷ (115 ∷ 116 ∷ 97 ∷ 110 ∷ 100 ∷ 97 ∷ 114 ∷ 100 ∷ 9 ∷ 49 ∷ 50 ∷ 51 ∷ 52 ∷ 53 ∷ 54 ∷ 55 ∷ 56 ∷ 57 ∷ 48 ∷ 49 ∷ 50 ∷
    51 ∷ 10 ∷ [])
    ∷ (83 ∷ 116 ∷ 97 ∷ 110 ∷ 100 ∷ 97 ∷ 114 ∷ 100 ∷ 9 ∷ 55 ∷ 10 ∷ [])
    ∷ (9 ∷ 55 ∷ 10 ∷ [])
    ∷ (115 ∷ 116 ∷ 97 ∷ 110 ∷ 100 ∷ 97 ∷ 114 ∷ 100 ∷ 32 ∷ 55 ∷ 10 ∷ [])
    ∷ (115 ∷ 116 ∷ 97 ∷ 110 ∷ 100 ∷ 97 ∷ 114 ∷ 100 ∷ 9 ∷ 55 ∷ 9 ∷ 10 ∷ [])
    ∷ (115 ∷ 116 ∷ 97 ∷ 110 ∷ 100 ∷ 97 ∷ 114 ∷ 100 ∷ 9 ∷ 55 ∷ [])
    ∷ [])
    ≡ 0 ∷ 10 ∷ 12 ∷ 10 ∷ 10 ∷ 1 ∷ 1 ∷ 0 ∷ 0 ∷ 0 ∷ []
unfolding standard_column standard_fields how_many begins field_at field_of ends_here read_as fault_in leading
    is_number all_digits decimal.value_of
standard_columns = refl

-- and of the line of record 2
-- 2 TAB 1 TAB 933980 LF, 2 TAB 0 TAB 999999999999 LF, 3 TAB 1 TAB 9 LF
--  TAB 1 TAB 9 LF, 02 TAB 1 TAB 9 LF, 2 TAB 2 TAB 9 LF
-- 2 TAB  TAB 9 LF, 2 TAB 01 TAB 9 LF, 2 TAB 1 TAB  LF
-- 2 TAB 1 TAB 9x LF, 2 TAB 1 TAB 09 LF, 2 TAB 1 TAB 1234567890123 LF
-- 2x TAB 2 TAB 9 LF, 2 TAB 1 LF, 2 TAB 1 TAB 9 TAB  LF
-- 2 TAB 1 TAB 9
record_columns : map (record_column 2)
    ((50 ∷ 9 ∷ 49 ∷ 9 ∷ 57 ∷ 51 ∷ 51 ∷ 57 ∷ 56 ∷ 48 ∷ 10 ∷ [])
    ∷ (50 ∷ 9 ∷ 48 ∷ 9 ∷ 57 ∷ 57 ∷ 57 ∷ 57 ∷ 57 ∷ 57 ∷ 57 ∷ 57 ∷ 57 ∷ 57 ∷ 57 ∷ 57 ∷ 10 ∷ [])
    ∷ (51 ∷ 9 ∷ 49 ∷ 9 ∷ 57 ∷ 10 ∷ [])
    ∷ (9 ∷ 49 ∷ 9 ∷ 57 ∷ 10 ∷ [])
    ∷ (48 ∷ 50 ∷ 9 ∷ 49 ∷ 9 ∷ 57 ∷ 10 ∷ [])
    ∷ (50 ∷ 9 ∷ 50 ∷ 9 ∷ 57 ∷ 10 ∷ [])
    ∷ (50 ∷ 9 ∷ 9 ∷ 57 ∷ 10 ∷ [])
    ∷ (50 ∷ 9 ∷ 48 ∷ 49 ∷ 9 ∷ 57 ∷ 10 ∷ [])
    ∷ (50 ∷ 9 ∷ 49 ∷ 9 ∷ 10 ∷ [])
    ∷ (50 ∷ 9 ∷ 49 ∷ 9 ∷ 57 ∷ 120 ∷ 10 ∷ [])
    ∷ (50 ∷ 9 ∷ 49 ∷ 9 ∷ 48 ∷ 57 ∷ 10 ∷ [])
    ∷ (50 ∷ 9 ∷ 49 ∷ 9 ∷ 49 ∷ 50 ∷ 51 ∷ 52 ∷ 53 ∷ 54 ∷ 55 ∷ 56 ∷ 57 ∷ 48 ∷ 49 ∷ 50 ∷ 51 ∷ 10 ∷ [])
    ∷ (50 ∷ 120 ∷ 9 ∷ 50 ∷ 9 ∷ 57 ∷ 10 ∷ [])
    ∷ (50 ∷ 9 ∷ 49 ∷ 10 ∷ [])
    ∷ (50 ∷ 9 ∷ 49 ∷ 9 ∷ 57 ∷ 9 ∷ 10 ∷ [])
    ∷ (50 ∷ 9 ∷ 49 ∷ 9 ∷ 57 ∷ [])
    ∷ [])
    ≡ 0 ∷ 0 ∷ 1 ∷ 1 ∷ 1 ∷ 3 ∷ 3 ∷ 3 ∷ 5 ∷ 6 ∷ 5 ∷ 5 ∷ 2 ∷ 0 ∷ 0 ∷ 0 ∷ []
unfolding record_column record_fields how_many field_at field_of ends_here read_as fault_in leading
    is_number all_digits decimal.value_of
record_columns = refl

-- the refused line: line number, 9 and the column; any other refusal keeps three fields
refused_line : refused_text 3 12 (Line 3) ≡
    114 ∷ 101 ∷ 102 ∷ 117 ∷ 115 ∷ 101 ∷ 100 ∷ 9 ∷ 51 ∷ 9 ∷ 57 ∷ 9 ∷ 49 ∷ 50 ∷ 10 ∷ []
unfolding refused_text reason_text field_text digits_of digits_within
refused_line = refl

refused_line_of_three : refused_text 3 0 TooShort ≡
    114 ∷ 101 ∷ 102 ∷ 117 ∷ 115 ∷ 101 ∷ 100 ∷ 9 ∷ 51 ∷ 9 ∷ 52 ∷ 10 ∷ []
unfolding refused_text reason_text field_text digits_of digits_within
refused_line_of_three = refl
