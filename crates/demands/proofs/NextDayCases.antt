-- What `bin/sheet --after` writes of small sheets and files, byte for byte, computed of the definitions. Each declaration
-- has the name of its sentence. Assumes nothing.
use mathlib.Core.Path.{◌≡◌, refl}
use mathlib.Core.List.{List, [], ◌∷◌, ◌++◌}
use Prim.Native.Nat.{ℕ}
use Rattle.decimal.specs.Decimal.{all_digits, digits_of, digits_within, is_number, value_of}
use Rattle.decimal.specs.Field.{ending, field_text}
use Rattle.decimal.specs.Leading.{leading}
use Rattle.decimal.specs.Lines.{lines_of}
use Rattle.degrees.specs.Degrees.{filled, is_size, size, size_length}
use Rattle.comma_line.specs.Line.{is_comma_line, right}
use Rattle.comma_line.specs.Text.{first_wrong}
use Rattle.sample_range.specs.Range.{first_bad}
use Rattle.sample_items.specs.declared.Items.{Items}
use Rattle.sample_items.specs.Limits.{item_outside}
use Rattle.sample_channels.specs.Channels.{moments}
use Rattle.crossing_places.specs.Reading.{first_of, passing}
use Rattle.crossing_sets.specs.Groups.{attach, groups}
use Rattle.crossing_sets.specs.Walk.{later, walk}
use Rattle.campaign_state.specs.Answers.{entering}
use Rattle.campaign_state.specs.State.{censored, sound}
use Rattle.desk_line.specs.Said.{Said, places_then, refused_line, why_text}
use Rattle.comma_count.specs.Line.{result_for}
use Rattle.sheet_line.specs.Column.{how_many, record_column, record_fields, standard_column}
use Rattle.sheet_line.specs.Field.{fault_in, field_at, field_of, read_as}
use Rattle.sheet_line.specs.Form.{begins}
use Rattle.sheet_line.specs.Line.{ended_by, field_then, record_line, standard_line, starts_with, stepping, telling}
use Rattle.sheet_text.specs.Sheet.{meaning, reading_sheet}
use Rattle.sheet_fault.specs.Fault.{sheet_fault}
use Rattle.sheet_records.specs.Ledger.{lines_from, sheet_text}
use Rattle.sheet_records.specs.Records.{record_in, records_of}
use Rattle.sheet_files.specs.Files.{failures_in, sheet_from}
use Rattle.sheet_after.specs.After.{sheet_after}

-- the step 500 ms, no ramp, 40 degrees, 1,500 ms
abbrev items : Items
items = record { step = 500; ramp = 0; levels = record { roll = 40000; acceleration = 1000000 }; decorrelation = 1500 }

abbrev read : List ℕ → Said
read bytes = record { line = bytes; end = 48 }

abbrev refused : List ℕ → Said
refused bytes = record { line = bytes; end = 49 }

-- yesterday's sheet: standard 7200000; 1 1 500
abbrev yesterday : List ℕ
yesterday =
    115 ∷ 116 ∷ 97 ∷ 110 ∷ 100 ∷ 97 ∷ 114 ∷ 100 ∷ 9 ∷ 55 ∷ 50 ∷ 48 ∷ 48 ∷ 48 ∷ 48 ∷ 48 ∷ 10 ∷
    49 ∷ 9 ∷ 49 ∷ 9 ∷ 53 ∷ 48 ∷ 48 ∷ 10 ∷ []

-- today's file: 0,0; 500,40; 1000,-7.5
abbrev calm : List ℕ
calm = 48 ∷ 44 ∷ 48 ∷ 10 ∷ 53 ∷ 48 ∷ 48 ∷ 44 ∷ 52 ∷ 48 ∷ 10 ∷ 49 ∷ 48 ∷ 48 ∷ 48 ∷ 44 ∷ 45 ∷ 55 ∷ 46 ∷ 53 ∷ 10 ∷ []

-- its standard, its record, and today's as the next: standard 7200000; 1 1 500; 2 0 1000
day_written : sheet_after items yesterday (calm ∷ []) ≡ read (yesterday ++ (50 ∷ 9 ∷ 48 ∷ 9 ∷ 49 ∷ 48 ∷ 48 ∷ 48 ∷ 10 ∷ []))
unfolding sheet_after sheet_from sheet_text lines_from records_of record_in failures_in meaning reading_sheet lines_of stepping
    standard_line record_line field_then ended_by starts_with begins field_at read_as field_of telling entering sound censored
    first_wrong right is_comma_line is_number all_digits leading value_of is_size size_length filled size digits_of digits_within
    field_text first_bad item_outside moments passing first_of groups attach walk later result_for
day_written = refl

-- a file that is refused has the number after yesterday's last: x gives refused 2 1 10
day_file : sheet_after items yesterday ((120 ∷ []) ∷ []) ≡ refused (114 ∷ 101 ∷ 102 ∷ 117 ∷ 115 ∷ 101 ∷ 100 ∷ 9 ∷ 50 ∷ 9 ∷ 49 ∷ 9 ∷ 49 ∷ 48 ∷ 10 ∷ [])
unfolding sheet_after sheet_from sheet_text lines_from records_of record_in failures_in meaning reading_sheet lines_of stepping
    standard_line record_line field_then ended_by starts_with begins field_at read_as field_of telling entering sound censored
    first_wrong right is_comma_line is_number all_digits leading value_of is_size size_length filled size digits_of digits_within
    field_text first_bad item_outside moments passing first_of groups attach walk later result_for
    places_then refused_line why_text
day_file = refl

-- a fault in yesterday's sheet is no record's, and has the sheet's line and the column: standard 5; 1 0 4x7 gives
-- refused 0 2 9 6, before a file at fault
day_fault : sheet_after items (115 ∷ 116 ∷ 97 ∷ 110 ∷ 100 ∷ 97 ∷ 114 ∷ 100 ∷ 9 ∷ 53 ∷ 10 ∷ 49 ∷ 9 ∷ 48 ∷ 9 ∷ 52 ∷ 120 ∷ 55 ∷ 10 ∷ []) ((120 ∷ []) ∷ [])
    ≡ refused (114 ∷ 101 ∷ 102 ∷ 117 ∷ 115 ∷ 101 ∷ 100 ∷ 9 ∷ 48 ∷ 9 ∷ 50 ∷ 9 ∷ 57 ∷ 9 ∷ 54 ∷ 10 ∷ [])
unfolding sheet_after meaning reading_sheet lines_of stepping standard_line record_line standard_column record_column record_fields
    how_many field_then ended_by starts_with begins field_at read_as fault_in leading field_of is_number all_digits value_of telling
    entering sound censored field_text digits_of digits_within item_outside sheet_fault ending
day_fault = refl

-- a standard out of range is its line 1's, and the item is named: standard 0 gives refused 0 1 1 5
day_standard : sheet_after items (115 ∷ 116 ∷ 97 ∷ 110 ∷ 100 ∷ 97 ∷ 114 ∷ 100 ∷ 9 ∷ 48 ∷ 10 ∷ []) [] ≡ refused (114 ∷ 101 ∷ 102 ∷ 117 ∷ 115 ∷ 101 ∷ 100 ∷ 9 ∷ 48 ∷ 9 ∷ 49 ∷ 9 ∷ 49 ∷ 9 ∷ 53 ∷ 10 ∷ [])
unfolding sheet_after meaning reading_sheet lines_of stepping standard_line record_line standard_column record_column record_fields
    how_many field_then ended_by starts_with begins field_at read_as fault_in leading field_of is_number all_digits value_of telling
    entering sound censored field_text digits_of digits_within item_outside sheet_fault ending
day_standard = refl

-- an item goes before the sheet and is on no line of it: refused 0 0 1 4
day_item : sheet_after (record { step = 1; ramp = 0; levels = record { roll = 1; acceleration = 1 }; decorrelation = 10000001 }) (120 ∷ []) []
    ≡ refused (114 ∷ 101 ∷ 102 ∷ 117 ∷ 115 ∷ 101 ∷ 100 ∷ 9 ∷ 48 ∷ 9 ∷ 48 ∷ 9 ∷ 49 ∷ 9 ∷ 52 ∷ 10 ∷ [])
unfolding sheet_after item_outside sheet_fault ending field_text digits_of digits_within
day_item = refl
