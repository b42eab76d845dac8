-- What `bin/condition` writes of small sheets, byte for byte, computed of the definitions. Each declaration has the name
-- of its sentence. Assumes nothing.
use mathlib.Core.Path.{◌≡◌, refl}
use mathlib.Core.List.{List, [], ◌∷◌}
use Prim.Native.Nat.{ℕ}
use lib.ListN.{replicate}
use Rattle.poisson.specs.Tables.{l, lower_rows, u, upper_rows}
use Rattle.decimal.specs.Decimal.{all_digits, digits_of, digits_within, is_number, value_of}
use Rattle.decimal.specs.Field.{ending, field_text}
use Rattle.decimal.specs.Leading.{leading}
use Rattle.decimal.specs.Lines.{lines_of}
use Rattle.campaign_state.specs.Answers.{entering}
use Rattle.campaign_state.specs.State.{censored, sound}
use Rattle.campaign_verdict.specs.Answers.{judging}
use Rattle.campaign_condition.specs.Standing.{accepted, all_accepted, one_rejected, rejected, standing}
use Rattle.campaign_report.specs.Report.{four_text, letter_for, situation_text, lines_from, report_text, sum_of, total_text}
use Rattle.campaign_report.specs.WholeCase.{their_report}
use Rattle.sheet_line.specs.Column.{how_many, record_column, record_fields, standard_column}
use Rattle.sheet_line.specs.Field.{fault_in, field_at, field_of, read_as}
use Rattle.sheet_line.specs.Form.{begins}
use Rattle.sheet_line.specs.Line.{ended_by, field_then, record_line, standard_line, starts_with, stepping, telling}
use Rattle.sheet_text.specs.Sheet.{meaning, reading_sheet}
use Rattle.desk_line.specs.Said.{Said}
use Rattle.sheet_fault.specs.Fault.{sheet_fault}
use Rattle.condition_sheets.specs.Report.{condition_from, condition_said}

abbrev refused : List ℕ → Said
refused bytes = record { line = bytes; end = 49 }

-- document 01's campaign after two records: standard 7200000; 1 0 1800000; 2 1 933980
abbrev first : List ℕ
first =
    115 ∷ 116 ∷ 97 ∷ 110 ∷ 100 ∷ 97 ∷ 114 ∷ 100 ∷ 9 ∷ 55 ∷ 50 ∷ 48 ∷ 48 ∷ 48 ∷ 48 ∷ 48 ∷ 10 ∷
    49 ∷ 9 ∷ 48 ∷ 9 ∷ 49 ∷ 56 ∷ 48 ∷ 48 ∷ 48 ∷ 48 ∷ 48 ∷ 10 ∷
    50 ∷ 9 ∷ 49 ∷ 9 ∷ 57 ∷ 51 ∷ 51 ∷ 57 ∷ 56 ∷ 48 ∷ 10 ∷ []

-- one without a record: standard 7200000
abbrev second : List ℕ
second = 115 ∷ 116 ∷ 97 ∷ 110 ∷ 100 ∷ 97 ∷ 114 ∷ 100 ∷ 9 ∷ 55 ∷ 50 ∷ 48 ∷ 48 ∷ 48 ∷ 48 ∷ 48 ∷ 10 ∷ []

-- the case that 02 gives whole, from the bytes of its two sheets
sheets_reported : condition_said (first ∷ second ∷ []) ≡ record { line = their_report; end = 48 }
unfolding condition_said condition_from meaning reading_sheet lines_of stepping standard_line record_line field_then ended_by starts_with begins
    field_at read_as field_of is_number all_digits value_of telling entering their_report report_text lines_from situation_text
    four_text field_text letter_for total_text sum_of digits_of digits_within censored sound judging accepted rejected one_rejected all_accepted
    standing u l upper_rows lower_rows
sheets_reported = refl

-- the second sheet is the first at fault, with its line and its column: standard 5; 1 0 4x7 gives refused 2 2 9 6
sheets_fault : condition_said (second ∷ (115 ∷ 116 ∷ 97 ∷ 110 ∷ 100 ∷ 97 ∷ 114 ∷ 100 ∷ 9 ∷ 53 ∷ 10 ∷ 49 ∷ 9 ∷ 48 ∷ 9 ∷ 52 ∷ 120 ∷ 55 ∷ 10 ∷ []) ∷ [] ∷ [])
    ≡ refused (114 ∷ 101 ∷ 102 ∷ 117 ∷ 115 ∷ 101 ∷ 100 ∷ 9 ∷ 50 ∷ 9 ∷ 50 ∷ 9 ∷ 57 ∷ 9 ∷ 54 ∷ 10 ∷ [])
unfolding condition_said condition_from meaning reading_sheet lines_of stepping standard_line record_line standard_column record_column
    record_fields how_many field_then ended_by starts_with begins field_at read_as fault_in leading field_of is_number all_digits
    value_of telling entering sound censored field_text digits_of digits_within sheet_fault ending
sheets_fault = refl

-- only 9 has a column, and 1 no item, as 01 and 02 have them: 1 0 0 gives refused 1 2 4, standard 0 refused 1 1 1
sheets_short : condition_said ((115 ∷ 116 ∷ 97 ∷ 110 ∷ 100 ∷ 97 ∷ 114 ∷ 100 ∷ 9 ∷ 53 ∷ 10 ∷ 49 ∷ 9 ∷ 48 ∷ 9 ∷ 48 ∷ 10 ∷
    []) ∷ []) ≡ refused (114 ∷ 101 ∷ 102 ∷ 117 ∷ 115 ∷ 101 ∷ 100 ∷ 9 ∷ 49 ∷ 9 ∷ 50 ∷ 9 ∷ 52 ∷ 10 ∷ [])
unfolding condition_said condition_from meaning reading_sheet lines_of stepping standard_line record_line standard_column record_column
    record_fields how_many field_then ended_by starts_with begins field_at read_as fault_in leading field_of is_number all_digits
    value_of telling entering sound censored field_text digits_of digits_within sheet_fault ending
sheets_short = refl

sheets_standard : condition_said ((115 ∷ 116 ∷ 97 ∷ 110 ∷ 100 ∷ 97 ∷ 114 ∷ 100 ∷ 9 ∷ 48 ∷ 10 ∷ []) ∷ []) ≡ refused (114 ∷ 101 ∷ 102 ∷ 117 ∷ 115 ∷ 101 ∷ 100 ∷ 9 ∷ 49 ∷ 9 ∷ 49 ∷ 9 ∷ 49 ∷ 10 ∷ [])
unfolding condition_said condition_from meaning reading_sheet lines_of stepping standard_line record_line standard_column record_column
    record_fields how_many field_then ended_by starts_with begins field_at read_as fault_in leading field_of is_number all_digits
    value_of telling entering sound censored field_text digits_of digits_within sheet_fault ending
sheets_standard = refl

-- none, and more than 64, whatever they are: refused 0 0 18
sheets_none : condition_said [] ≡ refused (114 ∷ 101 ∷ 102 ∷ 117 ∷ 115 ∷ 101 ∷ 100 ∷ 9 ∷ 48 ∷ 9 ∷ 48 ∷ 9 ∷ 49 ∷ 56 ∷ 10 ∷ [])
unfolding condition_said sheet_fault ending field_text digits_of digits_within
sheets_none = refl

sheets_many : condition_said (replicate 65 (120 ∷ [])) ≡ refused (114 ∷ 101 ∷ 102 ∷ 117 ∷ 115 ∷ 101 ∷ 100 ∷ 9 ∷ 48 ∷ 9 ∷ 48 ∷ 9 ∷ 49 ∷ 56 ∷ 10 ∷ [])
unfolding condition_said sheet_fault ending field_text digits_of digits_within
sheets_many = refl
