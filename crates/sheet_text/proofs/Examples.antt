-- Document 01's whole case, shown of the definitions: the text and what it means, byte for byte. It computes, so that a
-- slip in a definition shows here. Assumes nothing.
use mathlib.Core.Path.{◌≡◌, refl}
use mathlib.Core.List.{List, [], ◌∷◌, ◌++◌}
use Prim.Native.Nat.{ℕ}
use Rattle.poisson.specs.Tables.{l, u, lower_rows, upper_rows}
use Rattle.refusal.specs.declared.Refusal.TheVariants.{Line, TooShort}
use Rattle.decimal.specs.Decimal.{all_digits, is_number, value_of, digits_within, digits_of}
use Rattle.decimal.specs.Field.{field_text}
use Rattle.decimal.specs.Leading.{leading}
use Rattle.sheet_line.specs.Field.{fault_in, field_of, read_as, field_at}
use Rattle.campaign_state.specs.Answers.{entering}
use Rattle.campaign_state.specs.State.{censored, sound}
use Rattle.sheet_text.specs.declared.Reading.TheVariants.{Stopped}
use Rattle.sheet_line.specs.Column.{how_many, record_column, record_fields, standard_column}
use Rattle.sheet_line.specs.Form.{begins}
use Rattle.sheet_line.specs.Line.{starts_with, ended_by, field_then, record_line, standard_line, stepping, telling}
use Rattle.sheet_reply.specs.Written.{figures, letter_for, reason_text, record_text, refused_text}
use Rattle.decimal.specs.Lines.{lines_of}
use Rattle.sheet_text.specs.Sheet.{reading_sheet, meaning}

-- standard 7200000; 1 0 1800000; 2 1 933980; 3 1 0
abbrev sheet : List ℕ
sheet =
    (115 ∷ 116 ∷ 97 ∷ 110 ∷ 100 ∷ 97 ∷ 114 ∷ 100 ∷ 9 ∷ 55 ∷ 50 ∷ 48 ∷ 48 ∷ 48 ∷ 48 ∷ 48 ∷ 10 ∷ [])
    ++ ((49 ∷ 9 ∷ 48 ∷ 9 ∷ 49 ∷ 56 ∷ 48 ∷ 48 ∷ 48 ∷ 48 ∷ 48 ∷ 10 ∷ [])
    ++ ((50 ∷ 9 ∷ 49 ∷ 9 ∷ 57 ∷ 51 ∷ 51 ∷ 57 ∷ 56 ∷ 48 ∷ 10 ∷ [])
    ++ (51 ∷ 9 ∷ 49 ∷ 9 ∷ 48 ∷ 10 ∷ [])))

-- 1 0 1 1800000 C; 2 1 1 2733980 C; refused 4 4
abbrev answer : List ℕ
answer =
    (49 ∷ 9 ∷ 48 ∷ 9 ∷ 49 ∷ 9 ∷ 49 ∷ 56 ∷ 48 ∷ 48 ∷ 48 ∷ 48 ∷ 48 ∷ 9 ∷ 67 ∷ 10 ∷ [])
    ++ ((50 ∷ 9 ∷ 49 ∷ 9 ∷ 49 ∷ 9 ∷ 50 ∷ 55 ∷ 51 ∷ 51 ∷ 57 ∷ 56 ∷ 48 ∷ 9 ∷ 67 ∷ 10 ∷ [])
    ++ (114 ∷ 101 ∷ 102 ∷ 117 ∷ 115 ∷ 101 ∷ 100 ∷ 9 ∷ 52 ∷ 9 ∷ 52 ∷ 10 ∷ []))

pub whole_case : meaning sheet ≡ record { text = answer; end = Stopped 4 0 TooShort }
unfolding meaning reading_sheet lines_of stepping standard_line record_line field_then ended_by starts_with begins field_at
    read_as field_of is_number all_digits value_of telling entering sound censored record_text figures letter_for field_text
    digits_of digits_within refused_text reason_text l u lower_rows upper_rows
whole_case = refl

-- document 02, request 10: the column of a strange byte. standard 5; 1 0 4x7
abbrev typed : List ℕ
typed = (115 ∷ 116 ∷ 97 ∷ 110 ∷ 100 ∷ 97 ∷ 114 ∷ 100 ∷ 9 ∷ 53 ∷ 10 ∷ []) ++ (49 ∷ 9 ∷ 48 ∷ 9 ∷ 52 ∷ 120 ∷ 55 ∷ 10 ∷ [])

-- refused 2 9 6
pub strange_case : meaning typed ≡ record { text = 114 ∷ 101 ∷ 102 ∷ 117 ∷ 115 ∷ 101 ∷ 100 ∷ 9 ∷ 50 ∷ 9 ∷ 57 ∷ 9 ∷ 54 ∷ 10 ∷ []; end = Stopped 2 6 (Line 2) }
unfolding meaning reading_sheet lines_of stepping standard_line record_line standard_column record_column record_fields
    how_many field_then ended_by starts_with begins field_at read_as fault_in leading field_of is_number all_digits value_of
    entering sound censored record_text figures letter_for field_text digits_of digits_within refused_text reason_text
strange_case = refl
