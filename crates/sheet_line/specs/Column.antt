-- Document 02, request 10: the column of what is wrong with a line, in bytes, 1 for the first. Where the line as a
-- whole is at fault it is 0, and that is judged first; else it is that of the first bad field from the left. Assumes
-- nothing.
use Rattle.std.specs.Prelude.{ℕ, suc, ◌+◌, ◌-◌, ◌^◌, Bool, cond, ◌&&◌, List, [], ◌∷◌, length, eqb, leb}
use Rattle.sheet_line.specs.declared.Field.{Field}
use Rattle.sheet_line.specs.declared.Field.TheVariants.{Number, Empty, Strange, LeadingZero, TooLong}
use Rattle.decimal.specs.Decimal.{longest}
use Rattle.decimal.specs.Field.{tab, line_feed}
use Rattle.sheet_line.specs.Field.{field_at}
use Rattle.sheet_line.specs.Form.{is_sheet_line, begins, standard_start}

-- ---- the line as a whole
-- how often a byte stands in a text
unfoldable pub how_many : ℕ → List ℕ → ℕ
how_many byte [] = 0
how_many byte (b ∷ text) = cond (eqb b byte) (suc (how_many byte text)) (how_many byte text)

-- it is one line, with so many tabs between its fields
abbrev pub is_parted : ℕ → List ℕ → Bool
is_parted tabs line = eqb (how_many line_feed line) 1 && eqb (how_many tab line) tabs

abbrev pub is_whole : ℕ → List ℕ → Bool
is_whole tabs line = is_sheet_line line && is_parted tabs line

-- ---- a field at a place
-- 0 for a number from `low` to `high`. Else that of the first strange byte, else that of the field's first byte, or of
-- the place where an empty field should start
abbrev pub column_in : ℕ → ℕ → ℕ → Field → ℕ
column_in low high at (Number v next) = cond (leb low v && leb v high) 0 (at + 1)
column_in low high at (Strange place) = place + 1
column_in low high at Empty = at + 1
column_in low high at LeadingZero = at + 1
column_in low high at TooLong = at + 1

-- where the field after a number starts
abbrev pub next_field : Field → ℕ
next_field (Number v next) = next + 1
next_field Empty = 0
next_field (Strange place) = 0
next_field LeadingZero = 0
next_field TooLong = 0

-- the largest number of 12 digits
abbrev pub most_number : ℕ
most_number = 10 ^ longest - 1

-- ---- the first bad field from the left
abbrev pub first_of : ℕ → ℕ → ℕ
first_of column others = cond (eqb column 0) others column

-- line 1: the word standard, then a number
unfoldable pub standard_fields : List ℕ → ℕ
standard_fields line = cond (begins standard_start line) (column_in 0 most_number (length standard_start) (field_at line (length standard_start))) 1

-- later lines: the record number that is due, 1 or 0, a number
unfoldable pub record_fields : ℕ → List ℕ → ℕ
record_fields due line =
    let second = next_field (field_at line 0) in
    let third = next_field (field_at line second) in
    first_of (column_in due due 0 (field_at line 0))
    (first_of (column_in 0 1 second (field_at line second))
    (column_in 0 most_number third (field_at line third)))

unfoldable pub standard_column : List ℕ → ℕ
standard_column line = cond (is_whole 1 line) (standard_fields line) 0

unfoldable pub record_column : ℕ → List ℕ → ℕ
record_column due line = cond (is_whole 2 line) (record_fields due line) 0
