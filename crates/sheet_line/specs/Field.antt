-- Document 01, "The job sheet": the fields of a line, parted by a tab, the line ended by LF. Assumes nothing.
use Rattle.std.specs.Prelude.{ℕ, ◌+◌, Bool, true, cond, not, ◌||◌, List, [], ◌∷◌, length, drop, eqb}
use Rattle.decimal.specs.Decimal.{all_digits, is_number, leading_zero, value_of}
use Rattle.decimal.specs.Field.{tab, line_feed}
use Rattle.decimal.specs.Leading.{leading}
use Rattle.sheet_line.specs.declared.Field.{Field}
use Rattle.sheet_line.specs.declared.Field.TheVariants.{Number, Empty, Strange, LeadingZero, TooLong}

-- the byte ends a field
abbrev pub is_end : ℕ → Bool
is_end b = eqb b tab || eqb b line_feed

-- the text is at the end of a field: at a byte that ends one, or nothing is left
unfoldable pub ends_here : List ℕ → Bool
ends_here [] = true
ends_here (b ∷ text) = is_end b

-- the field that a text starts with: its bytes before the first tab or LF
unfoldable pub field_of : List ℕ → List ℕ
field_of [] = []
field_of (b ∷ text) = cond (is_end b) [] (b ∷ field_of text)

-- where the first byte that is no digit stands
abbrev pub strange_in : List ℕ → ℕ
strange_in text = length (leading text)

-- what is wrong with a field that is no number, by document 02, request 10, in this order: it is empty, has a strange
-- byte (the first one's place is told), has a leading zero, or is too long
unfoldable pub fault_in : List ℕ → ℕ → Field
fault_in field at =
    cond (eqb (length field) 0) Empty
    (cond (not (all_digits field)) (Strange (at + strange_in field))
    (cond (leading_zero field) LeadingZero
    TooLong))

-- what a field that starts at a place reads as: its number and the place of the byte that ended it, or what is wrong
-- with it
unfoldable pub read_as : List ℕ → ℕ → Field
read_as field at = cond (is_number field) (Number (value_of field) (at + length field)) (fault_in field at)

-- what stands at a place of a text, read as a number field
unfoldable pub field_at : List ℕ → ℕ → Field
field_at text at = read_as (field_of (drop at text)) at
