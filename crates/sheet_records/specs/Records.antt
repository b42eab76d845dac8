-- Document 02 [2]: the records of a job sheet, in the form in which they are lent for writing, and what reading them
-- answers and leaves. Assumes nothing.
use Rattle.std.specs.Prelude.{ℕ, cond, List, ◌++◌, map, ℤ, drop, eqb, ltb, Result, Ok, Err}
use Rattle.refusal.specs.declared.Refusal.TheVariants.{BrokenState, Room}
use Rattle.decimal.specs.Decimal.{value_of}
use Rattle.decimal.specs.Leading.{leading, after_leading}
use Rattle.decimal.specs.Lines.{lines_of}
use Rattle.degrees.specs.Degrees.{signed}
use Rattle.sheet_text.specs.declared.Reading.{Reading}
use Rattle.sheet_text.specs.declared.Reading.TheVariants.{Read, Stopped, Waiting}
use Rattle.sheet_text.specs.Sheet.{meaning}
use Rattle.refusal.specs.declared.Refusal.{Refusal}

-- what stands after a line's first field
abbrev pub after_field : List ℕ → List ℕ
after_field line = drop 1 (after_leading line)

-- what a record's line says, as one number: the exposure in its third field, with a minus if the second is 1 for failed
unfoldable pub record_in : List ℕ → ℤ
record_in line = signed (eqb (value_of (leading (after_field line))) 1) (value_of (leading (after_field (after_field line))))

-- THE RECORDS OF A SHEET: those of all lines but line 1
unfoldable pub records_of : List ℕ → List ℤ
records_of text = map record_in (drop 1 (lines_of text))

-- ---- reading: the sheet's own refusals with their line, then 7 with the places needed, on no line; else the standard and the number of records
-- a whole text never waits for more
abbrev pub resumed_from : Reading → ℕ → Result (ℕ × ℕ) (ℕ × ℕ × Refusal)
resumed_from (Read c) places = cond (ltb places c.records) (Err (0, 0, Room c.records)) (Ok (c.standard, c.records))
resumed_from (Stopped line column r) places = Err (line, column, r)
resumed_from (Waiting s left) places = Err (0, 0, BrokenState)

unfoldable pub resuming : List ℕ → ℕ → Result (ℕ × ℕ) (ℕ × ℕ × Refusal)
resuming text places = resumed_from (meaning text).end places

-- the slice afterwards: the records from its start and the rest as it stood; on a refusal all as it stood
unfoldable pub filled_by : Result (ℕ × ℕ) (ℕ × ℕ × Refusal) → List ℤ → List ℤ → List ℤ
filled_by (Ok (q, n)) xs slice = xs ++ drop n slice
filled_by (Err (line, column, r)) xs slice = slice
