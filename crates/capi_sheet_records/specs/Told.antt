-- What each C function leaves, from the answers that `sheet_records` gives. The number of bytes or records is carried.
-- Assumes nothing.
use Rattle.std.specs.Prelude.{ℕ, List, [], ℤ, length, Result, Ok, Err}
use Rattle.text.specs.Write.{laid_by}
use Rattle.capi.specs.Told.{Told, refused, told, write_told}
use Rattle.sheet_records.specs.Answers.{writing_sheet}
use Rattle.sheet_records.specs.Ledger.{sheet_text}
use Rattle.sheet_records.specs.Records.{filled_by, records_of, resuming}
use Rattle.refusal.specs.declared.Refusal.{Refusal}

abbrev pub sheet_written : ℕ → List ℤ → List ℕ → Told
sheet_written q xs out = write_told (writing_sheet q xs out) (laid_by (writing_sheet q xs out) (sheet_text q xs) out)

-- the number and what it carries
unfoldable pub read_told : Result (ℕ × ℕ) (ℕ × ℕ × Refusal) → Told
read_told (Ok (q, n)) = told 0 n []
read_told (Err (line, column, f)) = refused f []

abbrev pub records_read : List ℕ → List ℤ → Told
records_read text slice = read_told (resuming text (length slice))

-- the lent records afterwards
abbrev pub records_left : List ℕ → List ℤ → List ℤ
records_left text slice = filled_by (resuming text (length slice)) (records_of text) slice

-- the standard, 0 on a refusal
abbrev pub standard_of : Result (ℕ × ℕ) (ℕ × ℕ × Refusal) → ℕ
standard_of (Ok (q, n)) = q
standard_of (Err (line, column, f)) = 0

abbrev pub records_standard : List ℕ → List ℤ → ℕ
records_standard text slice = standard_of (resuming text (length slice))

-- the line and the column of the first refusal, 0 where there is none
abbrev pub line_of : Result (ℕ × ℕ) (ℕ × ℕ × Refusal) → ℕ
line_of (Ok (q, n)) = 0
line_of (Err (line, column, f)) = line

abbrev pub records_line : List ℕ → List ℤ → ℕ
records_line text slice = line_of (resuming text (length slice))

abbrev pub column_of : Result (ℕ × ℕ) (ℕ × ℕ × Refusal) → ℕ
column_of (Ok (q, n)) = 0
column_of (Err (line, column, f)) = column

abbrev pub records_column : List ℕ → List ℤ → ℕ
records_column text slice = column_of (resuming text (length slice))
