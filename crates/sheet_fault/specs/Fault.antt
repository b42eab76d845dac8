-- The refused line of a job sheet that is one input among others (document 02, [10] and [13]): the word, the sheet's
-- place among them, its line, the refusal's number and, where there is one, a number more. Assumes nothing.
use Rattle.std.specs.Prelude.{ℕ, List, ◌++◌, Option}
use Rattle.decimal.specs.Field.{tab, ending, field_text}
use Rattle.desk_line.specs.Said.{Said, refused_digit, refused_word}

unfoldable pub sheet_fault : ℕ → ℕ → ℕ → Option ℕ → List ℕ
sheet_fault place line number more =
    refused_word ++ (field_text place tab ++ (field_text line tab ++ ending number more))

abbrev pub refused_sheet : ℕ → ℕ → ℕ → Option ℕ → Said
refused_sheet place line number more = record { line = sheet_fault place line number more; end = refused_digit }
