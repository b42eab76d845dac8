-- What each C function of a comma file leaves, from the answers that `comma_read` and `comma_write` give. The number of
-- samples or bytes is carried. Assumes nothing.
use Rattle.std.specs.Prelude.{ℕ, List, [], ℤ, length, Result, Ok, Err}
use Rattle.text.specs.Write.{laid_by}
use Rattle.capi.specs.Told.{Told, refused, told, write_told}
use Rattle.decimal.specs.Lines.{lines_of}
use Rattle.comma_line.specs.Text.{samples_of, text_of}
use Rattle.comma_read.specs.Answers.{reading_comma, filled_by}
use Rattle.comma_write.specs.Answers.{writing_comma}
use Rattle.refusal.specs.declared.Refusal.{Refusal}

-- the number and what it carries
unfoldable pub read_told : Result ℕ Refusal → Told
read_told (Ok n) = told 0 n []
read_told (Err f) = refused f []

abbrev pub comma_read : ℕ → List ℕ → List ℤ → Told
comma_read D text slice = read_told (reading_comma D text (length slice))

-- the lent samples afterwards
abbrev pub comma_samples : ℕ → List ℕ → List ℤ → List ℤ
comma_samples D text slice = filled_by (reading_comma D text (length slice)) (samples_of (lines_of text)) slice

abbrev pub comma_written : ℕ → List ℤ → List ℕ → Told
comma_written D xs out = write_told (writing_comma D xs out) (laid_by (writing_comma D xs out) (text_of D xs) out)
