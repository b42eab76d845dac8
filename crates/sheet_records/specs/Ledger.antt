-- Document 02 [2]: the records of a campaign, each one number, and the job sheet that is written of them in document
-- 01's form. Assumes nothing.
use Rattle.std.specs.Prelude.{ℕ, ◌+◌, Bool, true, false, cond, List, [], ◌∷◌, ◌++◌, ℤ, pos, negsuc, nat_abs}
use Rattle.record_end.specs.declared.Outcome.{Outcome}
use Rattle.sheet_line.specs.Texts.{entry_text, head_text}
use Rattle.sheet_line.specs.Line.{line_outcome}

-- ---- a record as one number: its exposure in ms, with a minus if it failed
abbrev pub failed_in : ℤ → Bool
failed_in (pos n) = false
failed_in (negsuc n) = true

abbrev pub exposure_in : ℤ → ℕ
exposure_in x = nat_abs x

abbrev pub outcome_in : ℤ → Outcome
outcome_in x = line_outcome (failed_in x) (exposure_in x)

-- ---- the sheet of a standard and its records
-- a record's line
abbrev pub signed_record_text : ℕ → ℤ → List ℕ
signed_record_text number x = entry_text number (cond (failed_in x) 1 0) (exposure_in x)

-- the lines of records, from the number of the first on
unfoldable pub lines_from : ℕ → List ℤ → List ℕ
lines_from number [] = []
lines_from number (x ∷ xs) = signed_record_text number x ++ lines_from (number + 1) xs

-- THE SHEET: records are numbered 1, 2, 3, ..
unfoldable pub sheet_text : ℕ → List ℤ → List ℕ
sheet_text q xs = head_text q ++ lines_from 1 xs
