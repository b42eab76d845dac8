-- Document 01, "The job sheet": its lines as they are written: line 1 is the word standard and q, a later one the
-- record's number, 1 for failed or 0, and the exposure in ms; each number decimal, of at most 12 digits, a tab between
-- two fields, LF at the end. Assumes nothing.
use Rattle.std.specs.Prelude.{◌≡◌, List, ◌++◌, ℕ, ◌^◌, ◌≤◌, ◌<◌}
use Rattle.decimal.specs.Decimal.{longest}
use Rattle.decimal.specs.Field.{tab, line_feed, field_text}
use Rattle.sheet_line.specs.Form.{standard_start}

abbrev pub head_text : ℕ → List ℕ
head_text q = standard_start ++ field_text q line_feed

abbrev pub entry_text : ℕ → ℕ → ℕ → List ℕ
entry_text number flag exposure = field_text number tab ++ (field_text flag tab ++ field_text exposure line_feed)

-- ---- in words, for the statements
-- the line is a standard's
pub record StandardText (line : List ℕ) : Type 0 where
  pub standard : ℕ
  pub few : standard < 10 ^ longest
  pub bytes : line ≡ head_text standard

-- the line is that of the record with this number
pub record RecordText (number : ℕ) (line : List ℕ) : Type 0 where
  pub flag : ℕ
  pub exposure : ℕ
  pub flag_kept : flag ≤ 1
  pub few : exposure < 10 ^ longest
  pub bytes : line ≡ entry_text number flag exposure
