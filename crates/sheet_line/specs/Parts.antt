-- Document 01, "The job sheet": a line as a whole, in words: at most 64 bytes, its two or three fields parted by one
-- tab and ended by LF (proofs/Parts: that is `is_whole`). Assumes nothing.
use Rattle.std.specs.Prelude.{◌≡◌, List, [], ◌∷◌, ◌++◌, ℕ, ◌≤◌, length}
use Rattle.decimal.specs.Field.{tab, line_feed}
use Rattle.sheet_line.specs.Column.{how_many}
use Rattle.sheet_line.specs.Form.{longest_sheet_line}

-- neither a tab nor an LF stands in the field
pub record Plain (field : List ℕ) : Type 0 where
  pub no_tab : how_many tab field ≡ 0
  pub no_feed : how_many line_feed field ≡ 0

-- the line is two fields, or three
pub record Two (line a b : List ℕ) : Type 0 where
  pub bytes : line ≡ a ++ (tab ∷ (b ++ (line_feed ∷ [])))
  pub first : Plain a
  pub second : Plain b
  pub short : length line ≤ longest_sheet_line

pub record Three (line a b d : List ℕ) : Type 0 where
  pub bytes : line ≡ a ++ (tab ∷ (b ++ (tab ∷ (d ++ (line_feed ∷ [])))))
  pub first : Plain a
  pub second : Plain b
  pub third : Plain d
  pub short : length line ≤ longest_sheet_line

pub record OfTwo (line : List ℕ) : Type 0 where
  pub a : List ℕ
  pub b : List ℕ
  pub parts : Two line a b

pub record OfThree (line : List ℕ) : Type 0 where
  pub a : List ℕ
  pub b : List ℕ
  pub d : List ℕ
  pub parts : Three line a b d
