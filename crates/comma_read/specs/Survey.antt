-- What a pass of the reader over a text comes to. Assumes nothing.
use Rattle.std.specs.Prelude.{◌≡◌, ℕ, cond, List, length, nat_lt, Result, Ok, Err}
use Rattle.sample_range.specs.Range.{first_bad}
use Rattle.comma_line.specs.Text.{first_wrong, samples_of}

-- the lines before the first wrong one; or their number, and the place of the first sample out of range
unfoldable pub surveyed : ℕ → List (List ℕ) → Result (ℕ × ℕ) ℕ
surveyed D lines =
    cond (nat_lt (first_wrong D 0 lines) (length lines)) (Err (first_wrong D 0 lines)) (Ok (length lines, first_bad (samples_of lines)))

-- all lines are right, and all samples in range
pub record AllGood (D : ℕ) (lines : List (List ℕ)) : Type 0 where
  pub right : first_wrong D 0 lines ≡ length lines
  pub in_range : first_bad (samples_of lines) ≡ length lines
