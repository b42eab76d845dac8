-- Document 02 [1]: what reading a text answers and leaves, in its order of refusals, each judged over all lines.
-- Assumes nothing.
use Rattle.std.specs.Prelude.{ℕ, ◌+◌, cond, not, List, ◌++◌, length, drop, ℤ, nat_lt, Result, Ok, Err}
use Rattle.refusal.specs.declared.Refusal.TheVariants.{Item, Sample, Room, CommaLine}
use Rattle.sample_items.specs.Limits.{step_in_range}
use Rattle.sample_range.specs.Range.{first_bad}
use Rattle.decimal.specs.Lines.{lines_of}
use Rattle.comma_line.specs.Text.{first_wrong, samples_of}
use Rattle.refusal.specs.declared.Refusal.{Refusal}

-- reading a text into so many places: 1 for the step; 10 with the line number; 2 with the sample's place; 7 with the
-- samples
unfoldable pub reading_lines : ℕ → List (List ℕ) → ℕ → Result ℕ Refusal
reading_lines D lines places =
    cond (not (step_in_range D)) (Err (Item 1))
    (cond (nat_lt (first_wrong D 0 lines) (length lines)) (Err (CommaLine (first_wrong D 0 lines + 1)))
    (cond (nat_lt (first_bad (samples_of lines)) (length lines)) (Err (Sample (first_bad (samples_of lines))))
    (cond (nat_lt places (length lines)) (Err (Room (length lines)))
    (Ok (length lines)))))

abbrev pub reading_comma : ℕ → List ℕ → ℕ → Result ℕ Refusal
reading_comma D text places = reading_lines D (lines_of text) places

-- the slice afterwards: the samples from its start and the rest as it stood; on a refusal all as it stood
unfoldable pub filled_by : Result ℕ Refusal → List ℤ → List ℤ → List ℤ
filled_by (Ok n) xs slice = xs ++ drop n slice
filled_by (Err r) xs slice = slice
