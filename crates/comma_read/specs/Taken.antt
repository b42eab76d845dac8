-- Document 02 [1]: the right lines that a text starts with, taken into samples. D is the job's step; so many lines of
-- the file stand before the text. Assumes nothing.
use Rattle.std.specs.Prelude.{ℕ, ◌+◌, ◌*◌, cond, not, List, [], ◌∷◌, ◌++◌, map, length, take, drop, ℤ, pos, Result, Ok, Err}
use Rattle.refusal.specs.declared.Refusal.TheVariants.{Item}
use Rattle.sample_items.specs.Limits.{step_in_range}
use Rattle.sample_range.specs.Range.{sample_in_range, first_bad}
use Rattle.decimal.specs.Lines.{lines_of}
use Rattle.comma_line.specs.Text.{first_wrong, samples_of}
use Rattle.refusal.specs.declared.Refusal.{Refusal}

-- the bytes of lines
unfoldable pub bytes_of : List (List ℕ) → ℕ
bytes_of [] = 0
bytes_of (line ∷ lines) = length line + bytes_of lines

-- a sample out of range is held as 0
unfoldable pub held : ℤ → ℤ
held x = cond (sample_in_range x) x (pos 0)

-- the right lines
abbrev pub right_after : ℕ → ℕ → List ℕ → List (List ℕ)
right_after D before text = take (first_wrong D (before * D) (lines_of text)) (lines_of text)

-- taking them into so many places: 1 for the step, or as many as there are places; their number, their bytes, and the
-- samples before the first out of range
abbrev pub said_of : List (List ℕ) → Result (ℕ × ℕ × ℕ) Refusal
said_of lines = Ok (length lines, bytes_of lines, first_bad (samples_of lines))

unfoldable pub lines_taken : ℕ → ℕ → List ℕ → ℕ → Result (ℕ × ℕ × ℕ) Refusal
lines_taken D before text places = cond (not (step_in_range D)) (Err (Item 1)) (said_of (take places (right_after D before text)))

-- how many lines were taken
unfoldable pub taken_of : Result (ℕ × ℕ × ℕ) Refusal → ℕ
taken_of (Ok (n, bytes, sound)) = n
taken_of (Err r) = 0

-- the slice afterwards: the samples of the lines that were taken from its start, and the rest as it stood
unfoldable pub put_by : Result (ℕ × ℕ × ℕ) Refusal → List ℕ → List ℤ → List ℤ
put_by r text slice = map held (samples_of (take (taken_of r) (lines_of text))) ++ drop (taken_of r) slice
