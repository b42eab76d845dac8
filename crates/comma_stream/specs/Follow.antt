-- Document 02 [1]: a comma file read as it comes. A text here is what is left of the pieces so far, and the next piece
-- after it. Assumes nothing.
use Rattle.std.specs.Prelude.{ℕ, ◌+◌, ◌*◌, Bool, true, cond, not, ◌&&◌, List, [], ◌∷◌, ◌++◌, map, eqb, ltb, ℤ, length, take, drop, Result, Ok, Err}
use Rattle.refusal.specs.declared.Refusal.TheVariants.{Item}
use Rattle.sample_items.specs.Limits.{step_in_range}
use Rattle.sample_range.specs.Range.{first_bad}
use Rattle.decimal.specs.Field.{line_feed}
use Rattle.decimal.specs.Lines.{lines_of}
use Rattle.comma_line.specs.Text.{first_wrong, samples_of}
unfoldable pub use Rattle.comma_read.specs.Taken.{bytes_of, held}
use Rattle.comma_stream.specs.declared.Follow.{Follow}
use Rattle.comma_stream.specs.declared.Rest.{Rest}
use Rattle.comma_stream.specs.declared.Rest.TheVariants.{Waits, Over, Wrong}
use Rattle.refusal.specs.declared.Refusal.{Refusal}

-- the most bytes of a line: two numbers of 12 digits, comma, minus, point, three digits, LF
abbrev pub longest_comma_line : ℕ
longest_comma_line = 31

-- no byte is an LF
unfoldable pub unended : List ℕ → Bool
unended [] = true
unended (b ∷ text) = not (eqb b line_feed) && unended text

-- a text may become a line that starts with it
unfoldable pub may_begin : List ℕ → Bool
may_begin text = ltb (length text) longest_comma_line && unended text

-- what is left after the right lines, and whether more may come: it waits, the file is over, or the next line is wrong
unfoldable pub resting : List ℕ → Bool → Rest
resting text more = cond (eqb (length text) 0) (cond more (Waits 0) Over) (cond (more && may_begin text) (Waits (length text)) Wrong)

-- the bytes that wait
unfoldable pub waiting_for : Rest → ℕ
waiting_for (Waits n) = n
waiting_for Over = 0
waiting_for Wrong = 0

-- the right lines that a text starts with
unfoldable pub right_lines : Follow → List ℕ → List (List ℕ)
right_lines f text = take (first_wrong f.step (f.lines * f.step) (lines_of text)) (lines_of text)

-- where the reading stands after lines: their number more, and the first sample out of range is kept
unfoldable pub after_lines : Follow → List (List ℕ) → Follow
after_lines f lines =
    record {
      step = f.step;
      lines = f.lines + length lines;
      outside = cond (eqb f.outside 0 && ltb (first_bad (samples_of lines)) (length lines)) (f.lines + first_bad (samples_of lines) + 1) f.outside;
    }

-- what lines that were taken come to
unfoldable pub taken_by : Follow → List (List ℕ) → Result (Follow × ℕ × ℕ) Refusal
taken_by f lines = Ok (after_lines f lines, bytes_of lines, length lines)

-- taking a text's lines into so many places: 1 for the step, or its right lines, as many as there are places
unfoldable pub taking : Follow → List ℕ → ℕ → Result (Follow × ℕ × ℕ) Refusal
taking f text places = cond (not (step_in_range f.step)) (Err (Item 1)) (taken_by f (take places (right_lines f text)))

-- how many lines were taken
unfoldable pub number_of : Result (Follow × ℕ × ℕ) Refusal → ℕ
number_of (Ok (f, bytes, n)) = n
number_of (Err r) = 0

-- the slice afterwards: the samples of the lines that were taken from its start, and the rest as it stood
unfoldable pub leaving : Result (Follow × ℕ × ℕ) Refusal → List ℕ → List ℤ → List ℤ
leaving r text slice = map held (samples_of (take (number_of r) (lines_of text))) ++ drop (number_of r) slice
