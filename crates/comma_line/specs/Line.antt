-- Document 02 [1]: one line of a comma file, one sample: time in ms, comma, roll in degrees, LF. A line is its bytes,
-- the LF with them. Assumes nothing.
use Rattle.std.specs.Prelude.{ℕ, ◌+◌, Bool, cond, ◌&&◌, List, [], ◌∷◌, ◌++◌, length, drop, eqb, ℤ, Option, Some, None}
use Rattle.decimal.specs.Decimal.{is_number, value_of, digits_of}
use Rattle.decimal.specs.Field.{line_feed}
use Rattle.decimal.specs.Leading.{leading, after_leading}
use Rattle.degrees.specs.Degrees.{first, below, unsigned, size, is_degrees, degrees_length, degrees_text}

abbrev pub comma : ℕ
comma = 44

-- the time: the digits that the line starts with
abbrev pub time_of : List ℕ → ℕ
time_of line = value_of (leading line)

-- the roll: what stands after the time and the comma
abbrev pub roll : List ℕ → List ℕ
roll line = drop 1 (after_leading line)

-- a time that is a number as on the sheet, a comma, degrees, and LF
unfoldable pub is_comma_line : List ℕ → Bool
is_comma_line line =
    is_number (leading line)
    && (eqb (first (after_leading line)) comma
    && (is_degrees (roll line)
    && eqb (first (drop (degrees_length (roll line)) (roll line))) line_feed))

-- the line is well formed and has the time that is due
unfoldable pub right : ℕ → List ℕ → Bool
right time line = is_comma_line line && eqb (time_of line) time

-- its bytes, the LF with them
unfoldable pub line_length : List ℕ → ℕ
line_length line = length (leading line) + (1 + (degrees_length (roll line) + 1))

-- what stands at a place of a text, read as the line of a time: the sign and the thousandths of its sample, and the
-- place after it
unfoldable pub line_at : List ℕ → ℕ → ℕ → Option (Bool × ℕ × ℕ)
line_at text at time =
    cond (right time (drop at text))
    (Some (below (roll (drop at text)), size (unsigned (roll (drop at text))), at + line_length (drop at text)))
    None

-- a line as it is written
unfoldable pub sample_text : ℕ → ℤ → List ℕ
sample_text time x = digits_of time ++ (comma ∷ (degrees_text x ++ (line_feed ∷ [])))
