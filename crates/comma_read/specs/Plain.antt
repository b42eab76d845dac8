-- Plain lines, the lines that most files are made of: what the private functions that look for them promise where they
-- stand. Assumes nothing.
use Rattle.std.specs.Prelude.{◌≡◌, ℕ, ◌+◌, ◌*◌, ◌≤◌, true, List, length, drop, ℤ, slice_set}
use Rattle.decimal.specs.Decimal.{digits_of}
use Rattle.degrees.specs.Degrees.{unsigned, size, sample_of, largest_size}
use Rattle.comma_line.specs.Line.{roll, right, line_length}
use Rattle.comma_read.specs.Roll.{PlainRoll}

-- a width that is not too large for a time
pub record Narrow (width time : ℕ) : Type 0 where
  pub some : 1 ≤ width
  pub few : width ≤ length (digits_of time)

-- the line of a time stands at a place, its sample in range, and this is the place after it
pub record PlainLine (s : List ℕ) (at time next : ℕ) : Type 0 where
  pub is : right time (drop at s) ≡ true
  pub place : next ≡ at + line_length (drop at s)
  pub small : size (unsigned (roll (drop at s))) ≤ largest_size

-- a plain line, its comma where its time ends
pub record RollLine (s : List ℕ) (at time next : ℕ) : Type 0 where
  pub line : PlainLine s at time next
  pub roll : ℕ
  pub found : PlainRoll s (at + length (digits_of time)) roll

-- plain lines stand one after the other from a place on, the first of a time; this is the place after the last of
-- them, and their number
pub data PlainLines (s : List ℕ) (D at time : ℕ) : ℕ → ℕ → Type 0 where
  none : PlainLines s D at time at 0
  more : {next lines end : ℕ} → PlainLines s D at time next lines → RollLine s next (time + lines * D) end → PlainLines s D at time end (lines + 1)

-- the same, the sample of each put into a slice from a place on
pub data PlainPut (s : List ℕ) (D at time : ℕ) (slice : List ℤ) (from : ℕ) : ℕ → ℕ → List ℤ → Type 0 where
  as_it_stood : PlainPut s D at time slice from at 0 slice
  one_more : {next lines end : ℕ} {samples : List ℤ} → PlainPut s D at time slice from next lines samples → RollLine s next (time + lines * D) end
      → PlainPut s D at time slice from end (lines + 1) (slice_set samples (from + lines) (sample_of (roll (drop next s))))
