-- Plain degrees after a comma: what the private functions that look for them promise where they stand. Assumes
-- nothing.
use Rattle.std.specs.Prelude.{◌≡◌, ℕ, ◌+◌, ◌-◌, ◌/◌, ◌%◌, List, drop, ℤ, ◌==◌, slice_index_or}
use Rattle.degrees.specs.Degrees.{sign_length, size, signed}
use Rattle.comma_word.specs.Plain.{Plain}
use Rattle.comma_line.specs.Line.{comma}

-- a comma stands at a place, a minus or none, plain degrees and an LF; the number is twice their bytes, and one more
-- for the minus
pub record PlainRoll (s : List ℕ) (c roll : ℕ) : Type 0 where
  pub mark : slice_index_or s c 0 ≡ comma
  pub sign : sign_length (drop (c + 1) s) ≡ roll % 2
  pub plain : Plain s (c + 1 + roll % 2) (roll / 2 - 2 - roll % 2)
  pub ends : roll / 2 ≡ 2 + roll % 2 + (roll / 2 - 2 - roll % 2)

-- some such number
pub record AnyRoll (s : List ℕ) (c : ℕ) : Type 0 where
  pub roll : ℕ
  pub found : PlainRoll s c roll

-- the degrees after their sign, and the sample that they are
abbrev pub roll_size : List ℕ → ℕ → ℕ → ℕ
roll_size s c roll = size (drop (c + 1 + roll % 2) s)

abbrev pub roll_sample : List ℕ → ℕ → ℕ → ℤ
roll_sample s c roll = signed (roll % 2 == 1) (roll_size s c roll)
