-- The number that a text starts with, whatever stands after it: its digits are all the digits at the text's start.
-- Assumes nothing.
use Rattle.std.specs.Prelude.{ℕ, ◌+◌, Bool, cond, ◌&&◌, List, [], ◌∷◌, length, drop, get_or, eqb, ltb, Option, Some, None}
use Rattle.decimal.specs.Decimal.{is_digit, is_number, value_of}

-- the byte stands at a place of a text
abbrev pub stands_at : List ℕ → ℕ → ℕ → Bool
stands_at text at b = ltb at (length text) && eqb (get_or text at 0) b

-- the digits that a text starts with
unfoldable pub leading : List ℕ → List ℕ
leading [] = []
leading (b ∷ text) = cond (is_digit b) (b ∷ leading text) []

-- what stands after them
abbrev pub after_leading : List ℕ → List ℕ
after_leading text = drop (length (leading text)) text

-- what stands at a place of a text, read as a number up to the first byte that is no digit: its number and the place of
-- that byte
unfoldable pub leading_at : List ℕ → ℕ → Option (ℕ × ℕ)
leading_at text at = cond (is_number (leading (drop at text))) (Some (value_of (leading (drop at text)), at + length (leading (drop at text)))) None
