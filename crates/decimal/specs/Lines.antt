-- The lines of a text. Assumes nothing.
use Rattle.std.specs.Prelude.{ℕ, cond, List, [], ◌∷◌, eqb}
use Rattle.decimal.specs.Field.{line_feed}

-- each goes up to an LF and has it; what stands after the last LF is a line too, without one
abbrev pub start_line : ℕ → List (List ℕ) → List (List ℕ)
start_line b [] = (b ∷ []) ∷ []
start_line b (line ∷ lines) = (b ∷ line) ∷ lines

unfoldable pub lines_of : List ℕ → List (List ℕ)
lines_of [] = []
lines_of (b ∷ text) = cond (eqb b line_feed) ((b ∷ []) ∷ lines_of text) (start_line b (lines_of text))
