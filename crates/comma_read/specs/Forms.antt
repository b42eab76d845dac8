-- The four forms of plain degrees after a comma, as far as eight bytes show them. Assumes nothing.
use Rattle.std.specs.Prelude.{List, [], ◌∷◌}
use Rattle.comma_word.specs.Form.{Kind, the, digit, any}

-- ,41.500 LF
abbrev pub plus_long : List Kind
plus_long = the 44 ∷ digit ∷ digit ∷ the 46 ∷ digit ∷ digit ∷ digit ∷ the 10 ∷ []

-- ,4.250 LF
abbrev pub plus_short : List Kind
plus_short = the 44 ∷ digit ∷ the 46 ∷ digit ∷ digit ∷ digit ∷ the 10 ∷ any ∷ []

-- ,-41.500
abbrev pub minus_long : List Kind
minus_long = the 44 ∷ the 45 ∷ digit ∷ digit ∷ the 46 ∷ digit ∷ digit ∷ digit ∷ []

-- ,-4.250 LF
abbrev pub minus_short : List Kind
minus_short = the 44 ∷ the 45 ∷ digit ∷ the 46 ∷ digit ∷ digit ∷ digit ∷ the 10 ∷ []
