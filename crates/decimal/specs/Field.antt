-- Document 01, "The job sheet": the bytes that end a field and a line, and a field as it is written. Assumes nothing.
use Rattle.std.specs.Prelude.{ℕ, List, [], ◌∷◌, ◌++◌, Option, Some, None}
use Rattle.decimal.specs.Decimal.{digits_of}

abbrev pub tab : ℕ
tab = 9

abbrev pub line_feed : ℕ
line_feed = 10

-- a field as it is written: a number and the byte that ends it
unfoldable pub field_text : ℕ → ℕ → List ℕ
field_text v end = digits_of v ++ (end ∷ [])

-- how a line ends: with a number, or with a number and one more, and LF
unfoldable pub ending : ℕ → Option ℕ → List ℕ
ending number None = field_text number line_feed
ending number (Some more) = field_text number tab ++ field_text more line_feed
