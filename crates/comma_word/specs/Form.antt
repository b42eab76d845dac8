-- A form: what may stand in each of a row of bytes; and the three numbers by which bytes side by side are held against
-- it. Assumes nothing.
use Rattle.std.specs.Prelude.{ℕ, List, map}
use Rattle.comma_word.specs.Word.{word}

pub data Kind : Type 0 where
  the : ℕ → Kind
  digit : Kind
  any : Kind

-- the bits of a byte that its kind settles: a digit's upper four
unfoldable pub mask_of : Kind → ℕ
mask_of (the b) = 255
mask_of digit = 240
mask_of any = 0

-- and what they are; where these are turned, nothing is left of them
unfoldable pub bits_of : Kind → ℕ
bits_of (the b) = b
bits_of digit = 48
bits_of any = 0

-- what is left of a digit stays below 16 with 6 more
unfoldable pub more_of : Kind → ℕ
more_of (the b) = 0
more_of digit = 6
more_of any = 0

abbrev pub mask : List Kind → ℕ
mask form = word (map mask_of form)

abbrev pub bits : List Kind → ℕ
bits form = word (map bits_of form)

abbrev pub more : List Kind → ℕ
more form = word (map more_of form)
