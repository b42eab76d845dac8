-- Document 02 [1]: degrees in text, and the sample that they stand for, in thousandths of a degree. Assumes nothing.
use Rattle.std.specs.Prelude.{ℕ, ◌+◌, ◌*◌, ◌/◌, ◌%◌, Bool, true, cond, ◌&&◌, List, [], ◌∷◌, ◌++◌, length, get_or, take, drop, leb, eqb, ℤ, pos, negsuc, neg_ℤ, nat_abs, Option, Some, None}
use Rattle.decimal.specs.Decimal.{zero_byte, is_number, value_of, digits_of}
use Rattle.decimal.specs.Leading.{leading, after_leading}

abbrev pub minus : ℕ
minus = 45

abbrev pub point : ℕ
point = 46

-- the byte that a text starts with, 0 where it has none
abbrev pub first : List ℕ → ℕ
first text = get_or text 0 0

-- ---- the degrees that a text starts with, without a sign
-- whole degrees; a point may follow, and then digits
abbrev pub pointed : List ℕ → Bool
pointed text = eqb (first (after_leading text)) point

abbrev pub decimals : List ℕ → List ℕ
decimals text = cond (pointed text) (leading (drop 1 (after_leading text))) []

-- whole degrees are a number as on the sheet, and after a point stand one to three digits
unfoldable pub is_size : List ℕ → Bool
is_size text = is_number (leading text) && cond (pointed text) (leb 1 (length (decimals text)) && leb (length (decimals text)) 3) true

-- how many bytes they are
unfoldable pub size_length : List ℕ → ℕ
size_length text = length (leading text) + cond (pointed text) (1 + length (decimals text)) 0

-- digits after the point are filled up with zeros to three
unfoldable pub filled : List ℕ → List ℕ
filled digits = take 3 (digits ++ (zero_byte ∷ zero_byte ∷ zero_byte ∷ []))

-- their thousandths
unfoldable pub size : List ℕ → ℕ
size text = value_of (leading text) * 1000 + value_of (filled (decimals text))

-- ---- with a sign: a minus may stand before them
abbrev pub below : List ℕ → Bool
below text = eqb (first text) minus

abbrev pub sign_length : List ℕ → ℕ
sign_length text = cond (below text) 1 0

abbrev pub unsigned : List ℕ → List ℕ
unsigned text = drop (sign_length text) text

abbrev pub is_degrees : List ℕ → Bool
is_degrees text = is_size (unsigned text)

abbrev pub degrees_length : List ℕ → ℕ
degrees_length text = sign_length text + size_length (unsigned text)

-- -0 reads as 0
abbrev pub signed : Bool → ℕ → ℤ
signed b n = cond b (neg_ℤ (pos n)) (pos n)

-- the most thousandths of a sample in range
abbrev pub largest_size : ℕ
largest_size = 1000000

-- THE SAMPLE that degrees stand for
abbrev pub sample_of : List ℕ → ℤ
sample_of text = signed (below text) (size (unsigned text))

-- what stands at a place of a text, read as degrees: the sign, the thousandths and the place after
unfoldable pub degrees_at : List ℕ → ℕ → Option (Bool × ℕ × ℕ)
degrees_at text at =
    cond (is_degrees (drop at text)) (Some (below (drop at text), size (unsigned (drop at text)), at + degrees_length (drop at text))) None

-- the same after the sign
unfoldable pub size_at : List ℕ → ℕ → Bool → Option (Bool × ℕ × ℕ)
size_at text at minus = cond (is_size (drop at text)) (Some (minus, size (drop at text), at + size_length (drop at text))) None

-- ---- a sample as it is written: always three decimals, minus only below zero
abbrev pub sign : ℤ → List ℕ
sign (pos n) = []
sign (negsuc n) = minus ∷ []

-- the three decimals of a number of thousandths
abbrev pub three_digits : ℕ → List ℕ
three_digits n = (zero_byte + n / 100 % 10) ∷ (zero_byte + n / 10 % 10) ∷ (zero_byte + n % 10) ∷ []

unfoldable pub degrees_text : ℤ → List ℕ
degrees_text x = sign x ++ (digits_of (nat_abs x / 1000) ++ (point ∷ three_digits (nat_abs x)))

-- the most bytes that a sample of 32 bits needs: a minus, seven digits, a point and three
abbrev pub longest_degrees : ℕ
longest_degrees = 12
