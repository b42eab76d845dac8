-- Document 01, "The job sheet": numbers in text. A text is a list of bytes. Assumes nothing.
use Rattle.std.specs.Prelude.{ℕ, zero, suc, ◌+◌, ◌-◌, ◌*◌, ◌/◌, ◌%◌, Bool, true, cond, not, ◌&&◌, length, get_or, leb, ltb, eqb}
use mathlib.Core.List.{List, [], ◌∷◌, ◌++◌, foldl}

-- the byte of the digit 0; those of 1 to 9 follow it
abbrev pub zero_byte : ℕ
zero_byte = 48

-- the most digits of a number
abbrev pub longest : ℕ
longest = 12

-- the byte is a decimal digit
abbrev pub is_digit : ℕ → Bool
is_digit b = leb zero_byte b && ltb b (zero_byte + 10)

-- all bytes are decimal digits
unfoldable pub all_digits : List ℕ → Bool
all_digits [] = true
all_digits (b ∷ text) = is_digit b && all_digits text

-- the text starts with 0 and goes on
abbrev pub leading_zero : List ℕ → Bool
leading_zero text = ltb 1 (length text) && eqb (get_or text 0 0) zero_byte

-- the text is a number: decimal, 1 to 12 digits, no leading zero but for 0 itself
unfoldable pub is_number : List ℕ → Bool
is_number text = all_digits text && (leb 1 (length text) && (leb (length text) longest && not (leading_zero text)))

-- the digits that a text starts with, at most n of them
unfoldable pub leading_digits : ℕ → List ℕ → List ℕ
leading_digits zero text = []
leading_digits (suc n) [] = []
leading_digits (suc n) (b ∷ text) = cond (is_digit b) (b ∷ leading_digits n text) []

-- a number, and one digit more after it
abbrev pub push : ℕ → ℕ → ℕ
push v b = v * 10 + (b - zero_byte)

-- the number that a text of digits stands for, its first digit being worth most
unfoldable pub value_of : List ℕ → ℕ
value_of text = foldl push 0 text

-- the digits of v, for which n steps are enough: below ten none but the last, else those of v / 10 before it
unfoldable pub digits_within : ℕ → ℕ → List ℕ
digits_within zero v = []
digits_within (suc n) v = cond (ltb v 10) (λ w. []) (digits_within n) (v / 10) ++ ((zero_byte + v % 10) ∷ [])

-- the decimal text of a number
unfoldable pub digits_of : ℕ → List ℕ
digits_of v = digits_within (suc v) v

-- the most digits of a number that 64 bits hold
abbrev pub widest : ℕ
widest = 20
