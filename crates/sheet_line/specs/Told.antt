-- Document 02, request 10: what a field is told to be, in 02's words and order: a number, empty, with a strange byte,
-- with a leading zero, too long. Each shuts the others out (proofs/Told). Assumes nothing.
use Rattle.std.specs.Prelude.{◌≡◌, false, true, List, [], ◌∷◌, ◌++◌, ℕ, ◌+◌, ◌<◌, length, get_or}
use Rattle.decimal.specs.Decimal.{all_digits, is_digit, is_number, longest, value_of, zero_byte}
use Rattle.sheet_line.specs.declared.Field.{Field}
use Rattle.sheet_line.specs.declared.Field.TheVariants.{Number, Empty, Strange, LeadingZero, TooLong}

-- the field has this as its first byte that is no digit, after so many digits
pub record FirstStrange (field before : List ℕ) : Type 0 where
  pub byte : ℕ
  pub after : List ℕ
  pub parts : field ≡ before ++ (byte ∷ after)
  pub digits : all_digits before ≡ true
  pub strange : is_digit byte ≡ false

-- more than one digit, the first of them 0
pub record ZeroFirst (field : List ℕ) : Type 0 where
  pub next : ℕ
  pub more : List ℕ
  pub parts : field ≡ zero_byte ∷ (next ∷ more)
  pub digits : all_digits field ≡ true

-- more than 12 digits, the first of them not 0
pub record TooMany (field : List ℕ) : Type 0 where
  pub digits : all_digits field ≡ true
  pub first : ¬ (get_or field 0 0 ≡ zero_byte)
  pub many : longest < length field

-- what a field that starts at a place is told to be
pub data FieldIs (field : List ℕ) (at : ℕ) : Field → Type 0 where
  number : is_number field ≡ true → FieldIs field at (Number (value_of field) (at + length field))
  empty : field ≡ [] → FieldIs field at Empty
  strange : (before : List ℕ) → FirstStrange field before → FieldIs field at (Strange (at + length before))
  leading_zero : ZeroFirst field → FieldIs field at LeadingZero
  too_long : TooMany field → FieldIs field at TooLong
