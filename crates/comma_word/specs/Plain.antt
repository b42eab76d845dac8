-- Plain degrees: one or two digits, a point and three digits, before an LF, as simulators write them. Assumes nothing.
use Rattle.std.specs.Prelude.{ℕ, ◌+◌, ◌-◌, ◌*◌, ◌≤◌, ◌≡◌, Bool, true, cond, not, ◌&&◌, List, [], ◌∷◌, length, get_or, eqb, leb}
use Rattle.decimal.specs.Decimal.{zero_byte, is_digit, all_digits, value_of}
use Rattle.decimal.specs.Field.{line_feed}
use Rattle.degrees.specs.Degrees.{point}

-- the byte so many places after a place
abbrev pub byte_at : List ℕ → ℕ → ℕ → ℕ
byte_at s at n = get_or s (at + n) 0

-- the last four digits of 4.250 and of 41.500
abbrev pub short_digits : List ℕ → ℕ → List ℕ
short_digits s at = get_or s at 0 ∷ byte_at s at 2 ∷ byte_at s at 3 ∷ byte_at s at 4 ∷ []

abbrev pub long_digits : List ℕ → ℕ → List ℕ
long_digits s at = byte_at s at 1 ∷ byte_at s at 3 ∷ byte_at s at 4 ∷ byte_at s at 5 ∷ []

-- 4.250 and LF, but for the point
abbrev pub short_at : List ℕ → ℕ → Bool
short_at s at = all_digits (short_digits s at) && eqb (byte_at s at 5) line_feed

-- 41.500 and LF, but for the point
abbrev pub long_at : List ℕ → ℕ → Bool
long_at s at =
    (is_digit (get_or s at 0) && not (eqb (get_or s at 0) zero_byte))
    && (all_digits (long_digits s at) && eqb (byte_at s at 6) line_feed)

-- plain degrees of so many bytes stand at a place
pub data Form (s : List ℕ) (at : ℕ) : ℕ → Type 0 where
  short : byte_at s at 1 ≡ point → short_at s at ≡ true → Form s at 5
  long : byte_at s at 2 ≡ point → long_at s at ≡ true → Form s at 6

pub record Plain (s : List ℕ) (at bytes : ℕ) : Type 0 where
  pub room : at + 7 ≤ length s
  pub form : Form s at bytes

-- how many bytes the plain degrees at a place have: 6 for 41.500, 5 for 4.250; 0 where other degrees stand there, or
-- less than seven bytes
unfoldable pub plain_bytes : List ℕ → ℕ → ℕ
plain_bytes s at =
    cond (leb (at + 7) (length s))
    (cond (eqb (byte_at s at 2) point) (cond (long_at s at) 6 0)
    (cond (eqb (byte_at s at 1) point) (cond (short_at s at) 5 0)
    0))
    0

-- the thousandths of 4.250 and of 41.500
abbrev pub short_size : List ℕ → ℕ → ℕ
short_size s at = value_of (short_digits s at)

abbrev pub long_size : List ℕ → ℕ → ℕ
long_size s at = (get_or s at 0 - zero_byte) * 10000 + value_of (long_digits s at)

-- the thousandths of plain degrees of so many bytes; 0 where less than seven bytes stand at the place
unfoldable pub plain_size : List ℕ → ℕ → ℕ → ℕ
plain_size s at bytes = cond (leb (at + 7) (length s)) (cond (eqb bytes 5) (short_size s at) (long_size s at)) 0
