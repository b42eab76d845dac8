-- Two answers that a promise allows are the same answer, with the same bytes left. Assumes nothing.
use mathlib.Core.Path.{◌≡◌, sym, ◌∙◌}
use mathlib.Core.Bool.{Bool, cond}
use mathlib.Core.List.{List}
use Prim.Native.Nat.{ℕ, ◌+◌, ◌%◌}
use lib.ListN.{length, drop}
use Rattle.text.specs.Write.{written, place_after}
use Rattle.decimal.specs.Decimal.{zero_byte, is_digit, is_number, longest, leading_digits, value_of, digits_of}
use Rattle.decimal.specs.Field.{ending, field_text}
use Rattle.decimal.specs.Leading.{leading, leading_at, stands_at}
use Rattle.decimal.specs.declared.Run.{Run}
use Rattle.std.specs.Prelude.{Option}

pub is_digit_unique : (b : ℕ) (r q : Bool) → r ≡ is_digit b → q ≡ is_digit b → r ≡ q
is_digit_unique b r q e f = cc

pub stands_unique : (s : List ℕ) (at b : ℕ) (r q : Bool) → r ≡ stands_at s at b → q ≡ stands_at s at b → r ≡ q
stands_unique s at b r q e f = cc

pub leading_at_unique : (s : List ℕ) (at : ℕ) (r q : Option (ℕ × ℕ)) → r ≡ leading_at s at → q ≡ leading_at s at → r ≡ q
leading_at_unique s at r q e f = cc

pub number_or_unique : (s : List ℕ) (other r q : ℕ) → r ≡ cond (is_number s) (value_of s) other → q ≡ cond (is_number s) (value_of s) other → r ≡ q
number_or_unique s other r q e f = cc

-- of `run_at`
module _ (s : List ℕ) (at : ℕ) where
  pub run_at_unique : (r q : Run)
      → (r.value ≡ value_of (leading_digits longest (drop at s))) × (r.end ≡ at + length (leading_digits longest (drop at s)))
      → (q.value ≡ value_of (leading_digits longest (drop at s))) × (q.end ≡ at + length (leading_digits longest (drop at s))) → r ≡ q
  run_at_unique r q e f i = record { value = (e.0 ∙ sym f.0) i; end = (e.1 ∙ sym f.1) i }

pub digits_end_unique : (s : List ℕ) (at r q : ℕ) → r ≡ at + length (leading (drop at s)) → q ≡ at + length (leading (drop at s)) → r ≡ q
digits_end_unique s at r q e f = cc

pub last_digit_unique : (v r q : ℕ) → r ≡ zero_byte + v % 10 → q ≡ zero_byte + v % 10 → r ≡ q
last_digit_unique v r q e f = cc

pub digits_unique : (v r q : ℕ) → r ≡ length (digits_of v) → q ≡ length (digits_of v) → r ≡ q
digits_unique v r q e f = cc

-- of `write_number`
module _ (v : ℕ) (out : List ℕ) (at : ℕ) where
  pub place_unique : (r q : ℕ) → r ≡ place_after out at (digits_of v) → q ≡ place_after out at (digits_of v) → r ≡ q
  place_unique r q e f = cc

  pub bytes_unique : (later other : List ℕ) → later ≡ written out at (digits_of v) → other ≡ written out at (digits_of v) → later ≡ other
  bytes_unique later other e f = cc

-- of `write_field`
module _ (v end : ℕ) (out : List ℕ) (at : ℕ) where
  pub field_place_unique : (r q : ℕ) → r ≡ place_after out at (field_text v end) → q ≡ place_after out at (field_text v end) → r ≡ q
  field_place_unique r q e f = cc

  pub field_bytes_unique : (later other : List ℕ) → later ≡ written out at (field_text v end) → other ≡ written out at (field_text v end) → later ≡ other
  field_bytes_unique later other e f = cc

-- of `end_line`
module _ (number : ℕ) (more : Option ℕ) (out : List ℕ) (at : ℕ) where
  pub end_place_unique : (r q : ℕ) → r ≡ place_after out at (ending number more) → q ≡ place_after out at (ending number more) → r ≡ q
  end_place_unique r q e f = cc

  pub end_bytes_unique : (later other : List ℕ) → later ≡ written out at (ending number more) → other ≡ written out at (ending number more) → later ≡ other
  end_bytes_unique later other e f = cc
