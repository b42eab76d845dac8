-- Document 02, request 10: the column of what is wrong with a field, in its own bytes, 1 for its first: that of the
-- first byte that is no digit, else 1. A field is good if it is a number from `low` to `high`. Assumes nothing.
use Rattle.std.specs.Prelude.{◌≡◌, true, List, [], ◌⊎◌, ℕ, ◌+◌, ◌≤◌, ◌<◌, length}
use Rattle.decimal.specs.Decimal.{is_number, value_of}
use Rattle.sheet_line.specs.Told.{FirstStrange, TooMany, ZeroFirst}

pub data Bad (low high : ℕ) (field : List ℕ) : ℕ → Type 0 where
  bad_empty : field ≡ [] → Bad low high field 1
  bad_byte : (before : List ℕ) → FirstStrange field before → Bad low high field (length before + 1)
  bad_zero : ZeroFirst field → Bad low high field 1
  bad_length : TooMany field → Bad low high field 1
  bad_number : is_number field ≡ true → (value_of field < low) ⊎ (high < value_of field) → Bad low high field 1

pub record Good (low high : ℕ) (field : List ℕ) : Type 0 where
  pub number : is_number field ≡ true
  pub from : low ≤ value_of field
  pub to : value_of field ≤ high
