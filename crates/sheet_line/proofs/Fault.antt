-- Document 02, request 10: the column of a field that is good or bad, and every field is one of them. Assumes nothing.
use mathlib.Core.Path.{◌≡◌}
use mathlib.Core.Bool.{and-false}
use mathlib.Core.List.{List}
use mathlib.Core.Logic.{◌⊎◌, inl, inr}
use Prim.Native.Nat.{ℕ, ◌+◌, ◌≤◌}
use native.Mathlib.Omega.{arith}
use lib.Dec.{leb}
use lib.ListN.{length}
use borrow.Author.Tests.{le-leb, lt-leb}
use Rattle.truth.proofs.Cases.{by_order}
use Rattle.decimal.specs.Decimal.{value_of}
use Rattle.sheet_line.specs.Field.{read_as}
use Rattle.sheet_line.specs.Told.{FieldIs, empty, leading_zero, number, strange, too_long}
use Rattle.sheet_line.specs.declared.Field.{Field}
use Rattle.sheet_line.proofs.Told.{field_told, is_told}
use Rattle.sheet_line.specs.Column.{column_in}
use Rattle.sheet_line.specs.Fault.{Bad, Good, bad_byte, bad_empty, bad_length, bad_number, bad_zero}

pub bad_some : {low high : ℕ} {field : List ℕ} {k : ℕ} → Bad low high field k → 1 ≤ k
bad_some (bad_empty e) = omega arith
bad_some (bad_byte before s) = omega arith
bad_some (bad_zero z) = omega arith
bad_some (bad_length t) = omega arith
bad_some (bad_number n o) = omega arith

module _ (low high at : ℕ) (field : List ℕ) where
  pub good_column : Good low high field → column_in low high at (read_as field at) ≡ 0
  good_column g = rw (is_told field at (number g.number), le-leb low (value_of field) g.from, le-leb (value_of field) high g.to)

  pub bad_column : {k : ℕ} → Bad low high field k → column_in low high at (read_as field at) ≡ at + k
  bad_column (bad_empty e) = rw (is_told field at (empty e))
  bad_column (bad_byte before s) = rw (is_told field at (strange before s)) (omega arith)
  bad_column (bad_zero z) = rw (is_told field at (leading_zero z))
  bad_column (bad_length t) = rw (is_told field at (too_long t))
  bad_column (bad_number n (inl l)) = rw (is_told field at (number n), lt-leb low (value_of field) l)
  bad_column (bad_number n (inr l)) = rw (is_told field at (number n), lt-leb (value_of field) high l, and-false (leb low (value_of field)))

  pub good_or_bad : Good low high field ⊎ ((k : ℕ) × Bad low high field k)
  good_or_bad = let (f, t) = field_told field at in go f t
    where
      go : (f : Field) → FieldIs field at f → Good low high field ⊎ ((k : ℕ) × Bad low high field k)
      go f (number n) =
          by_order (value_of field) low
          (λ l. inr (1, bad_number n (inl l)))
          (λ l. by_order high (value_of field) (λ h. inr (1, bad_number n (inr h))) (λ h. inl (record { number = n; from = l; to = h })))
      go f (empty e) = inr (1, bad_empty e)
      go f (strange before s) = inr (length before + 1, bad_byte before s)
      go f (leading_zero z) = inr (1, bad_zero z)
      go f (too_long t) = inr (1, bad_length t)
