-- Two answers that a promise allows are the same answer, with the same later contents of everything that was lent.
-- Assumes nothing.
use Prim.Native.Nat.{ℕ}
use mathlib.Core.Path.{◌≡◌}
use mathlib.Core.List.{List}
use lib.IntN.{ℤ}
use Rattle.truth.proofs.Unique.{settled}
use Rattle.capi.specs.Told.{Told}
use Rattle.capi_sheet_records.specs.Told.{records_column, records_left, records_line, records_read, records_standard, sheet_written}

pub sheet_write_unique : (q : ℕ) (xs : List ℤ) (out : List ℕ) (x y : Told) → x ≡ sheet_written q xs out → y ≡ sheet_written q xs out → x ≡ y
sheet_write_unique q xs out x y = settled

pub sheet_records_unique : (text : List ℕ) (slice later other : List ℤ) (x y : Told)
    → x ≡ records_read text slice → y ≡ records_read text slice → later ≡ records_left text slice → other ≡ records_left text slice → (x ≡ y) × (later ≡ other)
sheet_records_unique text slice later other x y e f g h = (settled e f, settled g h)

-- the standard, the line and the column
pub sheet_standard_unique : (text : List ℕ) (slice : List ℤ) (x y : ℕ) → x ≡ records_standard text slice → y ≡ records_standard text slice → x ≡ y
sheet_standard_unique text slice x y = settled

pub records_line_unique : (text : List ℕ) (slice : List ℤ) (x y : ℕ) → x ≡ records_line text slice → y ≡ records_line text slice → x ≡ y
records_line_unique text slice x y = settled

pub records_column_unique : (text : List ℕ) (slice : List ℤ) (x y : ℕ) → x ≡ records_column text slice → y ≡ records_column text slice → x ≡ y
records_column_unique text slice x y = settled
