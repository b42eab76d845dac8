-- Two answers that the promise allows are the same answer, with the same later contents of everything that was lent.
-- Assumes nothing.
use Prim.Native.Nat.{ℕ}
use mathlib.Core.Path.{◌≡◌}
use mathlib.Core.List.{List}
use Rattle.truth.proofs.Unique.{settled}
use Rattle.capi.specs.Told.{Told}
use Rattle.capi_sheet.specs.Told.{sheet_column, sheet_line, sheet_read}

-- the number, what is carried and the array; the line; the column
pub sheet_read_unique : (text s : List ℕ) (x y : Told) → x ≡ sheet_read text s → y ≡ sheet_read text s → x ≡ y
sheet_read_unique text s x y = settled

pub sheet_line_unique : (text s : List ℕ) (k l : ℕ) → k ≡ sheet_line text s → l ≡ sheet_line text s → k ≡ l
sheet_line_unique text s k l = settled

pub sheet_column_unique : (text s : List ℕ) (k l : ℕ) → k ≡ sheet_column text s → l ≡ sheet_column text s → k ≡ l
sheet_column_unique text s k l = settled
