-- Two answers that a promise allows are the same answer: the promise equates it with a definition's value. Assumes
-- nothing.
use mathlib.Core.Path.{◌≡◌}
use mathlib.Core.List.{List}
use Prim.Native.Nat.{ℕ}
use Rattle.sheet_line.specs.Field.{field_at}
use Rattle.sheet_line.specs.declared.Field.{Field}
use mathlib.Core.Bool.{Bool}
use Rattle.truth.proofs.Unique.{settled}
use Rattle.sheet_line.specs.Form.{is_sheet_line, begins}
use Rattle.sheet_line.specs.Column.{standard_column, record_column}
use Rattle.sheet_line.specs.declared.Sheet.{Sheet}
use Rattle.sheet_line.specs.Line.{stepping}
use Rattle.refusal.specs.declared.Refusal.{Refusal}
use Rattle.std.specs.Prelude.{Result}

pub number_at_unique : (s : List ℕ) (at : ℕ) (r q : Field) → r ≡ field_at s at → q ≡ field_at s at → r ≡ q
number_at_unique s at r q e f = cc

pub is_line_unique : (text : List ℕ) (r q : Bool) → r ≡ is_sheet_line text → q ≡ is_sheet_line text → r ≡ q
is_line_unique text r q = settled

pub begins_unique : (text word : List ℕ) (r q : Bool) → r ≡ begins word text → q ≡ begins word text → r ≡ q
begins_unique text word r q = settled

pub standard_column_unique : (text : List ℕ) (r q : ℕ) → r ≡ standard_column text → q ≡ standard_column text → r ≡ q
standard_column_unique text r q = settled

pub record_column_unique : (due : ℕ) (text : List ℕ) (r q : ℕ) → r ≡ record_column due text → q ≡ record_column due text → r ≡ q
record_column_unique due text r q = settled

pub line_unique : (s : Sheet) (line : List ℕ) (r q : Result Sheet (ℕ × ℕ × Refusal)) → r ≡ stepping s line → q ≡ stepping s line → r ≡ q
line_unique s line r q = settled
