-- Two answers that a promise allows are the same answer, with the same bytes left: each promise equates them with a
-- definition's value. Assumes nothing.
use mathlib.Core.Path.{◌≡◌}
use mathlib.Core.Bool.{Bool}
use mathlib.Core.List.{List}
use Prim.Native.Nat.{ℕ}
use Rattle.truth.proofs.Unique.{settled}
use Rattle.sheet_text.specs.declared.Reading.{Reading}
use Rattle.sheet_line.specs.declared.Sheet.{Sheet}
use Rattle.sheet_text.specs.Sheet.{reading_end, running, run_left}
use Rattle.refusal.specs.declared.Refusal.{Refusal}
use Rattle.std.specs.Prelude.{Result}

pub read_unique : (more : Bool) (text : List ℕ) (s : Sheet) (r q : Reading) → r ≡ reading_end more text s → q ≡ reading_end more text s → r ≡ q
read_unique more text s r q = settled

module _ (more : Bool) (text : List ℕ) (s : Sheet) (out : List ℕ) where
  pub run_unique : (r q : Result (Reading × ℕ) Refusal) → r ≡ running more text s out → q ≡ running more text s out → r ≡ q
  run_unique r q = settled

  pub run_left_unique : (later other : List ℕ) → later ≡ run_left more text s out → other ≡ run_left more text s out → later ≡ other
  run_left_unique later other = settled
