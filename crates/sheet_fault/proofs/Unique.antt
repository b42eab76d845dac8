-- Two answers that a promise allows are the same answer, with the same bytes left: each promise equates them with a
-- definition's value. Assumes nothing.
use mathlib.Core.Path.{◌≡◌}
use mathlib.Core.List.{List}
use Prim.Native.Nat.{ℕ}
use Rattle.std.specs.Prelude.{Option}
use Rattle.truth.proofs.Unique.{settled}
use Rattle.desk_line.specs.declared.Finished.{Finished}
use Rattle.desk_line.specs.Said.{putting, put_left}
use Rattle.sheet_fault.specs.Fault.{refused_sheet}

module _ (place line number : ℕ) (more : Option ℕ) (out : List ℕ) where
  pub refuse_unique : (f g : Finished) → f ≡ putting (refused_sheet place line number more) out → g ≡ putting (refused_sheet place line number more) out → f ≡ g
  refuse_unique f g = settled

  pub refuse_left_unique : (later other : List ℕ) → later ≡ put_left (refused_sheet place line number more) out
      → other ≡ put_left (refused_sheet place line number more) out → later ≡ other
  refuse_left_unique later other = settled
