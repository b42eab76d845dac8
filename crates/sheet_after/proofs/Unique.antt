-- Two answers that a promise allows are the same answer, with the same lent memory left: each promise equates them with
-- a definition's value. Assumes nothing.
use mathlib.Core.Path.{◌≡◌}
use mathlib.Core.List.{List}
use Prim.Native.Nat.{ℕ}
use lib.IntN.{ℤ}
use lib.ListN.{length}
use Rattle.truth.proofs.Unique.{settled}
use Rattle.refusal.specs.declared.Refusal.{Refusal}
use Rattle.sample_items.specs.declared.Items.{Items}
use Rattle.desk_line.specs.declared.Finished.{Finished}
use Rattle.desk_line.specs.Said.{putting, put_left}
use Rattle.sheet_after.specs.After.{refused_old}
use Rattle.sheet_after.specs.Taking.{taking_up, taken_left}
use Rattle.std.specs.Prelude.{Result}

module _ (i : Items) (sheet : List ℕ) (records : List ℤ) where
  pub take_up_unique : (a b : Result (ℕ × ℕ × ℕ) (ℕ × ℕ × Refusal)) → a ≡ taking_up i sheet (length records) → b ≡ taking_up i sheet (length records) → a ≡ b
  take_up_unique a b = settled

  pub take_up_left_unique : (later other : List ℤ) → later ≡ taken_left i sheet records → other ≡ taken_left i sheet records → later ≡ other
  take_up_left_unique later other = settled

module _ (line column : ℕ) (r : Refusal) (out : List ℕ) where
  pub refuse_unique : (f g : Finished) → f ≡ putting (refused_old line column r) out → g ≡ putting (refused_old line column r) out → f ≡ g
  refuse_unique f g = settled

  pub refuse_left_unique : (later other : List ℕ) → later ≡ put_left (refused_old line column r) out → other ≡ put_left (refused_old line column r) out → later ≡ other
  refuse_left_unique later other = settled
