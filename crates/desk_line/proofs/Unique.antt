-- Two answers that a promise allows are the same answer, with the same bytes left: each promise equates them with a
-- definition's value. Assumes nothing.
use mathlib.Core.Path.{◌≡◌}
use mathlib.Core.List.{List, [], ◌∷◌}
use Prim.Native.Nat.{ℕ}
use Rattle.truth.proofs.Unique.{settled}
use Rattle.refusal.specs.declared.Refusal.{Refusal}
use Rattle.desk_line.specs.declared.Finished.{Finished}
use Rattle.desk_line.specs.Said.{refused, putting, put_left}

module _ (line : ℕ) (q : Refusal) (out : List ℕ) where
  pub refuse_unique : (f g : Finished) → f ≡ putting (refused (line ∷ []) q) out → g ≡ putting (refused (line ∷ []) q) out → f ≡ g
  refuse_unique f g = settled

  pub refuse_left_unique : (later other : List ℕ) → later ≡ put_left (refused (line ∷ []) q) out → other ≡ put_left (refused (line ∷ []) q) out → later ≡ other
  refuse_left_unique later other = settled

  module _ (file : ℕ) where
    pub refuse_in_unique : (f g : Finished) → f ≡ putting (refused (file ∷ line ∷ []) q) out → g ≡ putting (refused (file ∷ line ∷ []) q) out → f ≡ g
    refuse_in_unique f g = settled

    pub refuse_in_left_unique : (later other : List ℕ) → later ≡ put_left (refused (file ∷ line ∷ []) q) out → other ≡ put_left (refused (file ∷ line ∷ []) q) out → later ≡ other
    refuse_in_left_unique later other = settled
