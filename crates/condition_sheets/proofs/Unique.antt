-- Two answers that a promise allows are the same answer, with the same lent memory left: each promise equates them with
-- a definition's value. Assumes nothing.
use mathlib.Core.Path.{◌≡◌}
use mathlib.Core.Bool.{Bool}
use mathlib.Core.List.{List}
use Prim.Native.Nat.{ℕ}
use Rattle.truth.proofs.Unique.{settled}
use Rattle.campaign_state.specs.declared.Campaign.{Campaign}
use Rattle.sheet_text.specs.declared.Reading.{Reading}
use Rattle.desk_line.specs.declared.Finished.{Finished}
use Rattle.condition_sheets.specs.Taking.{opened_condition, step_of, places_after, is_over, finishing, finish_left}
use Rattle.refusal.specs.declared.Refusal.{Refusal}
use Rattle.std.specs.Prelude.{Result}

pub open_unique : (number : ℕ) (a b : Result ℕ (ℕ × ℕ × ℕ × Refusal)) → a ≡ opened_condition number → b ≡ opened_condition number → a ≡ b
open_unique number a b = settled

module _ (s : Result ℕ (ℕ × ℕ × ℕ × Refusal)) where
  module _ (r : Reading) where
    pub add_unique : (a b : Result ℕ (ℕ × ℕ × ℕ × Refusal)) → a ≡ step_of s r → b ≡ step_of s r → a ≡ b
    add_unique a b = settled

    pub place_unique : (places later other : List Campaign) → later ≡ places_after s r places → other ≡ places_after s r places → later ≡ other
    place_unique places later other = settled

  pub is_over_unique : (a b : Bool) → a ≡ is_over s → b ≡ is_over s → a ≡ b
  is_over_unique a b = settled

  module _ (places : List Campaign) (out : List ℕ) where
    pub finish_unique : (f g : Finished) → f ≡ finishing s places out → g ≡ finishing s places out → f ≡ g
    finish_unique f g = settled

    pub finish_left_unique : (later other : List ℕ) → later ≡ finish_left s places out → other ≡ finish_left s places out → later ≡ other
    finish_left_unique later other = settled
