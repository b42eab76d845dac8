-- Two answers that a promise allows are the same answer, with the same bytes left: each promise equates them with a
-- definition's value. Assumes nothing.
use mathlib.Core.Path.{◌≡◌}
use mathlib.Core.Bool.{Bool}
use mathlib.Core.List.{List}
use Prim.Native.Nat.{ℕ}
use Rattle.truth.proofs.Unique.{settled}
use Rattle.sample_items.specs.declared.Items.{Items}
use Rattle.desk_line.specs.declared.Finished.{Finished}
use Rattle.desk_line.specs.Said.{putting, put_left}
use Rattle.comma_count.specs.declared.Counting.{Counting}
use Rattle.comma_count.specs.Taking.{end_of}
use Rattle.binomial_files.specs.Adding.{opened_files, added_in, is_over, added_said}
use Rattle.refusal.specs.declared.Refusal.{Refusal}
use Rattle.binomial_sum.specs.declared.Sum.{Sum}
use Rattle.std.specs.Prelude.{Result}

pub open_unique : (i : Items) (a b : Result Sum (ℕ × ℕ × Refusal)) → a ≡ opened_files i → b ≡ opened_files i → a ≡ b
open_unique i a b = settled

module _ (s : Result Sum (ℕ × ℕ × Refusal)) where
  pub add_unique : (file : ℕ) (c : Counting) (a b : Result Sum (ℕ × ℕ × Refusal)) → a ≡ added_in file s (end_of c) → b ≡ added_in file s (end_of c) → a ≡ b
  add_unique file c a b = settled

  pub is_over_unique : (a b : Bool) → a ≡ is_over s → b ≡ is_over s → a ≡ b
  is_over_unique a b = settled

  module _ (out : List ℕ) where
    pub finish_unique : (f g : Finished) → f ≡ putting (added_said s) out → g ≡ putting (added_said s) out → f ≡ g
    finish_unique f g = settled

    pub finish_left_unique : (later other : List ℕ) → later ≡ put_left (added_said s) out → other ≡ put_left (added_said s) out → later ≡ other
    finish_left_unique later other = settled
