-- Two answers that a promise allows are the same answer, with the same lent memory left: each promise equates them with
-- a definition's value. Assumes nothing.
use mathlib.Core.Path.{◌≡◌}
use mathlib.Core.Bool.{Bool}
use mathlib.Core.List.{List}
use Prim.Native.Nat.{ℕ}
use lib.IntN.{ℤ}
use lib.ListN.{length}
use Rattle.truth.proofs.Unique.{settled}
use Rattle.sample_items.specs.declared.Items.{Items}
use Rattle.desk_line.specs.declared.Finished.{Finished}
use Rattle.comma_count.specs.declared.Counting.{Counting}
use Rattle.comma_count.specs.Taking.{end_of}
use Rattle.sheet_files.specs.Filing.{opened_sheet, step_in, filed_of, left_by, is_over, finishing, finish_left}
use Rattle.refusal.specs.declared.Refusal.{Refusal}
use Rattle.std.specs.Prelude.{Result}

pub open_unique : (q : ℕ) (i : Items) (a b : Result (ℕ × ℕ) (ℕ × ℕ × Refusal)) → a ≡ opened_sheet q i → b ≡ opened_sheet q i → a ≡ b
open_unique q i a b = settled

module _ (s : Result (ℕ × ℕ) (ℕ × ℕ × Refusal)) (records : List ℤ) where
  module _ (number : ℕ) (c : Counting) where
    pub add_unique : (a b : Result (ℕ × ℕ) (ℕ × ℕ × Refusal)) → a ≡ filed_of (step_in number s (end_of c) (length records)) → b ≡ filed_of (step_in number s (end_of c) (length records)) → a ≡ b
    add_unique a b = settled

    pub add_left_unique : (later other : List ℤ) → later ≡ left_by (step_in number s (end_of c) (length records)) records
        → other ≡ left_by (step_in number s (end_of c) (length records)) records → later ≡ other
    add_left_unique later other = settled

  pub is_over_unique : (a b : Bool) → a ≡ is_over s → b ≡ is_over s → a ≡ b
  is_over_unique a b = settled

  module _ (q : ℕ) (out : List ℕ) where
    pub finish_unique : (f g : Finished) → f ≡ finishing q s records out → g ≡ finishing q s records out → f ≡ g
    finish_unique f g = settled

    pub finish_left_unique : (later other : List ℕ) → later ≡ finish_left q s records out → other ≡ finish_left q s records out → later ≡ other
    finish_left_unique later other = settled
