-- Two answers that a promise allows are the same answer, with the same records and bytes left: each promise equates them
-- with a definition's value. Assumes nothing.
use mathlib.Core.Path.{◌≡◌}
use mathlib.Core.Bool.{Bool}
use mathlib.Core.List.{List}
use Prim.Native.Nat.{ℕ}
use lib.IntN.{ℤ}
use lib.ListN.{length}
use Rattle.truth.proofs.Unique.{settled}
use Rattle.sample_items.specs.declared.Items.{Items}
use Rattle.desk_line.specs.declared.Finished.{Finished}
use Rattle.comma_pair.specs.declared.Watching.{Watching}
use Rattle.comma_pair.specs.Taking.{end_of}
use Rattle.sheet_files.specs.Filing.{is_over}
use Rattle.sheet_pairs.specs.declared.FiledPairs.{FiledPairs}
use Rattle.sheet_pairs.specs.Filing.{opened_pairs, adding, adding_left, finishing, finish_left}

pub open_unique : (q : ℕ) (i : Items) (a b : FiledPairs) → a ≡ opened_pairs q i → b ≡ opened_pairs q i → a ≡ b
open_unique q i a b = settled

pub is_over_unique : (a : FiledPairs) (b c : Bool) → b ≡ is_over a.filed → c ≡ is_over a.filed → b ≡ c
is_over_unique a b c = settled

module _ (number : ℕ) (a : FiledPairs) (w : Watching) (records : List ℤ) where
  pub add_unique : (b c : FiledPairs) → b ≡ adding number a (end_of w) (length records) → c ≡ adding number a (end_of w) (length records) → b ≡ c
  add_unique b c = settled

  pub add_left_unique : (later other : List ℤ) → later ≡ adding_left number a (end_of w) records → other ≡ adding_left number a (end_of w) records → later ≡ other
  add_left_unique later other = settled

module _ (q : ℕ) (a : FiledPairs) (records : List ℤ) (out : List ℕ) where
  pub finish_unique : (f g : Finished) → f ≡ finishing q a records out → g ≡ finishing q a records out → f ≡ g
  finish_unique f g = settled

  pub finish_left_unique : (later other : List ℕ) → later ≡ finish_left q a records out → other ≡ finish_left q a records out → later ≡ other
  finish_left_unique later other = settled
