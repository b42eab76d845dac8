-- Two answers that a promise allows are the same answer, with the same list and the same bytes left: each promise equates
-- them with a definition's value. Assumes nothing.
use mathlib.Core.Path.{◌≡◌}
use mathlib.Core.Bool.{Bool}
use mathlib.Core.List.{List}
use Prim.Native.Nat.{ℕ}
use lib.IntN.{ℤ}
use lib.ListN.{length}
use Rattle.truth.proofs.Unique.{settled}
use Rattle.desk_line.specs.declared.Finished.{Finished}
use Rattle.desk_line.specs.Said.{putting, put_left}
use Rattle.reach_files.specs.declared.Job.{Job}
use Rattle.reach_files.specs.declared.Kept.{Kept}
use Rattle.reach_files.specs.Gathering.{opened, counted_to, put_from, kept_by, list_by, last_sizes, added_in, is_over, gathered_said, list_left}
use Rattle.refusal.specs.declared.Refusal.{Refusal}
use Rattle.reach_files.specs.declared.Gathered.{Gathered}
use Rattle.std.specs.Prelude.{Result}

pub open_unique : (j : Job) (a b : Result Gathered (ℕ × ℕ × Refusal)) → a ≡ opened j → b ≡ opened j → a ≡ b
open_unique j a b = settled

pub is_over_unique : (g : Result Gathered (ℕ × ℕ × Refusal)) (a b : Bool) → a ≡ is_over g → b ≡ is_over g → a ≡ b
is_over_unique g a b = settled

module _ (R lines : ℕ) (k : Kept) (xs : List ℤ) (list : List ℕ) where
  pub hand_unique : (a b : Kept) → a ≡ kept_by R lines k xs → b ≡ kept_by R lines k xs → a ≡ b
  hand_unique a b = settled

  pub hand_list_unique : (later other : List ℕ) → later ≡ list_by R lines k xs list → other ≡ list_by R lines k xs list → later ≡ other
  hand_list_unique later other = settled

module _ (k : Kept) (list : List ℕ) where
  pub last_unique : (m n : ℕ) → m ≡ counted_to k.peaks (length (last_sizes k.handed)) → n ≡ counted_to k.peaks (length (last_sizes k.handed)) → m ≡ n
  last_unique m n = settled

  pub last_list_unique : (later other : List ℕ) → later ≡ put_from k.peaks (last_sizes k.handed) list → other ≡ put_from k.peaks (last_sizes k.handed) list → later ≡ other
  last_list_unique later other = settled

pub add_unique : (j : Job) (file : ℕ) (g : Result Gathered (ℕ × ℕ × Refusal)) (came : Result (Unit {0}) (ℕ × Refusal)) (lines peaks : ℕ) (a b : Result Gathered (ℕ × ℕ × Refusal))
    → a ≡ added_in j file g came lines peaks → b ≡ added_in j file g came lines peaks → a ≡ b
add_unique j file g came lines peaks a b = settled

module _ (j : Job) (g : Result Gathered (ℕ × ℕ × Refusal)) (list out : List ℕ) where
  pub finish_unique : (a b : Finished) → a ≡ putting (gathered_said j g list) out → b ≡ putting (gathered_said j g list) out → a ≡ b
  finish_unique a b = settled

  pub finish_left_unique : (later other : List ℕ) → later ≡ put_left (gathered_said j g list) out → other ≡ put_left (gathered_said j g list) out → later ≡ other
  finish_left_unique later other = settled

  pub finish_list_unique : (later other : List ℕ) → later ≡ list_left g list → other ≡ list_left g list → later ≡ other
  finish_list_unique later other = settled
