-- The survey of what is left of a table from place i on: one place more, and the end. For whoever goes through a table
-- place by place. Assumes nothing.
use mathlib.Core.Path.{◌≡◌, refl}
use mathlib.Core.List.{List}
use Prim.Native.Nat.{ℕ, ◌+◌, ◌≤◌, ◌<◌}
use native.Mathlib.Numerals.{add-one}
use lib.ListN.{drop, drop_of_length-le, length}
use lib.Seq.{drop-cons}
use Rattle.bureau_table.specs.declared.Place.{Place}
use Rattle.bureau_table.specs.Table.{at, free}
use Rattle.bureau_survey.specs.declared.Seen.{Seen}
use Rattle.bureau_survey.specs.Survey.{looked, surveyed}

pub look_on : (s : Seen) (i : ℕ) (t : List Place) → i < length t → looked s i (drop i t) ≡ looked (surveyed s i (at t i)) (i + 1) (drop (i + 1) t)
unfolding looked
look_on s i t l = rw (add-one i, drop-cons t i free l) refl

pub look_end : (s : Seen) (i : ℕ) (t : List Place) → length t ≤ i → looked s i (drop i t) ≡ s
unfolding looked
look_end s i t l = rw (drop_of_length-le t l) refl
