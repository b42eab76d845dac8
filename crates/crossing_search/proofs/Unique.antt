-- Two answers that the promise allows are the same answer: the promise is an equation. Assumes nothing.
use Prim.Native.Nat.{ℕ}
use mathlib.Core.Path.{◌≡◌, sym, ◌∙◌}
use mathlib.Core.List.{List}
use lib.ListN.{length}
use lib.IntN.{ℤ}
use Rattle.sample_channels.specs.declared.Levels.{Levels}
use Rattle.sample_channels.specs.Channels.{moments}
use Rattle.crossing_places.specs.Reading.{first_crossing}

pub first_crossing_unique : (R : ℕ) (a : Levels) (xs ys : List ℤ) (x y : ℕ) → x ≡ first_crossing
    (length (moments xs ys)) R a (moments xs ys) → y ≡ first_crossing (length (moments xs ys)) R a (moments xs ys) →
    x ≡ y
first_crossing_unique R a xs ys x y e f = e ∙ sym f
