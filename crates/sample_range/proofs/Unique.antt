-- Two answers that a promise allows are the same answer: each promise is an equation. Assumes nothing.
use Prim.Native.Nat.{ℕ}
use mathlib.Core.Path.{◌≡◌, sym, ◌∙◌}
use mathlib.Core.Bool.{Bool, not, ◌&&◌}
use mathlib.Core.List.{List}
use lib.IntN.{ℤ}
use Rattle.sample_block.specs.declared.Ends.{Ends}
use Rattle.sample_range.specs.Range.{sample_in_range, first_bad}

pub in_range_unique : (z : ℤ) (x y : Bool) → x ≡ sample_in_range z → y ≡ sample_in_range z → x ≡ y
in_range_unique z x y e f = e ∙ sym f

pub outside_unique : (e : Ends) (x y : Bool) → x ≡ not (sample_in_range e.lowest && sample_in_range e.highest) → y ≡ not (sample_in_range e.lowest && sample_in_range e.highest) → x ≡ y
outside_unique z x y e f = e ∙ sym f

pub first_bad_unique : (xs : List ℤ) (x y : ℕ) → x ≡ first_bad xs → y ≡ first_bad xs → x ≡ y
first_bad_unique xs x y e f = e ∙ sym f
