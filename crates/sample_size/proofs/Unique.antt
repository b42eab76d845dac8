-- Two answers that a promise allows are the same answer: each promise is an equation. Assumes nothing.
use Prim.Native.Nat.{ℕ}
use mathlib.Core.Path.{◌≡◌, sym, ◌∙◌}
use mathlib.Core.Bool.{Bool}
use lib.IntN.{ℤ, nat_abs}
use Rattle.sample_size.specs.Above.{above}

pub magnitude_unique : (z : ℤ) (x y : ℕ) → x ≡ nat_abs z → y ≡ nat_abs z → x ≡ y
magnitude_unique z x y e f = e ∙ sym f

pub above_unique : (a : ℕ) (z : ℤ) (x y : Bool) → x ≡ above a z → y ≡ above a z → x ≡ y
above_unique a z x y e f = e ∙ sym f
