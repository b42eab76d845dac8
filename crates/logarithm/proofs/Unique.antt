-- There is one exact figure, and one answer that the promise of `log2` allows. Assumes nothing.
use mathlib.Core.Path.{◌≡◌, sym, ◌∙◌}
use Prim.Native.Nat.{ℕ, ◌≤◌}
use native.Mathlib.Decide.{dec_le}
use native.Mathlib.Nat.{le_antisymm, lt_of_not-le}
use native.Mathlib.Omega.{arith}
use Rattle.logarithm.specs.Logarithm.{ExactFigure, Logarithm, Near}

pub exact_unique : {a b m n : ℕ} → ExactFigure a b m → ExactFigure a b n → m ≡ n
exact_unique x y = le_antisymm (y.greatest _ x.reached) (x.greatest _ y.reached)

pub near_unique : {a b r q : ℕ} → Near a b r → Near a b q → r ≡ q
near_unique x y = x.ours ∙ sym y.ours

pub log2_unique : (a b r q : ℕ) → Logarithm a b r → Logarithm a b q → r ≡ q
log2_unique a b r q x y = go (dec_le 1 b) (dec_le b a)
  where
    go : Dec (1 ≤ b) → Dec (b ≤ a) → r ≡ q
    go (no z) l = let e : b ≡ 0 = omega arith in x.no_ratio e ∙ sym (y.no_ratio e)
    go (yes u) (no l) = let h = lt_of_not-le l in x.below_one h ∙ sym (y.below_one h)
    go (yes u) (yes l) = near_unique (x.near u l) (y.near u l)
