-- Fractions of two whole numbers. A bottom of 0 has no meaning; the theorems ask for bottoms of at least 1. Assumes
-- nothing.
use Rattle.std.specs.Prelude.{ℕ, ◌+◌, ◌*◌, ◌≤◌, ◌<◌}

pub record Fraction : Type 0 where
  pub top : ℕ
  pub bottom : ℕ

abbrev pub over : ℕ → ℕ → Fraction
over a b = record { top = a; bottom = b }

abbrev pub plus : Fraction → Fraction → Fraction
plus x y = over (x.top * y.bottom + y.top * x.bottom) (x.bottom * y.bottom)

-- c x, for a whole number c
abbrev pub times : ℕ → Fraction → Fraction
times c x = over (c * x.top) x.bottom

-- x < y
abbrev pub Less : Fraction → Fraction → Type 0
Less x y = x.top * y.bottom < y.top * x.bottom

-- x ≤ y
abbrev pub AtMost : Fraction → Fraction → Type 0
AtMost x y = x.top * y.bottom ≤ y.top * x.bottom
