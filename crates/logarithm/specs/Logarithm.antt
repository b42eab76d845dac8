-- Document 02 [12]: logarithms to base 2 of a ratio a/b of at least 1, in units of 1/65,536. Assumes nothing.
use Rattle.std.specs.Prelude.{◌≡◌, ℕ, ◌+◌, ◌*◌, ◌^◌, ◌≤◌, ◌<◌}
use Rattle.logarithm.specs.Ours.{our_figure}

abbrev pub units : ℕ
units = 65536

-- m units are at most the logarithm of a/b: 2 ^ (m / 65,536) ≤ a/b, with both sides raised to the power 65,536
abbrev pub Reaches : ℕ → ℕ → ℕ → Type 0
Reaches a b m = 2 ^ m * b ^ units ≤ a ^ units

-- the exact figure of a/b: the greatest m that it reaches
pub record ExactFigure (a b m : ℕ) : Type 0 where
  pub reached : Reaches a b m
  pub greatest : (n : ℕ) → Reaches a b n → n ≤ m

-- our figure r: never above the exact one and at most 1 below; 0 for equal values; and which of the two it is
pub record Near (a b r : ℕ) : Type 0 where
  pub exact : ℕ
  pub is_exact : ExactFigure a b exact
  pub never_above : r ≤ exact
  pub one_below : exact ≤ r + 1
  pub equal : a ≡ b → r ≡ 0
  pub ours : r ≡ our_figure a b

-- the answer for any two values: near the exact figure for a ≥ b ≥ 1, else 0; always below 32 whole units of the
-- logarithm
pub record Logarithm (a b r : ℕ) : Type 0 where
  pub near : 1 ≤ b → b ≤ a → Near a b r
  pub no_ratio : b ≡ 0 → r ≡ 0
  pub below_one : a < b → r ≡ 0
  pub bound : r < 32 * units
