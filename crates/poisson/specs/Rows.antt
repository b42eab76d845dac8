-- Document 01, "The campaign": what the upper and the lower row of a count are, and what is promised of an answer for
-- any number. Assumes nothing.
use Rattle.std.specs.Prelude.{◌≡◌, ℕ, ◌+◌, ◌-◌, ◌*◌, ◌≤◌, ◌<◌}
use Rattle.poisson.specs.Fractions.{Fraction, over}
use Rattle.poisson.specs.Chances.{FewerRarely, OrMoreRarely}

-- rows are whole numbers of millionths of an expected failure
abbrev pub million : ℕ
million = 1000000

abbrev pub millionths : ℕ → Fraction
millionths v = over v million

-- x less one millionth (0 where that falls below), and x and one millionth more
abbrev pub millionth_less : Fraction → Fraction
millionth_less x = over (x.top * million - x.bottom) (x.bottom * million)

abbrev pub millionth_more : Fraction → Fraction
millionth_more x = over (x.top * million + x.bottom) (x.bottom * million)

-- least and greatest among all whole numbers
pub record Least (P : ℕ → Type 0) (u : ℕ) : Type 0 where
  pub meets : P u
  pub none_below : (v : ℕ) → v < u → ¬ P v

pub record Greatest (P : ℕ → Type 0) (l : ℕ) : Type 0 where
  pub meets : P l
  pub none_above : (v : ℕ) → l < v → ¬ P v

abbrev pub IsUpperRow : ℕ → ℕ → Type 0
IsUpperRow n u = Least (λ (v : ℕ). FewerRarely n (millionths v)) u

abbrev pub IsLowerRow : ℕ → ℕ → Type 0
IsLowerRow n l = Greatest (λ (v : ℕ). OrMoreRarely n (millionths v)) l

-- the table's length
abbrev pub rows : ℕ
rows = 64

-- the answer r for any number n: the row from 1 to 64, else 0 (which is 01's l(0)), and never above the last row
pub record RowAt (IsRow : ℕ → ℕ → Type 0) (last n r : ℕ) : Type 0 where
  pub row : 1 ≤ n → n ≤ rows → IsRow n r
  pub before : n ≡ 0 → r ≡ 0
  pub past : rows < n → r ≡ 0
  pub bound : r ≤ last

abbrev pub UpperRow : ℕ → ℕ → Type 0
UpperRow n r = RowAt IsUpperRow 80604368 n r

abbrev pub LowerRow : ℕ → ℕ → Type 0
LowerRow n r = RowAt IsLowerRow 49287798 n r
