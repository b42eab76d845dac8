-- e ^ x by whole numbers, for x = X / 2 ^ 20. As in document 01, e ^ x is the least number that no sum S(K, x) passes:
-- a fraction is at most e ^ x where some S(K, x) reaches it, and at least e ^ x where no S(K, x) passes it. Assumes
-- nothing.
use Rattle.std.specs.Prelude.{◌≡◌, ℕ, suc, ◌*◌, ◌^◌, ◌≤◌, ◌<◌}
use Rattle.poisson.specs.Fractions.{Fraction, over, AtMost}
use Rattle.poisson.specs.Series.{S}

-- f ≤ e ^ x
abbrev pub Reached : Fraction → Fraction → Type 0
Reached f x = (K : ℕ) × AtMost f (S K x)

-- e ^ x ≤ f
abbrev pub NotPassed : Fraction → Fraction → Type 0
NotPassed f x = (K : ℕ) → AtMost (S K x) f

-- the exponent x: X units of 2 ^ -20
abbrev pub units : ℕ
units = 1048576

abbrev pub exponent : ℕ → Fraction
exponent X = over X units

-- exponents below 64 have a figure
abbrev pub past : ℕ
past = 67108864

-- the figure m 2 ^ s / 2 ^ 31
abbrev pub one : ℕ
one = 2147483648

abbrev pub figure : ℕ → ℕ → Fraction
figure m s = over (m * 2 ^ s) one

-- the same, one part in 40,000,000 more, and divided by as much
abbrev pub parts : ℕ
parts = 40000000

abbrev pub more : ℕ → ℕ → Fraction
more m s = over (m * 2 ^ s * suc parts) (one * parts)

abbrev pub less : ℕ → ℕ → Fraction
less m s = over (m * 2 ^ s * parts) (one * suc parts)

-- the answer m 2 ^ s of `down` at X: at most e ^ x, and one part in 40,000,000 more is at least that
pub record Down (X m s : ℕ) : Type 0 where
  pub never_above : Reached (figure m s) (exponent X)
  pub near : X < past → NotPassed (more m s) (exponent X)
  pub none : past ≤ X → (m ≡ 0) × (s ≡ 0)
  pub full : X < past → one ≤ m
  pub bound : (m < 2 * one) × (s ≤ 92)

-- the answer of `up`: at least e ^ x, and one part in 40,000,000 less is at most that; past 64 there is none, and it is
-- 0
pub record Up (X m s : ℕ) : Type 0 where
  pub never_below : X < past → NotPassed (figure m s) (exponent X)
  pub near : Reached (less m s) (exponent X)
  pub none : past ≤ X → (m ≡ 0) × (s ≡ 0)
  pub full : X < past → one ≤ m
  pub bound : (m ≤ 2 * one) × (s ≤ 92)
