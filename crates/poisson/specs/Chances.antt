-- The two chances of demand 3, exact, of a Poisson stream that expects x failures. It shows just j of them with chance
-- (x ^ j / j!) / e ^ x, so fewer than n with chance S(n, x) / e ^ x; and e ^ x is the least number that no S(K, x)
-- passes. Assumes nothing.
use Rattle.std.specs.Prelude.{ℕ}
use Rattle.poisson.specs.Fractions.{Fraction, times, Less, AtMost}
use Rattle.poisson.specs.Series.{S}

-- fewer than n are shown less than once in 40: 40 S(n, x) is below e ^ x, so below S(K, x) for some K
abbrev pub FewerRarely : ℕ → Fraction → Type 0
FewerRarely n x = (K : ℕ) × Less (times 40 (S n x)) (S K x)

-- n or more are shown at most once in 40: 39 e ^ x is at most 40 S(n, x), so 39 S(K, x) is for every K
abbrev pub OrMoreRarely : ℕ → Fraction → Type 0
OrMoreRarely n x = (K : ℕ) → AtMost (times 39 (S K x)) (times 40 (S n x))
