-- [14], the rate beyond the records (document 001, (9) and (14) to (22)), by whole numbers. Peaks lie downwards, u is
-- Y(k), T = P D, and the level c is at least u. With Π = Y(1) .. Y(k), formula (11) is ξ = ln(Π / u ^ k) / k, so that
-- the mean time between failures at c, (T / k) (c / u) ^ (1 / ξ), is (T / k) e ^ x with x = k ln(c / u) / ln(Π / u ^
-- k). A fraction is at most x, or at least x, by a comparison of whole powers; e ^ x is document 01's. No figure of
-- ours is in these definitions. Assumes nothing.
use Rattle.std.specs.Prelude.{◌≡◌, ◌⊎◌, List, ℕ, zero, suc, ◌+◌, ◌-◌, ◌*◌, ◌^◌, ◌≤◌, ◌<◌, get_or}
use Rattle.poisson.specs.Fractions.{over, AtMost, Less}
use Rattle.poisson.specs.Series.{S}
use Rattle.poisson.specs.Rows.{million}
use Rattle.logarithm.specs.Logarithm.{units}
use Rattle.root.specs.HalfWidth.{HalfWidth}
use Rattle.root.specs.Root.{Least}
use Rattle.peak_tail.specs.Hill.{kth}

-- Y(1) .. Y(n)
unfoldable pub product : List ℕ → ℕ → ℕ
product ys zero = 1
product ys (suc n) = product ys n * get_or ys n 0

-- (p / a) ^ m ≤ (c / u) ^ n: m logarithms of p/a are at most n logarithms of c/u
abbrev pub PowersAtMost : ℕ → ℕ → ℕ → ℕ → ℕ → ℕ → Type 0
PowersAtMost p a m c u n = p ^ m * u ^ n ≤ c ^ n * a ^ m

-- X / Z, times f millionths, is at most x, and at least x
abbrev pub ExponentReached : List ℕ → ℕ → ℕ → ℕ → ℕ → ℕ → Type 0
ExponentReached ys k c f X Z = PowersAtMost (product ys k) (kth ys k ^ k) (X * f) c (kth ys k) (Z * (million * k))

abbrev pub ExponentNotPassed : List ℕ → ℕ → ℕ → ℕ → ℕ → ℕ → Type 0
ExponentNotPassed ys k c f X Z = PowersAtMost c (kth ys k) (Z * (million * k)) (product ys k) (kth ys k ^ k) (X * f)

-- (16) to (20): the half-width of the count k among P samples, in thousandths, and of the shape, in millionths of it,
-- both by 2.236 and rounded up
pub record HalfWidths (k P h w : ℕ) : Type 0 where
  pub count : HalfWidth 2236 k P h
  pub shape : Least (2236000 * 2236000) k w

-- accepted: the standard q is below the mean time between failures at the upper ends of both, (21):
-- q (k + h) < T e ^ X/Z for an X/Z that is at most x there
pub record Accepted (ys : List ℕ) (k c P D h w q : ℕ) : Type 0 where
  pub X : ℕ
  pub Z : ℕ
  pub K : ℕ
  pub unit : 1 ≤ Z
  pub exponent : ExponentReached ys k c (million + w) X Z
  pub longer : Less (over (q * (1000 * k + h)) (1000 * (P * D))) (S K (over X Z))

-- rejected: it is above that at the lower ends: T e ^ X/Z < q (k - h) for an X/Z that is at least x there, which is
-- none where the shape's lower end is not above 0
pub record Rejected (ys : List ℕ) (k c P D h w q : ℕ) : Type 0 where
  pub X : ℕ
  pub Z : ℕ
  pub unit : 1 ≤ Z
  pub some_shape : w < million
  pub exponent : ExponentNotPassed ys k c (million - w) X Z
  pub shorter : (K : ℕ) → Less (S K (over X Z)) (over (q * (1000 * k - h)) (1000 * (P * D)))

-- E ms are at most the estimated mean time between failures, (14)
pub record AtMostEstimate (ys : List ℕ) (k c P D E : ℕ) : Type 0 where
  pub X : ℕ
  pub Z : ℕ
  pub K : ℕ
  pub unit : 1 ≤ Z
  pub exponent : ExponentReached ys k c million X Z
  pub longer : AtMost (over (E * k) (P * D)) (S K (over X Z))

-- accepted with something to spare: at a product p of peaks that are each higher by 2 units of our logarithm (one part
-- in 47,000 is more), at a level c' that is lower by as much, or the k-th peak itself, and at a standard one millionth
-- longer
pub record AcceptedWell (ys : List ℕ) (k c P D h w q : ℕ) : Type 0 where
  pub p : ℕ
  pub higher : 2 ^ (2 * (k - 1)) * product ys k ^ units ≤ p ^ units
  pub c' : ℕ
  pub lower : (4 * c' ^ units ≤ c ^ units) ⊎ (c' ≡ kth ys k)
  pub X : ℕ
  pub Z : ℕ
  pub K : ℕ
  pub unit : 1 ≤ Z
  pub exponent : PowersAtMost p (kth ys k ^ k) (X * (million + w)) c' (kth ys k) (Z * (million * k))
  pub longer : Less (over (q * suc million * (1000 * k + h)) (million * (1000 * (P * D)))) (S K (over X Z))

-- rejected with as much to spare: at peaks that are lower, a level that is higher, or the k-th peak where the level is
-- that, and a standard one millionth shorter
pub record RejectedWell (ys : List ℕ) (k c P D h w q : ℕ) : Type 0 where
  pub p : ℕ
  pub lower : 2 ^ (2 * (k - 1)) * p ^ units ≤ product ys k ^ units
  pub c' : ℕ
  pub higher : (4 * c ^ units ≤ c' ^ units) ⊎ ((c ≡ kth ys k) × (c' ≡ kth ys k))
  pub X : ℕ
  pub Z : ℕ
  pub unit : 1 ≤ Z
  pub some_shape : w < million
  pub exponent : PowersAtMost c' (kth ys k) (Z * (million * k)) p (kth ys k ^ k) (X * (million - w))
  pub shorter : (K : ℕ) → Less (S K (over X Z)) (over (million * (q * (1000 * k - h))) (suc million * (1000 * (P * D))))
