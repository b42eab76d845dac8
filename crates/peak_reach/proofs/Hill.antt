-- What our Hill sum and our logarithm say of the peaks themselves: each logarithm is short of the true one by less than
-- 2 units, 1 by its slack and 1 because it is cut, and that of Y(k) / Y(k) is 0. So Π lies between 2 ^ S and 2 ^ (S + 2
-- (k - 1)), in units and over u ^ k; and an exponent that is rounded down from our figures is at most the true one, one
-- that is rounded up is at least that. Assumes nothing.
use mathlib.Core.Path.{◌≡◌, ap}
use mathlib.Core.List.{List}
use Prim.Native.Nat.{ℕ, zero, suc, ◌+◌, ◌-◌, ◌*◌, ◌^◌, ◌≤◌}
use native.Mathlib.Nat.{le_refl, le_trans, mul-le-mul, mul-le-mul_right, not-suc-le-zero, pow-suc, pow-zero}
use native.Mathlib.Decide.{dec_le}
use native.Mathlib.Omega.{arith}
use lib.Dec.{lit<}
use lib.ListN.{get_or}
use lib.Pow.{pow-add, pow_mono}
use Rattle.poisson.specs.Rows.{million}
use Rattle.logarithm.specs.Logarithm.{ExactFigure, Logarithm, units}
use Rattle.peak_tail.specs.Hill.{ExactSum, HillSum, kth}
use Rattle.peak_tail.specs.Hill.ExactSum.{none, more}
use Rattle.peak_tail.proofs.Slack.{exact_sum, hill_slack}
use Rattle.peak_reach.specs.Reach.{ExponentNotPassed, ExponentReached, product}
use Rattle.peak_reach.proofs.Powers.{mul-pow, powers}

-- one more than an exact figure is not reached
past_exact : (a b m : ℕ) → ExactFigure a b m → a ^ units ≤ 2 ^ suc m * b ^ units
past_exact a b m e = go (dec_le (a ^ units) (2 ^ suc m * b ^ units))
  where
    go : Dec (a ^ units ≤ 2 ^ suc m * b ^ units) → a ^ units ≤ 2 ^ suc m * b ^ units
    go (yes l) = l
    go (no l) = absurd (omega (arith, e.greatest (suc m) (omega arith)))

one_power : (n : ℕ) → 1 ^ n ≡ 1
one_power zero = pow-zero 1
one_power (suc n) = rw (pow-suc 1 n, one_power n) (omega arith)

module _ (ys : List ℕ) (y : ℕ) where
  sum_low : {n s : ℕ} → ExactSum ys y n s → 2 ^ s * (y ^ n) ^ units ≤ product ys n ^ units
  unfolding product
  sum_low none = rw (pow-zero y) (le_refl 1)
  sum_low (more {n} {s} {m} e f) =
      rw (pow-add 2 s m, pow-suc y n, mul-pow (y ^ n) y units, mul-pow (product ys n) (get_or ys n 0) units)
      (omega (arith, mul-le-mul (sum_low e) f.reached))

  sum_high : {n s : ℕ} → ExactSum ys y n s → product ys n ^ units ≤ 2 ^ (s + n) * (y ^ n) ^ units
  unfolding product
  sum_high none = rw (pow-zero y) (le_refl 1)
  sum_high (more {n} {s} {m} e f) =
      let split : s + m + suc n ≡ s + n + suc m = omega arith in
      rw (split, pow-add 2 (s + n) (suc m), pow-suc y n, mul-pow (y ^ n) y units, mul-pow (product ys n) (get_or ys n 0) units)
      (omega (arith, mul-le-mul (sum_high e) (past_exact (get_or ys n 0) y m f)))

  -- the last value is y itself
  sum_high_last : {n s : ℕ} → get_or ys n 0 ≡ y → ExactSum ys y (suc n) s → product ys (suc n) ^ units ≤ 2 ^ (s + n) * (y ^ suc n) ^ units
  unfolding product
  sum_high_last last (more {n} {s} {m} e f) =
      rw (last, pow-suc y n, mul-pow (y ^ n) y units, mul-pow (product ys n) y units)
      (omega (
        arith,
        mul-le-mul_right (y ^ units) (sum_high e),
        mul-le-mul_right ((y ^ n) ^ units * y ^ units) (pow_mono {i = s + n} {j = s + m + n} (omega arith)),
      ))

-- Π over u ^ k, by our sum
pub hill_low : (ys : List ℕ) (k r : ℕ) → HillSum ys k r → 2 ^ r * (kth ys k ^ k) ^ units ≤ product ys k ^ units
hill_low ys k r a =
    let (e, x) = exact_sum a in
    le_trans (mul-le-mul_right ((kth ys k ^ k) ^ units) (pow_mono (hill_slack a x).0)) (sum_low ys (kth ys k) x)

pub hill_high : (ys : List ℕ) (k r : ℕ) → 1 ≤ k → HillSum ys k r → product ys k ^ units ≤ 2 ^ (r + 2 * (k - 1)) * (kth ys k ^ k) ^ units
hill_high ys zero r h a = absurd (not-suc-le-zero h)
hill_high ys (suc n) r h a =
    let last : get_or ys n 0 ≡ kth ys (suc n) = ap (λ (i : ℕ). get_or ys i 0) (omega arith) in
    let (e, x) = exact_sum a in
    le_trans (sum_high_last ys (kth ys (suc n)) last x)
    (mul-le-mul_right ((kth ys (suc n) ^ suc n) ^ units) (pow_mono (omega (arith, (hill_slack a x).1))))

-- c/u, by our logarithm
module _ (c u g : ℕ) (a : Logarithm c u g) (unit : 1 ≤ u) (above : u ≤ c) where
  pub level_low : 2 ^ g * u ^ units ≤ c ^ units
  level_low =
      let near = a.near unit above in
      le_trans (mul-le-mul_right (u ^ units) (pow_mono near.never_above)) near.is_exact.reached

  pub level_high : c ^ units ≤ 2 ^ (g + 2) * u ^ units
  level_high =
      let near = a.near unit above in
      le_trans (past_exact c u near.exact near.is_exact)
      (mul-le-mul_right (u ^ units) (pow_mono {i = suc near.exact} {j = g + 2} (omega (arith, near.one_below))))

module _ (ys : List ℕ) (k c S : ℕ) (sum : HillSum ys k S) (some : 1 ≤ k) where
  -- X Z-ths, rounded down from our figures: f times the sum with all that it may lack
  pub exponent_reached : (f X Z g : ℕ) → 2 ^ g * kth ys k ^ units ≤ c ^ units
      → X * ((S + 2 * (k - 1)) * f) ≤ Z * (million * (k * g)) → ExponentReached ys k c f X Z
  exponent_reached f X Z g level down =
      powers (product ys k) (kth ys k ^ k) (X * f) c (kth ys k) (Z * (million * k)) units (S + 2 * (k - 1)) g (lit< tt)
      (hill_high ys k S some sum)
      level
      (omega (arith, down))

  -- and rounded up
  pub exponent_not_passed : (f X Z G : ℕ) → c ^ units ≤ 2 ^ G * kth ys k ^ units
      → Z * (million * (k * G)) ≤ X * (S * f) → ExponentNotPassed ys k c f X Z
  exponent_not_passed f X Z G level up =
      powers c (kth ys k) (Z * (million * k)) (product ys k) (kth ys k ^ k) (X * f) units G S (lit< tt)
      level
      (hill_low ys k S sum)
      (omega (arith, up))
