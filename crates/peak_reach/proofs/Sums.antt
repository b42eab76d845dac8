-- The sums of the exponential series grow with x, at any two fractions. Assumes nothing.
use mathlib.Core.Path.{ap}
use Prim.Native.Nat.{ℕ, zero, suc, ◌*◌, ◌^◌, ◌≤◌, ◌<◌}
use native.Mathlib.Nat.{le_of_mul-le-mul_right, le_refl, mul-le-mul_right, mul-pos, pow-le-pow_left}
use native.Mathlib.Omega.{arith}
use Rattle.poisson.specs.Fractions.{over, AtMost}
use Rattle.poisson.specs.Series.{S, factorial}
use Rattle.poisson.proofs.Scaled.{denom, denom_is, denom_pos, numer, same}
use Rattle.peak_reach.proofs.Powers.{mul-pow}

module _ (a b a' b' : ℕ) (h : a * b' ≤ a' * b) where
  term_grows : (K : ℕ) → a ^ K * denom b' K ≤ a' ^ K * denom b K
  term_grows K =
      rw (denom_is b' K, denom_is b K)
      (omega (arith, mul-le-mul_right (factorial K) (rw (mul-pow a b' K, mul-pow a' b K) at (pow-le-pow_left h K))))

  pub sum_grows : (K : ℕ) → numer a b K * denom b' K ≤ numer a' b' K * denom b K
  unfolding numer denom
  sum_grows zero = le_refl 0
  sum_grows (suc K) =
      let e = b * suc K * (b' * suc K) in
      omega (arith, mul-le-mul_right e (sum_grows K), mul-le-mul_right e (term_grows K))

-- S(K, x) ≤ S(K, y)
pub S-grows : (a b a' b' : ℕ) → 0 < b → 0 < b' → a * b' ≤ a' * b → (K : ℕ) → AtMost (S K (over a b)) (S K (over a' b'))
S-grows a b a' b' pb pb' h K =
    let d = (S K (over a b)).bottom in
    let d' = (S K (over a' b')).bottom in
    le_of_mul-le-mul_right {k = denom b K * denom b' K}
    (omega (
      arith,
      mul-le-mul_right (d * d') (sum_grows a b a' b' h K),
      ap (λ (x : ℕ). x * (d' * denom b' K)) (same a b K),
      ap (λ (x : ℕ). x * (d * denom b K)) (same a' b' K),
    ))
    (mul-pos (denom_pos pb K) (denom_pos pb' K))
