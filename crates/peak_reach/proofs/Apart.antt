-- Accepted and rejected never both, where the peaks are not all alike: the exponent of "accepted" is at most that of
-- "rejected", the sums grow with it, and the count's upper end is not below its lower one. Assumes nothing.
use mathlib.Core.List.{List}
use Prim.Native.Nat.{ℕ, ◌+◌, ◌-◌, ◌*◌, ◌^◌, ◌≤◌, ◌<◌}
use native.Mathlib.Nat.{le_of_mul-le-mul_right, mul-le-mul_left, mul-le-mul_right, mul-lt-mul_of_pos_right, one-le-pow}
use native.Mathlib.Omega.{arith}
use lib.Dec.{lit<}
use Rattle.poisson.specs.Fractions.{over}
use Rattle.poisson.specs.Rows.{million}
use Rattle.poisson.specs.Series.{S}
use Rattle.poisson.proofs.Scaled.{bottom_pos}
use Rattle.peak_tail.specs.Hill.{kth}
use Rattle.peak_reach.specs.Reach.{Accepted, Rejected, product}
use Rattle.peak_reach.proofs.Powers.{between}
use Rattle.peak_reach.proofs.Sums.{S-grows}

chain : (A B T t d t' d' : ℕ) → 0 < d → 0 < d' → A * d < t * T → t * d' ≤ t' * d → t' * T < B * d' → B ≤ A → ⊥
chain A B T t d t' d' pd pd' first le second ends =
    absurd (omega (
      arith,
      mul-lt-mul_of_pos_right first pd',
      mul-le-mul_right T le,
      mul-lt-mul_of_pos_right second pd,
      mul-le-mul_right (d * d') ends,
    ))

module _ (ys : List ℕ) (k c P D h w q : ℕ) (unit : 1 ≤ kth ys k) (above : kth ys k ≤ c) (apart : kth ys k ^ k < product ys k)
    (a : Accepted ys k c P D h w q) (r : Rejected ys k c P D h w q) where
  exponents : a.X * (million + w) * r.Z ≤ r.X * (million - w) * a.Z
  exponents =
      between (product ys k) (kth ys k ^ k) (a.X * (million + w)) c (kth ys k) (a.Z * (million * k)) a.Z (r.X * (million - w)) (r.Z * (million * k)) r.Z
      (one-le-pow k (kth ys k) unit)
      unit
      (omega arith)
      apart
      (omega arith)
      a.exponent
      r.exponent

  in_order : a.X * r.Z ≤ r.X * a.Z
  in_order =
      let less : million - w ≤ million = omega arith in
      le_of_mul-le-mul_right {k = million} (omega (arith, exponents, mul-le-mul_left (r.X * a.Z) less)) (lit< tt)

  pub never_both : ⊥
  never_both =
      let K = a.K in
      let x = over a.X a.Z in
      let y = over r.X r.Z in
      let ends : 1000 * k - h ≤ 1000 * k + h = omega arith in
      chain (q * (1000 * k + h)) (q * (1000 * k - h)) (1000 * (P * D)) (S K x).top (S K x).bottom (S K y).top (S K y).bottom
      (bottom_pos a.X a.unit K)
      (bottom_pos r.X r.unit K)
      a.longer
      (S-grows a.X a.Z r.X r.Z a.unit r.unit in_order K)
      (r.shorter K)
      (mul-le-mul_left q ends)
