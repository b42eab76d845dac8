-- Where a row stands: the number v of millionths at which q S(K) ≤ p S(n) for every K, while at v + 1 some K has p S(n)
-- < q S(K). The test computes both at one number of terms: at v the terms left out are bounded by twice the next one.
-- By the law about longer exposure what holds at v and v + 1 holds below and above them, so one lemma serves both
-- tables. Assumes nothing.
use mathlib.Core.Bool.{Bool, ◌&&◌}
use Prim.Native.Nat.{ℕ, suc, ◌+◌, ◌*◌, ◌^◌, ◌≤◌, ◌<◌}
use native.Mathlib.Nat.{le_of_mul-le-mul_right, mul-le-mul_left, mul-le-mul_right, not-le_of_lt}
use native.Mathlib.Decide.{dec_le}
use native.Mathlib.Omega.{arith}
use lib.Dec.{T, leb, leb→le, lit<, ltb, ltb→lt}
use lib.Ieee.Fits.{and_l, and_r}
use Rattle.poisson.specs.Fractions.{times, Less}
use Rattle.poisson.specs.Series.{S}
use Rattle.poisson.specs.Rows.{million, millionths}
use Rattle.poisson.proofs.Scaled.{denom, denom_pos, numer, Passes, from_scaled, to_scaled}
use Rattle.poisson.proofs.Growth.{grows, tails}
use Rattle.poisson.proofs.Longer.{passes_longer}

-- how many terms the test sums: enough at every row of 64 that twice the next term bounds the rest
pub terms : ℕ
terms = 200

-- S(k) ≤ S(m) + 2 x ^ m / m!, for every k, where 2 x ≤ m + 1
pub bounded : (b a m : ℕ) → 2 * a ≤ suc m * b → (k : ℕ) → numer a b k * denom b m ≤ (numer a b m + 2 * a ^ m) * denom b k
bounded b a m far k = go (dec_le m k)
  where
    go : Dec (m ≤ k) → numer a b k * denom b m ≤ (numer a b m + 2 * a ^ m) * denom b k
    go (yes l) = omega (arith, tails b a m far l)
    go (no l) = omega (arith, grows b a {n = k} {k = m} (omega arith))

-- at the count i + 1
unfoldable pub turns : ℕ → ℕ → ℕ → ℕ → Bool
unfolding terms
turns p q i v =
    leb (2 * v) (suc terms * million)
    && (leb (q * (numer v million terms + 2 * v ^ terms) * denom million (suc i)) (p * numer v million (suc i) * denom million terms)
    && ltb (p * numer (suc v) million (suc i) * denom million terms) (q * numer (suc v) million terms * denom million (suc i)))

module _ (p q i v : ℕ) (share : q ≤ p) (t : T (turns p q i v)) where
  far : 2 * v ≤ suc terms * million
  unfolding turns
  far = search (and_l, leb→le)

  within : q * (numer v million terms + 2 * v ^ terms) * denom million (suc i) ≤ p * numer v million (suc i) * denom million terms
  unfolding turns
  within = search (and_l, and_r, leb→le)

  next : Passes p q (suc v) million (suc i) terms
  unfolding turns
  next = search (and_r, ltb→lt)

  none_at : (k : ℕ) → ¬ Passes p q v million (suc i) k
  none_at k e =
      not-le_of_lt e
      (le_of_mul-le-mul_right {k = denom million terms}
      (omega (
        arith,
        mul-le-mul_left (q * denom million (suc i)) (bounded million v terms far k),
        mul-le-mul_right (denom million k) within,
      ))
      (denom_pos (lit< tt) terms))

  pub none_below : (w : ℕ) → w ≤ v → (k : ℕ) → ¬ Less (times p (S (suc i) (millionths w))) (times q (S k (millionths w)))
  none_below w h k e =
      none_at k
      (passes_longer w million v million (lit< tt) (lit< tt) (mul-le-mul_right million h) p q i k share
      (to_scaled p q w (suc i) k (lit< tt) e))

  pub some_above : (w : ℕ) → v < w → Less (times p (S (suc i) (millionths w))) (times q (S terms (millionths w)))
  some_above w h =
      from_scaled p q w (suc i) terms (lit< tt)
      (passes_longer (suc v) million w million (lit< tt) (lit< tt) (mul-le-mul_right million h) p q i terms share next)
