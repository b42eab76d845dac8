-- Laws of the sums over one denominator b: they grow with their terms, the terms past one of them are bounded by twice
-- it, and the quotient of a longer sum by a shorter one grows with x. Each is by induction on the number of further
-- terms. Assumes nothing.
use Prim.Native.Nat.{ℕ, zero, suc, ◌+◌, ◌*◌, ◌^◌, ◌≤◌}
use native.Mathlib.Nat.{add-le-add, add-suc, add-zero, le-add_right, le_dest, le_of_eq, le_of_suc-le, le_refl, le_trans, mul_comm, mul-le-mul_right, pow-le-pow_left, pow-suc}
use native.Mathlib.Omega.{arith}
use lib.Pow.{pow-add}
use Rattle.poisson.proofs.Scaled.{denom, numer}

module _ (b : ℕ) where
  -- S(n) ≤ S(n + i)
  grow : (a n i : ℕ) → numer a b n * denom b (n + i) ≤ numer a b (n + i) * denom b n
  unfolding numer denom
  grow a n zero = rw add-zero (le_refl _)
  grow a n (suc i) = rw add-suc (omega (arith, mul-le-mul_right (b * suc (n + i)) (grow a n i)))

  pub grows : (a : ℕ) {n k : ℕ} → n ≤ k → numer a b n * denom b k ≤ numer a b k * denom b n
  grows a {n} h = let (i, e) = le_dest h in rw (← e) (grow a n i)

  -- S(m + i) + 2 x ^ (m + i) / (m + i)! ≤ S(m) + 2 x ^ m / m!, where 2 x ≤ m + 1
  tail : (a m : ℕ) → 2 * a ≤ suc m * b → (i : ℕ)
      → (numer a b (m + i) + 2 * a ^ (m + i)) * denom b m ≤ (numer a b m + 2 * a ^ m) * denom b (m + i)
  unfolding numer denom
  tail a m h zero = rw add-zero (le_refl _)
  tail a m h (suc i) =
      rw (add-suc, pow-suc)
      (omega (
        arith,
        mul-le-mul_right (b * suc (m + i)) (tail a m h i),
        mul-le-mul_right (a ^ (m + i) * denom b m) (le_trans h (mul-le-mul_right {n = suc (m + i)} b (omega arith))),
      ))

  pub tails : (a m : ℕ) {k : ℕ} → 2 * a ≤ suc m * b → m ≤ k → (numer a b k + 2 * a ^ k) * denom b m ≤ (numer a b m + 2 * a ^ m) * denom b k
  tails a m far h = let (i, e) = le_dest h in rw (← e) (tail a m far i)

  -- x ^ k y ^ j ≤ y ^ k x ^ j, where j ≤ k and x ≤ y
  pow_swap : (a c j k : ℕ) → a ≤ c → j ≤ k → a ^ k * c ^ j ≤ c ^ k * a ^ j
  pow_swap a c j k h l =
      let (i, e) = le_dest l in
      rw (← e, pow-add a j i, pow-add c j i) (omega (arith, mul-le-mul_right (a ^ j * c ^ j) (pow-le-pow_left h i)))

  -- x ^ k S(n, y) ≤ y ^ k S(n, x), where n ≤ k and x ≤ y
  term_swap : (a c n k : ℕ) → a ≤ c → n ≤ k → a ^ k * numer c b n ≤ c ^ k * numer a b n
  unfolding numer
  term_swap a c zero k h l = omega arith
  term_swap a c (suc n) k h l =
      omega (
        arith,
        mul-le-mul_right (b * suc n)
            (add-le-add (term_swap a c n k h (le_of_suc-le l)) (pow_swap a c n k h (le_of_suc-le l))),
      )

  -- S(n + i, x) S(n, y) ≤ S(n + i, y) S(n, x), where x ≤ y
  quotient : (a c n i : ℕ) → a ≤ c → numer a b (n + i) * numer c b n ≤ numer c b (n + i) * numer a b n
  unfolding numer
  quotient a c n zero h = rw add-zero (le_of_eq (mul_comm _ _))
  quotient a c n (suc i) h =
      rw add-suc
      (omega (
        arith,
        mul-le-mul_right (b * suc (n + i)) (add-le-add (quotient a c n i h) (term_swap a c n (n + i) h (le-add_right n i))),
      ))

  pub quotient_grows : {a c n k : ℕ} → a ≤ c → n ≤ k → numer a b k * numer c b n ≤ numer c b k * numer a b n
  quotient_grows {a} {c} {n} h l = let (i, e) = le_dest l in rw (← e) (quotient a c n i h)
