-- The law about longer exposure, once over the row number, for any two fractions a/b ≤ a'/b': what holds for accept at
-- the smaller holds at the larger, and what holds for reject at the larger holds at the smaller. Both fractions are
-- brought over the denominator b b', where the quotient of the longer sum by the shorter grows with x; the second half
-- is the first, read backwards. Assumes nothing.
use mathlib.Core.Path.{◌≡◌}
use Prim.Native.Nat.{ℕ, zero, suc, ◌*◌, ◌^◌, ◌≤◌, ◌<◌}
use native.Mathlib.Nat.{lt_of_mul-lt-mul_right, mul_comm, mul-le-mul, mul-le-mul_left, mul-le-mul_right, mul-lt-mul_of_pos_right, mul-pos, not-le_of_lt, not-suc-le-zero, pow-suc, pow-zero}
use native.Mathlib.Decide.{dec_le}
use native.Mathlib.Omega.{arith}
use lib.Dec.{lit≤}
use Rattle.poisson.specs.Fractions.{over, times, Less, AtMost}
use Rattle.poisson.specs.Series.{factorial, S}
use Rattle.poisson.specs.Chances.{FewerRarely, OrMoreRarely}
use Rattle.poisson.proofs.Scaled.{denom, denom_is, denom_pos, numer, numer_pos, Passes, to_scaled, from_scaled}
use Rattle.poisson.proofs.Growth.{grows, quotient_grows}

mul-pow : (a c j : ℕ) → (a * c) ^ j ≡ a ^ j * c ^ j
mul-pow a c zero = simp pow-zero
mul-pow a c (suc j) = rw (pow-suc (a * c) j, pow-suc a j, pow-suc c j) (rw (mul-pow a c j) (omega arith))

-- a/b over the denominator b c
widened : (a b c j : ℕ) → numer (a * c) (b * c) j ≡ c ^ j * numer a b j
unfolding numer
widened a b c zero = omega arith
widened a b c (suc j) = rw (widened a b c j, mul-pow a c j, pow-suc c j) (omega arith)

-- S(k, x) S(n, y) ≤ S(k, y) S(n, x), where n ≤ k and x = a/b ≤ y = a'/b'
quotients : (a b a' b' : ℕ) {n k : ℕ} → a * b' ≤ a' * b → n ≤ k
    → numer a b k * numer a' b' n * (denom b' k * denom b n) ≤ numer a' b' k * numer a b n * (denom b k * denom b' n)
quotients a b a' b' {n} {k} h l =
    let m = quotient_grows (b * b') h l in
    let m₁ = rw (widened a b b' k, widened a b b' n, mul_comm b b', widened a' b' b n, widened a' b' b k) at m in
    rw (denom_is b' k, denom_is b n, denom_is b k, denom_is b' n)
    (omega (arith, mul-le-mul_right (factorial k * factorial n) m₁))

-- a sum that passes p/q times another has more terms
more_terms : (p q a b n k : ℕ) → q ≤ p → Passes p q a b n k → n ≤ k
more_terms p q a b n k share h = go (dec_le n k)
  where
    go : Dec (n ≤ k) → n ≤ k
    go (yes l) = l
    go (no l) = absurd (not-le_of_lt h (omega (arith, mul-le-mul share (grows b a {n = k} {k = n} (omega arith)))))

-- a/b ≤ a'/b', with bottoms of at least 1
module _ (a b a' b' : ℕ) (unit : 0 < b) (unit' : 0 < b') (shorter : AtMost (over a b) (over a' b')) where
  pub passes_longer : (p q i k : ℕ) → q ≤ p → Passes p q a b (suc i) k → Passes p q a' b' (suc i) k
  passes_longer p q i k share h =
      lt_of_mul-lt-mul_right (numer a b (suc i) * denom b k)
      (omega (
        arith,
        mul-lt-mul_of_pos_right h (mul-pos (numer_pos unit' a' i) (denom_pos unit' k)),
        mul-le-mul_left q (quotients a b a' b' shorter (more_terms p q a b (suc i) k share h)),
      ))

  less_longer : (p q i k : ℕ) → q ≤ p → Less (times p (S (suc i) (over a b))) (times q (S k (over a b)))
      → Less (times p (S (suc i) (over a' b'))) (times q (S k (over a' b')))
  less_longer p q i k share h =
      from_scaled p q a' (suc i) k unit' (passes_longer p q i k share (to_scaled p q a (suc i) k unit h))

  pub accept_longer : (n : ℕ) → 1 ≤ n → FewerRarely n (over a b) → FewerRarely n (over a' b')
  accept_longer zero h e = absurd (not-suc-le-zero h)
  accept_longer (suc i) h (K, e) = let m = less_longer 40 1 i K (lit≤ tt) (omega arith) in (K, omega arith)

  pub reject_shorter : (n : ℕ) → 1 ≤ n → OrMoreRarely n (over a' b') → OrMoreRarely n (over a b)
  reject_shorter zero h all K = absurd (not-suc-le-zero h)
  reject_shorter (suc i) h all K =
      let x = over a b in
      let never : ¬ Less (times 40 (S (suc i) x)) (times 39 (S K x)) = λ m. not-le_of_lt (less_longer 40 39 i K (lit≤ tt) m) (all K) in
      omega arith
