-- Sums of products, of any sequences t and u whose terms fall as those of the exponential series do, b (n + 1) t(n + 1)
-- = a t(n). The products t(i) u(j) with i + j = n make again such a sequence, of a + c: n splits into i + j, and each
-- part lowers its own factor. So the sum over a triangle is the series of the sum. It lies within the square on its
-- side, and holds each rectangle whose sides make its own. Assumes nothing.
use mathlib.Core.Path.{◌≡◌, ap}
use Prim.Native.Nat.{ℕ, zero, suc, ◌+◌, ◌*◌, ◌^◌, ◌≤◌, ◌<◌}
use native.Mathlib.Nat.{add-suc, add-zero, le_refl, mul-le-mul_left, pow-suc, pow-zero, suc-add, zero-add}
use native.Mathlib.Omega.{arith}
use Rattle.poisson.proofs.Scaled.{denom, numer}

-- t(0) + .. + t(k - 1)
unfoldable pub sum : (ℕ → ℕ) → ℕ → ℕ
sum t zero = 0
sum t (suc k) = sum t k + t k

-- t(0) u(i + j) + t(1) u(i + j - 1) + .. + t(i) u(j)
unfoldable pub slant : (ℕ → ℕ) → (ℕ → ℕ) → ℕ → ℕ → ℕ
slant t u zero j = t 0 * u j
slant t u (suc i) j = slant t u i (suc j) + t (suc i) * u j

-- the first M terms of a/b, times a number that makes them whole
abbrev pub Falls : ℕ → ℕ → ℕ → (ℕ → ℕ) → Type 0
Falls b a M t = (n : ℕ) → n < M → b * suc n * t (suc n) ≡ a * t n

-- such terms are those of the series, times t(0)
module _ (b a M : ℕ) (t : ℕ → ℕ) (f : Falls b a M t) where
  term_is : (n : ℕ) → n ≤ M → t n * denom b n ≡ a ^ n * t 0
  unfolding denom
  term_is zero h = rw pow-zero (omega arith)
  term_is (suc n) h =
      rw pow-suc
      (omega (arith, ap (λ (x : ℕ). x * denom b n) (f n h), ap (λ (x : ℕ). a * x) (term_is n (omega arith))))

  pub sum_is : (k : ℕ) → k ≤ M → sum t k * denom b k ≡ numer a b k * t 0
  unfolding sum denom numer
  sum_is zero h = omega arith
  sum_is (suc k) h =
      omega (
        arith,
        ap (λ (x : ℕ). x * (b * suc k)) (sum_is k (omega arith)),
        ap (λ (x : ℕ). x * (b * suc k)) (term_is k (omega arith)),
      )

module _ (b a c M : ℕ) (t u : ℕ → ℕ) (f : Falls b a M t) (g : Falls b c M u) where
  both_fall : (i j : ℕ) → suc i + suc j ≤ M
      → b * (suc i + suc j) * slant t u (suc i) (suc j) ≡ a * slant t u i (suc j) + c * slant t u (suc i) j
  unfolding slant
  both_fall zero j h =
      omega (
        arith,
        ap (λ (x : ℕ). t 0 * x) (g (suc j) (omega arith)),
        ap (λ (x : ℕ). x * u (suc j)) (f 0 (omega arith)),
        ap (λ (x : ℕ). t 1 * x) (g j (omega arith)),
      )
  both_fall (suc i) j h =
      omega (
        arith,
        both_fall i (suc j) (omega arith),
        ap (λ (x : ℕ). x * u (suc j)) (f (suc i) (omega arith)),
        ap (λ (x : ℕ). t (suc (suc i)) * x) (g j (omega arith)),
      )

  pub slant_falls : Falls b (a + c) M (λ n. slant t u n 0)
  unfolding slant
  slant_falls zero h = omega (arith, ap (λ (x : ℕ). t 0 * x) (g 0 h), ap (λ (x : ℕ). x * u 0) (f 0 h))
  slant_falls (suc i) h = omega (arith, both_fall i 0 (omega arith), ap (λ (x : ℕ). x * u 0) (f (suc i) h))

-- rectangles, triangles and the shapes between them, by sums U over u
module _ (t u : ℕ → ℕ) where
  sum_more : (j i : ℕ) → sum u j ≤ sum u (i + j)
  unfolding sum
  sum_more j zero = rw zero-add (le_refl _)
  sum_more j (suc i) = rw suc-add (omega (arith, sum_more j i))

  -- one slant more
  slant_more : (i j : ℕ) → slant t (sum u) i (suc j) ≡ slant t (sum u) i j + slant t u i j
  unfolding slant sum
  slant_more zero j = omega arith
  slant_more (suc i) j = omega (arith, slant_more i (suc j))

  triangle_is : (k : ℕ) → slant t (sum u) k 0 ≡ sum (λ n. slant t u n 0) k
  unfolding slant sum
  triangle_is zero = omega arith
  triangle_is (suc k) = omega (arith, slant_more k 0, triangle_is k)

  -- a triangle lies within a rectangle
  within : (i j : ℕ) → slant t (sum u) i j ≤ sum t (suc i) * sum u (i + j)
  unfolding slant sum
  within zero j = rw (zero-add j) (omega arith)
  within (suc i) j =
      rw suc-add (omega (arith, rw add-suc at (within i (suc j)), mul-le-mul_left (t (suc i)) (rw suc-add at (sum_more j (suc i)))))

  -- and holds a rectangle
  holds : (i j : ℕ) → sum t (suc i) * sum u j ≤ slant t (sum u) i j
  unfolding slant sum
  holds zero j = omega arith
  holds (suc i) j = omega (arith, holds i (suc j))

  further : (i j : ℕ) → slant t (sum u) i j ≤ slant t (sum u) (i + j) 0
  unfolding slant
  further i zero = rw add-zero (le_refl _)
  further i (suc j) = rw add-suc (omega (arith, rw suc-add at (further (suc i) j)))

  pub triangle_below : (k : ℕ) → sum (λ n. slant t u n 0) k ≤ sum t k * sum u k
  unfolding slant sum
  triangle_below zero = omega arith
  triangle_below (suc k) = omega (arith, triangle_is (suc k), rw (add-suc k 0, add-zero k) at (within k 1))

  pub triangle_above : (j k : ℕ) → sum t j * sum u k ≤ sum (λ n. slant t u n 0) (j + k)
  unfolding sum
  triangle_above zero k = omega arith
  triangle_above (suc j) k = rw suc-add (omega (arith, holds j k, further j k, triangle_is (j + k)))
