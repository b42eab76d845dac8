-- The two laws of the exponential series, over the one denominator b: S(K, x + y) ≤ S(K, x) S(K, y), and S(J, x) S(K,
-- y) ≤ S(J + K, x + y). Of whole terms they are `Terms`; the first M terms of a/b are whole once multiplied by b ^ M
-- M!. Assumes nothing.
use mathlib.Core.Path.{◌≡◌, ap}
use Prim.Native.Nat.{ℕ, zero, suc, ◌+◌, ◌-◌, ◌*◌, ◌^◌, ◌≤◌, ◌<◌}
use native.Mathlib.Nat.{le-add_left, le-add_right, le_of_mul-le-mul_right, le_refl, mul-le-mul_right, mul-pos, pow-suc}
use native.Mathlib.Nat.{pow-zero, zero-lt-suc}
use native.Mathlib.Omega.{arith}
use lib.Dec.{lit<}
use Rattle.poisson.proofs.Scaled.{denom, numer}
use Rattle.exponential.proofs.Terms.{Falls, slant, slant_falls, sum, sum_is, triangle_above, triangle_below}

-- b ^ k (n + 1) .. (n + k)
unfoldable rising : ℕ → ℕ → ℕ → ℕ
rising b n zero = 1
rising b n (suc k) = b * suc n * rising b (suc n) k

rising_pos : {b : ℕ} → 0 < b → (n k : ℕ) → 0 < rising b n k
unfolding rising
rising_pos h n zero = lit< tt
rising_pos h n (suc k) = mul-pos (mul-pos h (zero-lt-suc n)) (rising_pos h (suc n) k)

whole : ℕ → ℕ → ℕ → ℕ → ℕ
whole b M a n = a ^ n * rising b n (M - n)

whole_falls : (b M a : ℕ) → Falls b a M (whole b M a)
unfolding whole rising
whole_falls b M a n h =
    let e : M - n ≡ suc (M - suc n) = omega arith in
    rw (e, pow-suc) (omega arith)

whole_pos : {b : ℕ} → 0 < b → (M a : ℕ) → 0 < whole b M a 0
unfolding whole
whole_pos h M a = mul-pos (rw pow-zero (lit< tt)) (rising_pos h 0 (M - 0))

module _ {b : ℕ} (unit : 0 < b) (a c : ℕ) where
  pub series_below : (k : ℕ) → numer (a + c) b k * denom b k ≤ numer a b k * numer c b k
  unfolding slant
  series_below k =
      let t = whole b k a in
      let u = whole b k c in
      let f = whole_falls b k a in
      let g = whole_falls b k c in
      le_of_mul-le-mul_right {k = t 0 * u 0}
      (omega (
        arith,
        mul-le-mul_right (denom b k * denom b k) (triangle_below t u k),
        ap (λ (x : ℕ). x * denom b k) (sum_is b (a + c) k (λ n. slant t u n 0) (slant_falls b a c k t u f g) k (le_refl k)),
        ap (λ (x : ℕ). x * (sum u k * denom b k)) (sum_is b a k t f k (le_refl k)),
        ap (λ (x : ℕ). numer a b k * t 0 * x) (sum_is b c k u g k (le_refl k)),
      ))
      (mul-pos (whole_pos unit k a) (whole_pos unit k c))

  pub series_above : (j k : ℕ) → numer a b j * numer c b k * denom b (j + k) ≤ numer (a + c) b (j + k) * (denom b j * denom b k)
  unfolding slant
  series_above j k =
      let M = j + k in
      let t = whole b M a in
      let u = whole b M c in
      let f = whole_falls b M a in
      let g = whole_falls b M c in
      le_of_mul-le-mul_right {k = t 0 * u 0}
      (omega (
        arith,
        mul-le-mul_right (denom b j * denom b k * denom b M) (triangle_above t u j k),
        ap (λ (x : ℕ). x * (denom b j * denom b k)) (sum_is b (a + c) M (λ n. slant t u n 0) (slant_falls b a c M t u f g) M (le_refl M)),
        ap (λ (x : ℕ). x * (sum u k * denom b k * denom b M)) (sum_is b a M t f j (le-add_right j k)),
        ap (λ (x : ℕ). numer a b j * t 0 * x * denom b M) (sum_is b c M u g k (le-add_left k j)),
      ))
      (mul-pos (whole_pos unit M a) (whole_pos unit M c))
