-- A product of rows, cut after each. With q = 2 ^ 31, a mantissa of at least q loses at most a factor 1 + 1/q by a cut,
-- and a row lies within that factor of its power. So after n rows and cuts the figure is on its side of e ^ x, and
-- within (1 + 1/q) ^ n on the other. Both sides and both directions are one law: α, β bound the figure from below, γ, δ
-- from above, with 1, 1 on the side that is kept. Assumes nothing.
use mathlib.Core.Path.{◌≡◌, ap}
use Prim.Native.Nat.{ℕ, zero, suc, ◌+◌, ◌-◌, ◌*◌, ◌^◌, ◌≤◌, ◌<◌}
use native.Mathlib.Nat.{le_of_mul-le-mul_right, le_refl, mul-le-mul_left, mul-le-mul_right, mul-pos, one-le-pow}
use native.Mathlib.Nat.{pow-suc, pow-zero}
use native.Mathlib.Omega.{arith}
use lib.Dec.{lit<}
use lib.Pow.{pow-add}
use Rattle.exponential.specs.Exponential.{one, parts}
use Rattle.exponential.proofs.Bounds.{Above, Below, above_more, above_one, above_times, below_less, below_one}
use Rattle.exponential.proofs.Bounds.{below_times}

pow-two : (α n : ℕ) → α ^ (n + 2) ≡ α ^ n * (α * α)
pow-two α n = rw (pow-add α n 2, pow-suc α 1, pow-suc α 0, pow-zero α) (omega arith)

pub one_times_pos : {n : ℕ} → 0 < n → 0 < one * n
one_times_pos h = omega arith

pub one-pow : (n : ℕ) → 1 ^ n ≡ 1
one-pow zero = pow-zero 1
one-pow (suc n) = rw (pow-suc 1 n, one-pow n) (omega arith)

module _ (α β γ δ : ℕ) where
  -- m 2 ^ s / q is e ^ (x / 2 ^ 20) but for n factors on either side
  pub record State (x n m s : ℕ) : Type 0 where
    pub below : Below (m * 2 ^ s * α ^ n) (one * β ^ n) x
    pub above : Above (m * 2 ^ s * γ ^ n) (one * δ ^ n) x

  pub started : State 0 0 one 0
  started =
      record {
        below = below_less (one * 2 ^ 0 * α ^ 0) (one * β ^ 0) (lit< tt) (simp pow-zero (le_refl _)) below_one;
        above = above_more (one * 2 ^ 0 * γ ^ 0) (one * δ ^ 0) (lit< tt) (simp pow-zero (le_refl _)) above_one;
      }

  pub multiplied : 0 < β → 0 < δ → (x n m s a r t y d : ℕ) → State x n m s
      → Below (r * 2 ^ t * α) (one * β) a → Above (r * 2 ^ t * γ) (one * δ) a
      → α * (y * (2 ^ d * one)) ≤ β * (m * r) → δ * (m * r) ≤ γ * (y * (2 ^ d * one))
      → State (x + a) (n + 2) y (s + t + d)
  multiplied pβ pδ x n m s a r t y d h lo hi cut-lo cut-hi =
      let E = 2 ^ s * 2 ^ t in
      let e : 2 ^ (s + t + d) ≡ E * 2 ^ d = rw (pow-add 2 (s + t) d, pow-add 2 s t) in
      record {
        below = rw (pow-two α n, pow-two β n, e)
            (below_less (y * (E * 2 ^ d) * (α ^ n * (α * α))) (one * (β ^ n * (β * β)))
            (mul-pos (one_times_pos (one-le-pow n β pβ)) (one_times_pos pβ))
            (omega (arith, mul-le-mul_left (E * (α ^ n * α) * (one * (β ^ n * β))) cut-lo))
            (below_times h.below lo));
        above = rw (pow-two γ n, pow-two δ n, e)
            (above_more (y * (E * 2 ^ d) * (γ ^ n * (γ * γ))) (one * (δ ^ n * (δ * δ)))
            (mul-pos (one_times_pos (one-le-pow n δ pδ)) (one_times_pos pδ))
            (omega (arith, mul-le-mul_left (E * (γ ^ n * γ) * (one * (δ ^ n * δ))) cut-hi))
            (above_times h.above hi));
      }

-- (1 + 1/q) ^ n ≤ q / (q - n)
bernoulli : (q n r : ℕ) → r + n ≡ q → suc q ^ n * r ≤ q ^ n * q
bernoulli q zero r e = simp pow-zero (omega arith)
bernoulli q (suc n) r e =
    simp pow-suc
    (omega (arith, mul-le-mul_right q (bernoulli q n (suc r) (omega arith)), ap (λ (x : ℕ). suc q ^ n * x) e))

-- 26 rows and 26 cuts lose less than one part in 40,000,000
pub loss : (n : ℕ) → n ≤ 52 → suc one ^ n * parts ≤ one ^ n * suc parts
loss n h =
    let r = one - n in
    le_of_mul-le-mul_right {k = r}
    (omega (
      arith,
      mul-le-mul_right parts (bernoulli one n r (omega arith)),
      mul-le-mul_left {m = one * parts} {n = suc parts * r} (one ^ n) (omega arith),
    ))
    (omega arith)
