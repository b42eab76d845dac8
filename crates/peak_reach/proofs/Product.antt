-- The last product, r m 2 ^ s / 2 ^ 31, by whole numbers of 64 bits. Where r 2 ^ s is 2 ^ 60 or more the product passes
-- any standard times any count; else it is a high part and 31 bits, each times m. Assumes nothing.
use mathlib.Core.Path.{◌≡◌, ap}
use Prim.Native.Nat.{ℕ, suc, ◌+◌, ◌-◌, ◌*◌, ◌/◌, ◌%◌, ◌^◌, ◌≤◌, ◌<◌}
use native.Mathlib.Nat.{le-div_iff_mul-le, le_trans, mul-le-mul, mul-le-mul_right, mul-pos}
use native.Mathlib.Omega.{arith}
use lib.Pow.{pow-add, pow_mono, pow_pos}
use Rattle.exponential.specs.Exponential.{one}
use Rattle.peak_reach.specs.Steps.{Factors, Within, far}

-- r 2 ^ s is far
pub far_shift : (r s : ℕ) → 1 ≤ r → 60 ≤ s → far ≤ r * 2 ^ s
far_shift r s some h = omega (arith, mul-le-mul_right (2 ^ s) some, pow_mono {i = 60} {j = s} h)

pub far_time : (r s : ℕ) → s < 60 → far / 2 ^ s ≤ r → far ≤ r * 2 ^ s
far_time r s h l =
    let n = 2 ^ (60 - s) in
    let sum : 60 - s + s ≡ 60 = omega arith in
    let whole : n * 2 ^ s ≡ far = rw (← pow-add 2 (60 - s) s, sum) (omega arith) in
    let up : n ≤ far / 2 ^ s = (le-div_iff_mul-le (pow_pos s)).1 (omega (arith, whole)) in
    omega (arith, whole, mul-le-mul_right (2 ^ s) (le_trans up l))

pub near_time : (r s : ℕ) → r < far / 2 ^ s → r * 2 ^ s < far
near_time r s l = omega (arith, pow_pos s, (le-div_iff_mul-le {k = 2 ^ s} {x = suc r} {y = far} (pow_pos s)).0 l)

split : (v a b less : ℕ) → v ≡ a * one + b → 1 ≤ v → less ≤ 1
    → Within (v - less) (a + (b + 2147483648 - less) / 2147483648 - 1)
split v a b less e some few = record { reached = omega arith; longest = λ n l h. omega arith }

abbrev pub high : ℕ → ℕ
high x = x / 2147483648

abbrev pub low : ℕ → ℕ
low x = x % 2147483648

parted : (x m : ℕ) → x * m ≡ high x * m * one + low x * m
parted x m =
    let e : x ≡ high x * one + low x = omega arith in
    omega (arith, ap (λ (y : ℕ). y * m) e)

module _ (r m s less : ℕ) (f : Factors r m) (few : less ≤ 1) where
  abbrev x : ℕ
  x = r * 2 ^ s

  same : r * (m * 2 ^ s) ≡ high x * m * one + low x * m
  same = omega (arith, parted x m)

  some_product : 1 ≤ r * (m * 2 ^ s)
  some_product = let p : 1 ≤ m = omega (arith, f.least) in mul-pos f.some (mul-pos p (pow_pos s))

  pub far_within : far ≤ r * 2 ^ s → Within (r * (m * 2 ^ s) - less) (far - 1)
  far_within h = record { reached = omega (arith, mul-le-mul h f.least); longest = λ n l e. omega arith }

  pub near_within : Within (r * (m * 2 ^ s) - less) (high x * m + (low x * m + 2147483648 - less) / 2147483648 - 1)
  near_within = split (r * (m * 2 ^ s)) (high x * m) (low x * m) less same some_product few

  pub positive : 1 ≤ high x * m + (low x * m + 2147483648 - less) / 2147483648
  positive = omega (arith, same, some_product)

  module _ (near : x < far) where
    pub high_fits : high x * m ≤ 536870912 * (2 * one)
    high_fits = let h : high x ≤ 536870912 = omega arith in mul-le-mul h f.most

    pub low_fits : low x * m ≤ 2147483647 * (2 * one)
    low_fits = let h : low x ≤ 2147483647 = omega arith in mul-le-mul h f.most
