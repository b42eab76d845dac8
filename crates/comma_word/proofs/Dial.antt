-- Laws of digits side by side: their parts, how large they get with 246 in every byte, and that they are 0 for 0 alone.
-- Assumes nothing.
use mathlib.Core.Path.{◌≡◌}
use Prim.Native.Nat.{ℕ, zero, suc, ◌+◌, ◌*◌, ◌/◌, ◌^◌, ◌<◌}
use native.Mathlib.Nat.{pow-suc, add-zero, add-suc, mul_comm, div-one, div-div-eq-div-mul}
use native.Mathlib.Omega.{arith}
use Rattle.comma_word.specs.Dial.{dial, each}

-- j digits stand before k: those of what is left without the last k
pub parts : (j k n : ℕ) → dial (j + k) n ≡ dial j (n / 10 ^ k) * 256 ^ k + dial k n
unfolding dial
parts j zero n = let whole : n / 10 ^ 0 ≡ n = div-one n in rw (add-zero j, whole) (omega arith)
parts j (suc k) n =
    let shorter : n / 10 / 10 ^ k ≡ n / 10 ^ suc k = rw (pow-suc, mul_comm (10 ^ k) 10, div-div-eq-div-mul) in
    rw (add-suc, parts j k (n / 10), shorter, pow-suc 256 k) (omega arith)

-- a digit and 246 are no more than a byte holds
pub below : (k n : ℕ) → dial k n + each 246 k < 256 ^ k
unfolding dial each
below zero n = omega arith
below (suc k) n = rw pow-suc (omega (arith, below k (n / 10)))

pub short : (k n r : ℕ) → r ≡ dial k n → r < 256 ^ k
short k n r e = omega (arith, below k n)

-- the digits of 0 alone are all 0
pub zero_alone : (k n : ℕ) → n < 10 ^ k → dial k n ≡ 0 → n ≡ 0
unfolding dial
zero_alone zero n h e = omega arith
zero_alone (suc k) n h e =
    let few : n < 10 ^ k * 10 = rw pow-suc at h in
    omega (arith, zero_alone k (n / 10) (omega arith) (omega arith))
