-- The half-width: it is the least such number, that of at most 10,000 failures is at most 100 factors, and without a
-- failure, and where every sample failed, it is 0. Assumes nothing.
use mathlib.Core.Path.{◌≡◌, sym}
use mathlib.Core.Bool.{true}
use Prim.Native.Nat.{ℕ, zero, suc, ◌-◌, ◌*◌, ◌≤◌, ◌<◌}
use native.Mathlib.Nat.{mul-le-mul, mul-le-mul_left, mul-le-mul_right}
use native.Mathlib.Omega.{arith}
use borrow.Author.Tests.{le-leb, leb-true}
use lib.Dec.{leb}
use Rattle.truth.proofs.Laws.{and-true}
use Rattle.root.specs.HalfWidth.{HalfWidth, half_width, measured, scatter, width_within}
use Rattle.root.specs.Root.{least_root}
use Rattle.root.proofs.First.{least_root_lem, no_root, only_least, past_small, tried}

some : (n : ℕ) → 1 ≤ suc n
some n = omega arith

wide : (f N P : ℕ) → scatter f N P ≤ f * N * (f * N) * P
wide f zero P = omega arith
wide f (suc n) P =
    let below : P - suc n ≤ P = omega arith in
    let once : P ≤ suc n * P = omega (arith, mul-le-mul_right P (some n)) in
    omega (arith, mul-le-mul_left (f * f * suc n) below, mul-le-mul_left (f * f * suc n) once)

pub half_width_lem : (f N P : ℕ) → HalfWidth f N P (half_width f N P)
unfolding half_width
half_width_lem f N P = tried (scatter f N P) P 0 (f * N) (λ j h. omega arith) (omega (arith, wide f N P))

-- a number is it whose square is enough, and that of the number before it is not
pub width_is : (f N P m : ℕ) → scatter f N P ≤ suc m * suc m * P → m * m * P < scatter f N P → half_width f N P ≡ suc m
width_is f N P m enough short =
    only_least (half_width_lem f N P) (record { enough = enough; least = λ k e. past_small (scatter f N P) P m k short e })

pub no_failure : (f P : ℕ) → half_width f 0 P ≡ 0
no_failure f P = only_least (half_width_lem f 0 P) (record { enough = omega arith; least = λ k e. omega arith })

-- the least root is it, where there is a sample
pub root_width : (f N P : ℕ) → N ≤ P → least_root (scatter f N P) P ≡ half_width f N P
root_width f N zero l =
    let e : N ≡ 0 = omega arith in
    rw (e, no_root (scatter f 0 0)) (sym (no_failure f 0))
root_width f N (suc P) l = only_least (least_root_lem (scatter f N (suc P)) (suc P) (omega arith)) (half_width_lem f N (suc P))

-- 10,000 failures at most: 100 factors are enough
pub widest : (f N P : ℕ) → N ≤ 10000 → scatter f N P ≤ 100 * f * (100 * f) * P
widest f N P few =
    let below : P - N ≤ P = omega arith in
    omega (arith, mul-le-mul (mul-le-mul_left (f * f) few) below)

pub width_most : (f N P : ℕ) → N ≤ 10000 → half_width f N P ≤ 100 * f
width_most f N P few = (half_width_lem f N P).least (100 * f) (widest f N P few)

-- ---- where it is 0
pub all_failures : (f N : ℕ) → half_width f N N ≡ 0
all_failures f N =
    only_least (half_width_lem f N N)
    (record { enough = let e : N - N ≡ 0 = omega arith in omega (arith, nothing N e); least = λ k e. omega arith })
  where
    nothing : (n : ℕ) {d : ℕ} → d ≡ 0 → f * f * n * d ≡ 0
    nothing n e = rw e (omega arith)

-- ---- what is measured
pub record Measured (f N P : ℕ) : Type 0 where
  pub factor : f ≤ 3000
  pub failures : N ≤ 10000
  pub among : N ≤ P
  pub samples : P ≤ 100000000

pub measured_from : (f N P : ℕ) → measured f N P ≡ true → Measured f N P
measured_from f N P e =
    let (a, b) = and-true (leb f 3000) _ e in
    let (c, d) = and-true (leb N 10000) _ b in
    let (g, h) = and-true (leb N P) (leb P 100000000) d in
    record { factor = leb-true _ _ a; failures = leb-true _ _ c; among = leb-true _ _ g; samples = leb-true _ _ h }

pub width_within_lem : (f N P : ℕ) → Measured f N P → width_within f N P ≡ half_width f N P
unfolding width_within
width_within_lem f N P m =
    rw (le-leb f 3000 m.factor, le-leb N 10000 m.failures, le-leb N P m.among, le-leb P 100000000 m.samples)

-- the square fits 64 bits
pub scatter_fits : (f N P : ℕ) → Measured f N P → scatter f N P ≤ 9000000000000000000
scatter_fits f N P m =
    let l : 100 * f ≤ 300000 = omega (arith, m.factor) in
    omega (arith, widest f N P m.failures, mul-le-mul (mul-le-mul l l) m.samples)
