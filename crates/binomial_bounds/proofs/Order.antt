-- The bounds of a sum are in order, and small enough to be exact in a float. Assumes nothing.
use mathlib.Core.Path.{◌≡◌}
use Prim.Native.Nat.{◌≤◌}
use native.Mathlib.Nat.{mul-le-mul}
use native.Mathlib.Omega.{arith}
use lib.Dec.{lit≤}
use Rattle.root.specs.HalfWidth.{width_within}
use Rattle.root.proofs.HalfWidth.{width_most, width_within_lem}
use Rattle.binomial_sum.specs.Kept.{Kept}
use Rattle.binomial_sum.specs.declared.Sum.{Sum}
use Rattle.binomial_bounds.specs.Bounds.{bounds_of, width}

pub width_small : (s : Sum) → Kept s → width s ≤ 196000
width_small s k = width_most 1960 s.failures s.samples k.failures

-- a sum's failures are measured
pub width_is : (s : Sum) → Kept s → width_within 1960 s.failures s.samples ≡ width s
width_is s k =
    width_within_lem 1960 s.failures s.samples
    (record { factor = lit≤ tt; failures = k.failures; among = k.within; samples = k.samples })

pub record Small (s : Sum) : Type 0 where
  pub estimate : (bounds_of s).estimate ≤ 10000000
  pub lower : (bounds_of s).lower ≤ 10000000
  pub upper : (bounds_of s).upper ≤ 10196000
  pub time : (bounds_of s).time ≤ 1000000000000

pub small : (s : Sum) → Kept s → Small s
small s k =
    record {
      estimate = omega (arith, k.failures);
      lower = omega (arith, k.failures);
      upper = omega (arith, k.failures, width_small s k);
      time = omega (arith, mul-le-mul k.samples k.step-high);
    }

pub ordered : (s : Sum) → ((bounds_of s).lower ≤ (bounds_of s).estimate) × ((bounds_of s).estimate ≤ (bounds_of s).upper)
ordered s = (omega arith, omega arith)
