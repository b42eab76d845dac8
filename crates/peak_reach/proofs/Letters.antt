-- From our figures to the letters: with an exponent rounded to the safe side and e ^ x bounded by `exponential`, one
-- comparison of whole numbers shows "accepted", and one shows "rejected". What is accepted stays so at every shorter
-- standard, and what is rejected at every longer one. Assumes nothing.
use mathlib.Core.List.{List}
use Prim.Native.Nat.{ℕ, ◌+◌, ◌-◌, ◌*◌, ◌^◌, ◌≤◌, ◌<◌}
use native.Mathlib.Nat.{le_of_mul-le-mul_right, lt_of_mul-lt-mul_right, mul-le-mul_left, mul-le-mul_right}
use native.Mathlib.Nat.{mul-lt-mul_of_pos_right}
use native.Mathlib.Omega.{arith}
use lib.Dec.{lit<, lit≤}
use Rattle.poisson.specs.Fractions.{over}
use Rattle.poisson.specs.Rows.{million}
use Rattle.poisson.specs.Series.{S}
use Rattle.poisson.proofs.Scaled.{bottom_pos}
use Rattle.exponential.specs.Exponential.{exponent, one, past, units}
use Rattle.exponential.specs.Ours.{down_times, up_times}
use Rattle.exponential.proofs.Figures.{down_is, up_is}
use Rattle.logarithm.specs.Logarithm as logarithm
use Rattle.peak_tail.specs.Hill.{HillSum, kth}
use Rattle.peak_reach.specs.Figures.{full_sum}
use Rattle.peak_reach.specs.Reach.{Accepted, AtMostEstimate, Rejected}
use Rattle.peak_reach.proofs.Hill.{exponent_not_passed, exponent_reached}

-- a/t < v/o ≤ n/d
less_by : (a t v o n d : ℕ) → 0 < d → a * o < t * v → v * d ≤ n * o → a * d < n * t
less_by a t v o n d pos h l =
    lt_of_mul-lt-mul_right o (omega (arith, mul-lt-mul_of_pos_right h pos, mul-le-mul_left t l))

-- a/t ≤ v/o ≤ n/d
at_most_by : (a t v o n d : ℕ) → 0 < o → a * o ≤ t * v → v * d ≤ n * o → a * d ≤ n * t
at_most_by a t v o n d pos h l =
    le_of_mul-le-mul_right {k = o} (omega (arith, mul-le-mul_right d h, mul-le-mul_left t l)) pos

-- n/d ≤ v/o < b/t
by_less : (b t v o n d : ℕ) → 0 < d → t * v < b * o → n * o ≤ v * d → n * t < b * d
by_less b t v o n d pos h l =
    lt_of_mul-lt-mul_right o (omega (arith, mul-lt-mul_of_pos_right h pos, mul-le-mul_left t l))

module _ (ys : List ℕ) (k c P D sum h w q X : ℕ) (hill : HillSum ys k sum) (some : 1 ≤ k) where
  -- X is 2 ^ 20 k g / ((S + 2 (k - 1)) (1 + w)) rounded down
  pub accept_only_if : (g : ℕ) → 2 ^ g * kth ys k ^ logarithm.units ≤ c ^ logarithm.units
      → X * (full_sum k sum * (million + w)) ≤ units * (million * (k * g))
      → q * (1000 * k + h) * one < 1000 * (P * D) * down_times X → Accepted ys k c P D h w q
  accept_only_if g level down short =
      let e = down_is X in
      let K = e.never_above.0 in
      record {
        X = X;
        Z = units;
        K = K;
        unit = lit≤ tt;
        exponent = exponent_reached ys k c sum hill some (million + w) X units g level down;
        longer = less_by (q * (1000 * k + h)) (1000 * (P * D)) (down_times X) one (S K (exponent X)).top (S K (exponent X)).bottom
            (bottom_pos X (lit< tt) K)
            short
            e.never_above.1;
      }

  -- the same at the estimate, which may be met
  pub estimate_only_if : (g : ℕ) → 2 ^ g * kth ys k ^ logarithm.units ≤ c ^ logarithm.units
      → X * (full_sum k sum * (million + 0)) ≤ units * (million * (k * g))
      → q * (1000 * k) * one ≤ 1000 * (P * D) * down_times X → AtMostEstimate ys k c P D q
  estimate_only_if g level down short =
      let e = down_is X in
      let K = e.never_above.0 in
      record {
        X = X;
        Z = units;
        K = K;
        unit = lit≤ tt;
        exponent = exponent_reached ys k c sum hill some million X units g level (omega (arith, down));
        longer = at_most_by (q * k) (P * D) (down_times X) one (S K (exponent X)).top (S K (exponent X)).bottom
            (lit< tt)
            (omega (arith, short))
            e.never_above.1;
      }

  -- X is 2 ^ 20 k G / (S (1 - w)) rounded up
  pub reject_only_if : (G : ℕ) → c ^ logarithm.units ≤ 2 ^ G * kth ys k ^ logarithm.units → w < million → X < past
      → units * (million * (k * G)) ≤ X * (sum * (million - w))
      → 1000 * (P * D) * up_times X < q * (1000 * k - h) * one → Rejected ys k c P D h w q
  reject_only_if G level shape small up long =
      record {
        X = X;
        Z = units;
        unit = lit≤ tt;
        some_shape = shape;
        exponent = exponent_not_passed ys k c sum hill some (million - w) X units G level up;
        shorter = λ K.
            by_less (q * (1000 * k - h)) (1000 * (P * D)) (up_times X) one (S K (exponent X)).top (S K (exponent X)).bottom
            (bottom_pos X (lit< tt) K)
            long
            ((up_is X).never_below small K);
      }

module _ (ys : List ℕ) (k c P D h w q p : ℕ) where
  pub shorter_accepted : p ≤ q → Accepted ys k c P D h w q → Accepted ys k c P D h w p
  shorter_accepted l a =
      record {
        X = a.X;
        Z = a.Z;
        K = a.K;
        unit = a.unit;
        exponent = a.exponent;
        longer = omega (arith, a.longer, mul-le-mul_right ((1000 * k + h) * (S a.K (over a.X a.Z)).bottom) l);
      }

  pub longer_rejected : q ≤ p → Rejected ys k c P D h w q → Rejected ys k c P D h w p
  longer_rejected l a =
      record {
        X = a.X;
        Z = a.Z;
        unit = a.unit;
        some_shape = a.some_shape;
        exponent = a.exponent;
        shorter = λ K.
            omega (arith, a.shorter K, mul-le-mul_right ((1000 * k - h) * (S K (over a.X a.Z)).bottom) l);
      }
