-- The other half of "rejected": what is rejected with something to spare is rejected by our figures, and there is such
-- a standard. The exponent with the spare is at least one unit of 2 ^ -20 below ours; that unit and the one part in
-- 40,000,000 of `up` are less than the millionth of q. An exponent of ours past 64 would make q longer than any
-- standard. Assumes nothing.
use mathlib.Core.Path.{◌≡◌, ap}
use mathlib.Core.Logic.{⊎_elim}
use mathlib.Core.List.{List}
use Prim.Native.Nat.{ℕ, zero, suc, ◌+◌, ◌-◌, ◌*◌, ◌^◌, ◌≤◌, ◌<◌}
use native.Mathlib.Nat.{le_of_lt, le_of_mul-le-mul_right, lt_of_mul-lt-mul_right, mul-le-mul, mul-le-mul_left}
use native.Mathlib.Nat.{mul-le-mul_right, mul-lt-mul_of_pos_right, mul-pos, one-le-pow, zero-lt-suc}
use native.Mathlib.Omega.{arith}
use lib.Dec.{lit<, lit≤}
use lib.Pow.{pow-add, pow_mono, pow_pos}
use Rattle.poisson.specs.Fractions.{over}
use Rattle.poisson.specs.Rows.{million}
use Rattle.poisson.specs.Series.{S}
use Rattle.poisson.proofs.Scaled.{bottom_pos, denom, denom_pos, numer, same}
use Rattle.exponential.specs.Exponential as exponential
use Rattle.exponential.specs.Exponential.{Up, one, parts, past}
use Rattle.exponential.specs.Tables.{mantissas, shifts}
use Rattle.exponential.proofs.Bounds.{Above, Below, above_times, below_less, between, from_reached}
use Rattle.exponential.proofs.Rows.{rows}
use Rattle.logarithm.specs.Logarithm.{Logarithm, units}
use Rattle.peak_tail.specs.Hill.{HillSum, kth}
use Rattle.peak_reach.specs.Reach.{RejectedWell}
use Rattle.peak_reach.specs.Figures.{longest_standard}
use Rattle.peak_reach.proofs.Hill.{hill_high, level_low}
use Rattle.peak_reach.proofs.Powers.{powers_back}
use Rattle.peak_reach.proofs.Sums.{sum_grows}
use Rattle.peak_reach.proofs.Whenever.{unit_above}

-- 2 ^ 40 is below e ^ 32
half_way : Below 1099511627776 1 33554432
unfolding mantissas shifts
half_way = below_less 1099511627776 1 (lit< tt) (lit≤ tt) (from_reached (2409758306 * 2 ^ 46) one 33554432 (rows 25 (lit< tt)).meets)

product_most : (q n R most : ℕ) → q ≤ most → n ≤ R → q * n ≤ most * R
product_most q n R most l few = mul-le-mul l few

too_far : (N R : ℕ) → 1 ≤ R → N ≤ 100000000000 * R → 1099511627776 * (1000001 * R) ≤ 1000000 * N * 1 → ⊥
too_far N R time most l = absurd (omega arith)

-- y/z ≤ x/u, where the sum t/d equals x/u and is below F/R
carried : (t d x u y z F R : ℕ) → 0 < d → 0 < u → t * u ≡ x * d → y * u ≤ x * z → t * R < F * d → R * y ≤ F * z
carried t d x u y z F R pd pu e l h =
    le_of_mul-le-mul_right {k = d * u}
    (omega (arith, mul-le-mul_left (R * d) l, ap (λ (n : ℕ). n * (R * z)) e, mul-le-mul_right (u * z) (le_of_lt h)))
    (mul-pos pd pu)

some_right : (t R F d : ℕ) → t * R < F * d → 0 < F
some_right t R zero d h = absurd (omega arith)
some_right t R (suc F) d h = zero-lt-suc F

spent : (v N C c : ℕ) → 0 < N → c < C → v * C ≤ N * c → v < N
spent v N C c pos less le = lt_of_mul-lt-mul_right C (omega (arith, le, mul-lt-mul_of_pos_right less pos))

-- G is the level's logarithm with all that it may lack, and 0 at the k-th peak itself
module _ (ys : List ℕ) (k c P D sum g h w q G : ℕ) (hill : HillSum ys k sum) (log : Logarithm c (kth ys k) g)
    (two : 2 ≤ k) (unit : 1 ≤ kth ys k) (above : kth ys k ≤ c) (spread : 1 ≤ sum) (near : G ≤ g + 2)
    (none : c ≡ kth ys k → G ≡ 0) (a : RejectedWell ys k c P D h w q) where
  abbrev n : ℕ
  n = 1000 * k - h

  abbrev R : ℕ
  R = 1000 * (P * D)

  higher : 4 * c ^ units ≤ a.c' ^ units → 2 ^ G * kth ys k ^ units ≤ a.c' ^ units
  higher l =
      let most : 2 ^ G ≤ 2 ^ g * 4 = rw (pow-add 2 g 2) at (pow_mono near) in
      omega (arith, l, mul-le-mul_right (kth ys k ^ units) most, level_low c (kth ys k) g log unit above)

  lower : a.p ^ units ≤ 2 ^ sum * (kth ys k ^ k) ^ units
  lower =
      le_of_mul-le-mul_right {k = 2 ^ (2 * (k - 1))}
      (omega (arith, a.lower, rw (pow-add 2 sum (2 * (k - 1))) at (hill_high ys k sum (omega arith) hill)))
      (pow_pos (2 * (k - 1)))

  figures : G * (a.Z * (million * k)) ≤ sum * (a.X * (million - w))
  figures =
      ⊎_elim
      (λ l.
      powers_back a.c' (kth ys k) (a.Z * (million * k)) a.p (kth ys k ^ k) (a.X * (million - w)) units G sum
      unit
      (one-le-pow k (kth ys k) unit)
      (higher l)
      lower
      a.exponent)
      (λ e. rw (none e.0) (omega arith))
      a.higher

  some_shape : 1 ≤ sum * (million - w)
  some_shape = let l : 1 ≤ million - w = omega (arith, a.some_shape) in mul-pos spread l

  -- an exponent Y of ours that is below the level's upper end is at most that of the spare
  at_most : (Y : ℕ) → Y * (sum * (million - w)) ≤ exponential.units * (million * (k * G)) → Y * a.Z ≤ a.X * exponential.units
  at_most Y low =
      le_of_mul-le-mul_right {k = sum * (million - w)}
      (omega (arith, mul-le-mul_right a.Z low, mul-le-mul_left exponential.units figures))
      some_shape

  above_at : (Y : ℕ) → Y * a.Z ≤ a.X * exponential.units → Above (million * (q * n)) (suc million * R) Y
  above_at Y l =
      record {
        none_pass = λ K.
            carried (S K (over a.X a.Z)).top (S K (over a.X a.Z)).bottom (numer a.X a.Z K) (denom a.Z K)
            (numer Y exponential.units K) (denom exponential.units K) (million * (q * n)) (suc million * R)
            (bottom_pos a.X a.unit K)
            (denom_pos a.unit K)
            (same a.X a.Z K)
            (sum_grows Y exponential.units a.X a.Z l K)
            (a.shorter K);
      }

  some_count : 0 < q * n
  some_count =
      let s = S 0 (over a.X a.Z) in
      omega (arith, some_right s.top (suc million * R) (million * (q * n)) s.bottom (a.shorter 0))

  pub count_below : h < 1000 * k
  count_below = less n (omega arith) some_count
    where
      less : (m : ℕ) → m ≡ 1000 * k - h → 0 < q * m → h < 1000 * k
      less zero e p = absurd (omega arith)
      less (suc m) e p = omega arith

  -- our exponent X is at most one unit above
  pub reject_whenever : (X m s : ℕ) → X * (sum * (million - w)) < exponential.units * (million * (k * G)) + sum * (million - w) → Up X m s
      → R * (m * 2 ^ s) < q * n * one
  reject_whenever X m s next e =
      spent (R * (m * 2 ^ s)) (q * n * one) (parts * suc million * one) (million * 2147485697 * suc parts)
      (omega (arith, some_count))
      (lit< tt)
      (omega (
        arith,
        between {x = X} {y = X - 1 + 1} (omega arith) (from_reached (m * 2 ^ s * parts) (one * suc parts) X e.near)
            (above_times (above_at (X - 1) (at_most (X - 1) (before X next))) unit_above),
      ))
    where
      before : (Y : ℕ) → Y * (sum * (million - w)) < exponential.units * (million * (k * G)) + sum * (million - w)
          → (Y - 1) * (sum * (million - w)) ≤ exponential.units * (million * (k * G))
      before zero l = omega arith
      before (suc Y) l = let e : suc Y - 1 ≡ Y = omega arith in rw e (omega arith)

  -- and none past 64 is
  pub not_far : q ≤ longest_standard → n ≤ R → 1 ≤ R → (past - 1) * (sum * (million - w)) < exponential.units * (million * (k * G)) → ⊥
  not_far most few time far =
      too_far (q * n) R time (product_most q n R longest_standard most few)
      (between {x = 33554432} {y = past - 1} (lit≤ tt) half_way (above_at (past - 1) (at_most (past - 1) (le_of_lt far))))
