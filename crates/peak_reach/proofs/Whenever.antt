-- The other half of "accepted": what holds with something to spare is shown by our figures. The spare at the peaks and
-- the level is more than our figures may lack, so an exponent that is reached there is at most one unit of 2 ^ -20
-- above ours; that unit and the one part in 40,000,000 of `down` are less than the millionth of q. Assumes nothing.
use mathlib.Core.Path.{◌≡◌, ap}
use mathlib.Core.Logic.{⊎_elim}
use mathlib.Core.List.{List}
use Prim.Native.Nat.{ℕ, zero, suc, ◌+◌, ◌-◌, ◌*◌, ◌^◌, ◌≤◌, ◌<◌}
use native.Mathlib.Nat.{le_of_lt, le_of_mul-le-mul_right, lt_of_mul-lt-mul_right, mul-le-mul_left, mul-le-mul_right}
use native.Mathlib.Nat.{mul-lt-mul_of_pos_right, mul-pos, one-le-pow, zero-lt-suc}
use native.Mathlib.Numerals.{add-one}
use native.Mathlib.Omega.{arith}
use lib.Dec.{lit<, lit≤}
use lib.Pow.{pow-add}
use Rattle.poisson.specs.Fractions.{over}
use Rattle.poisson.specs.Rows.{million}
use Rattle.poisson.specs.Series.{S}
use Rattle.poisson.proofs.Scaled.{denom, denom_pos, numer, same}
use Rattle.exponential.specs.Exponential as exponential
use Rattle.exponential.specs.Exponential.{Down, one, parts, past}
use Rattle.exponential.specs.Tables.{mantissas, shifts}
use Rattle.exponential.proofs.Bounds.{Above, above_times, from_not_passed}
use Rattle.exponential.proofs.Rows.{rows}
use Rattle.logarithm.specs.Logarithm.{Logarithm, units}
use Rattle.peak_tail.specs.Hill.{HillSum, kth}
use Rattle.peak_reach.specs.Reach.{AcceptedWell}
use Rattle.peak_reach.proofs.Hill.{hill_low, level_high}
use Rattle.peak_reach.proofs.Powers.{powers_back}
use Rattle.peak_reach.proofs.Sums.{sum_grows}

-- one unit of the exponent, from above
pub unit_above : Above 2147485697 one 1
unfolding mantissas shifts
unit_above = from_not_passed 2147485697 one 1 (rows 0 (lit< tt)).none_above

next_above : (X m s : ℕ) → X < past → Down X m s → Above (m * 2 ^ s * suc parts * 2147485697) (one * parts * one) (X + 1)
next_above X m s h d = above_times (from_not_passed (m * 2 ^ s * suc parts) (one * parts) X (d.near h)) unit_above

-- a fraction t/d that equals y/z is at most F/O, where y/z ≤ x/u ≤ F/O
carried : (t d y z x u F O : ℕ) → 0 < z → 0 < u → t * z ≡ y * d → y * u ≤ x * z → O * x ≤ F * u → t * O ≤ F * d
carried t d y z x u F O pz pu e l h =
    le_of_mul-le-mul_right {k = z * u}
    (omega (arith, ap (λ (n : ℕ). n * (O * u)) e, mul-le-mul_right (d * O) l, mul-le-mul_right (z * d) h))
    (mul-pos pz pu)

crossed : (A R t d F O : ℕ) → 0 < O → A * d < t * R → t * O ≤ F * d → A * O < F * R
crossed A R t d F O pos less le = lt_of_mul-lt-mul_right d (omega (arith, mul-lt-mul_of_pos_right less pos, mul-le-mul_right R le))

-- the millionth of q is more than the unit and the part in 40,000,000
spent : (q N T v sm ml o pt sp r : ℕ) → q * sm * N * (o * pt * o) < v * sp * r * (ml * T) → sp * r * ml ≤ pt * o * sm → q * N * o < T * v
spent q N T v sm ml o pt sp r less slack =
    lt_of_mul-lt-mul_right (o * pt * sm) (omega (arith, less, mul-le-mul_right (v * T) slack))

some_of : (n x b : ℕ) → n < x * b → 0 < b
some_of n x zero h = absurd (omega arith)
some_of n x (suc b) h = zero-lt-suc b

module _ (ys : List ℕ) (k c P D sum g h w q : ℕ) (hill : HillSum ys k sum) (log : Logarithm c (kth ys k) g)
    (some : 2 ≤ k) (unit : 1 ≤ kth ys k) (above : kth ys k ≤ c) (a : AcceptedWell ys k c P D h w q) where
  higher : 2 ^ (sum + 2 * (k - 1)) * (kth ys k ^ k) ^ units ≤ a.p ^ units
  higher =
      rw (pow-add 2 sum (2 * (k - 1)))
      (omega (arith, mul-le-mul_left (2 ^ (2 * (k - 1))) (hill_low ys k sum hill), a.higher))

  lower : a.c' ^ units ≤ 2 ^ g * kth ys k ^ units
  lower =
      ⊎_elim
      (λ l. omega (arith, l, rw (pow-add 2 g 2) at (level_high c (kth ys k) g log unit above)))
      (λ e. rw e (omega (arith, mul-le-mul_right (kth ys k ^ units) (one-le-pow g 2 (lit≤ tt)))))
      a.lower

  figures : (sum + 2 * (k - 1)) * (a.X * (million + w)) ≤ g * (a.Z * (million * k))
  figures =
      powers_back a.p (kth ys k ^ k) (a.X * (million + w)) a.c' (kth ys k) (a.Z * (million * k)) units (sum + 2 * (k - 1)) g
      (one-le-pow k (kth ys k) unit)
      unit
      higher
      lower
      a.exponent

  module _ (X : ℕ) (down : exponential.units * (million * (k * g)) < suc X * ((sum + 2 * (k - 1)) * (million + w))) where
    next : a.X * exponential.units ≤ suc X * a.Z
    next =
        le_of_mul-le-mul_right {k = (sum + 2 * (k - 1)) * (million + w)}
        (omega (arith, mul-le-mul_left exponential.units figures, mul-le-mul_left a.Z (le_of_lt down)))
        (some_of (exponential.units * (million * (k * g))) (suc X) ((sum + 2 * (k - 1)) * (million + w)) down)

    pub accept_whenever : (m s : ℕ) → X < past → Down X m s → q * (1000 * k + h) * one < 1000 * (P * D) * (m * 2 ^ s)
    accept_whenever m s small e =
        let K = a.K in
        let x = over a.X a.Z in
        spent q (1000 * k + h) (1000 * (P * D)) (m * 2 ^ s) (suc million) million one parts (suc parts) 2147485697
        (crossed (q * suc million * (1000 * k + h)) (million * (1000 * (P * D))) (S K x).top (S K x).bottom
        (m * 2 ^ s * suc parts * 2147485697) (one * parts * one)
        (lit< tt)
        a.longer
        (carried (S K x).top (S K x).bottom (numer a.X a.Z K) (denom a.Z K)
        (numer (suc X) exponential.units K) (denom exponential.units K)
        (m * 2 ^ s * suc parts * 2147485697) (one * parts * one)
        (denom_pos a.unit K)
        (denom_pos (lit< tt) K)
        (same a.X a.Z K)
        (sum_grows a.X a.Z (suc X) exponential.units next K)
        (rw (add-one X) at ((next_above X m s small e).none_pass K))))
        (lit≤ tt)
