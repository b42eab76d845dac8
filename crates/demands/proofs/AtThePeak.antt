-- [14], what `Accepted`, `Rejected` and `AtMostEstimate` come to at the k-th peak itself, where nothing lies beyond the
-- records: whole numbers, with no power and no series. By these a reader can try the three definitions; turned alone,
-- with all that is proved of the times left as it is, they would fail here. Assumes that the peaks of the tail are not
-- all equal, which is 21's opposite.
use Prim.Native.Nat.{ℕ, zero, suc, ◌+◌, ◌-◌, ◌*◌, ◌^◌, ◌≤◌, ◌<◌}
use mathlib.Core.Path.{◌≡◌, refl}
use mathlib.Core.List.{List}
use native.Mathlib.Nat.{le_of_mul-le-mul_right, le_refl, mul-le-mul_left, mul-le-mul_right, mul-pos, not-le_of_lt}
use native.Mathlib.Nat.{one-le-pow, pow-suc, pow-zero, zero-mul}
use native.Mathlib.Decide.{dec_le}
use native.Mathlib.Omega.{arith}
use Rattle.poisson.specs.Fractions.{over}
use Rattle.poisson.specs.Rows.{million}
use Rattle.poisson.specs.Series.{S, factorial}
use Rattle.peak_tail.specs.Hill.{kth}
use Rattle.peak_reach.specs.Reach.{Accepted, AtMostEstimate, Rejected, product}
use Rattle.peak_reach.proofs.Powers.{root}
use Rattle.demands.proofs.Exactly.{Exactly}

-- ---- the statement
pub record AtThePeak (ys : List ℕ) (k : ℕ) : Type 0 where
  -- q (k + h) < T, and T < q (k - h) where the shape has a lower end; h and counts are in thousandths
  pub accepted : (P D h w q : ℕ) → Exactly (Accepted ys k (kth ys k) P D h w q) (q * (1000 * k + h) < 1000 * (P * D))
  pub rejected : (P D h w q : ℕ)
      → Exactly (Rejected ys k (kth ys k) P D h w q) ((w < 1000000) × (1000 * (P * D) < q * (1000 * k - h)))
  -- E k ≤ T
  pub estimate : (P D E : ℕ) → Exactly (AtMostEstimate ys k (kth ys k) P D E) (E * k ≤ P * D)

-- ---- the proof
factorial_pos : (j : ℕ) → 1 ≤ factorial j
unfolding factorial
factorial_pos zero = le_refl 1
factorial_pos (suc j) = mul-pos (omega arith) (factorial_pos j)

-- e ^ 0: no sum of the series is above 1
pub record Still (top bottom : ℕ) : Type 0 where
  pub most : top ≤ bottom
  pub some : 1 ≤ bottom

still : (Z : ℕ) → 1 ≤ Z → (K : ℕ) → Still (S K (over 0 Z)).top (S K (over 0 Z)).bottom
unfolding S factorial
still Z z zero = record { most = omega arith; some = le_refl 1 }
still Z z (suc zero) = rw (pow-zero 0, pow-zero Z) (record { most = omega arith; some = omega arith })
still Z z (suc (suc j)) =
    let t = (S (suc j) (over 0 Z)).top in
    let b = (S (suc j) (over 0 Z)).bottom in
    let c = Z ^ suc j * factorial (suc j) in
    let before = still Z z (suc j) in
    let one : 1 ≤ c = mul-pos (one-le-pow (suc j) Z z) (factorial_pos (suc j)) in
    let most : t * c ≤ b * c = mul-le-mul_right c before.most in
    rw (pow-suc 0 j)
    (record { most = omega (arith, most); some = mul-pos before.some one })

less_by : (A B t b : ℕ) → Still t b → A * b < t * B → A < B
less_by A B t b s l = go (dec_le B A)
  where
    go : Dec (B ≤ A) → A < B
    go (yes m) = absurd (omega (arith, l, mul-le-mul_right B s.most, mul-le-mul_left b m))
    go (no m) = omega arith

at_most_by : (A B t b : ℕ) → Still t b → A * b ≤ t * B → A ≤ B
at_most_by A B t b s l = le_of_mul-le-mul_right {k = b} (omega (arith, l, mul-le-mul_right B s.most)) s.some

below_by : (A B t b : ℕ) → Still t b → A < B → t * A < B * b
below_by A B t b s l = omega (arith, mul-le-mul_right A s.most, mul-le-mul_left b l, s.some)

module _ (ys : List ℕ) (k : ℕ) (unit : 1 ≤ kth ys k) (apart : kth ys k ^ k < product ys k) where
  abbrev u : ℕ
  u = kth ys k

  -- the exponent is 0: (Y(1) .. Y(k) / Y(k) ^ k) ^ m is at most 1 only for m = 0
  no_exponent : (X f n : ℕ) → 1 ≤ f → product ys k ^ (X * f) * u ^ n ≤ u ^ n * (u ^ k) ^ (X * f) → X ≡ 0
  no_exponent zero f n some l = refl
  no_exponent (suc X) f n some l =
      let pos : 1 ≤ suc X * f = mul-pos (omega arith) some in
      let least : product ys k ^ (suc X * f) ≤ (u ^ k) ^ (suc X * f) =
      le_of_mul-le-mul_right {k = u ^ n} (omega (arith, l)) (one-le-pow n u unit)
      in
      absurd (not-le_of_lt apart (root (product ys k) (u ^ k) (suc X * f) pos least))

  -- and 0 is an exponent
  reached : (f n : ℕ) → product ys k ^ (0 * f) * u ^ n ≤ u ^ n * (u ^ k) ^ (0 * f)
  reached f n = rw (zero-mul f, pow-zero (product ys k), pow-zero (u ^ k)) (omega arith)

  not_passed : (f n : ℕ) → u ^ n * (u ^ k) ^ (0 * f) ≤ product ys k ^ (0 * f) * u ^ n
  not_passed f n = rw (zero-mul f, pow-zero (product ys k), pow-zero (u ^ k)) (omega arith)

  of_accepted : (P D h w q : ℕ) → Accepted ys k u P D h w q → q * (1000 * k + h) < 1000 * (P * D)
  of_accepted P D h w q x =
      let none = no_exponent x.X (million + w) _ (omega arith) x.exponent in
      less_by (q * (1000 * k + h)) (1000 * (P * D)) _ _ (still x.Z x.unit x.K) (rw none at x.longer)

  of_estimate : (P D E : ℕ) → AtMostEstimate ys k u P D E → E * k ≤ P * D
  of_estimate P D E x =
      let none = no_exponent x.X million _ (omega arith) x.exponent in
      at_most_by (E * k) (P * D) _ _ (still x.Z x.unit x.K) (rw none at x.longer)

  of_rejected : (P D h w q : ℕ) → Rejected ys k u P D h w q → (w < 1000000) × (1000 * (P * D) < q * (1000 * k - h))
  unfolding S factorial
  of_rejected P D h w q x = (x.some_shape, omega (arith, rw (pow-zero x.X, pow-zero x.Z) at (x.shorter 1)))

  pub at_the_peak : AtThePeak ys k
  unfolding S factorial
  at_the_peak =
      record {
        accepted = λ P D h w q. record {
          only_if = of_accepted P D h w q;
          when = λ l.
              record { X = 0; Z = 1; K = 1; unit = le_refl 1; exponent = reached _ _; longer = omega (arith, l) };
        };
        rejected = λ P D h w q. record {
          only_if = of_rejected P D h w q;
          when = λ l.
              record {
                X = 0;
                Z = 1;
                unit = le_refl 1;
                some_shape = l.0;
                exponent = not_passed _ _;
                shorter = λ K. below_by (1000 * (P * D)) (q * (1000 * k - h)) _ _ (still 1 (le_refl 1) K) l.1;
              };
        };
        estimate = λ P D E. record {
          only_if = of_estimate P D E;
          when = λ l.
              record { X = 0; Z = 1; K = 1; unit = le_refl 1; exponent = reached million _; longer = omega (arith, l) };
        };
      }
