-- Fractions p/r below and above e ^ (a / 2 ^ 20), over poisson's one denominator, and what the two laws make of them:
-- the products of two lower bounds and of two upper bounds bound the power of the sum. Assumes nothing.
use mathlib.Core.Path.{◌≡◌, ap}
use Prim.Native.Nat.{ℕ, zero, suc, ◌+◌, ◌*◌, ◌^◌, ◌≤◌, ◌<◌}
use native.Mathlib.Nat.{add-le-add, le_of_mul-le-mul_right, le_refl, mul-le-mul, mul-le-mul_left, mul-le-mul_right}
use native.Mathlib.Nat.{mul-pos, pow-le-pow_left, pow-suc}
use native.Mathlib.Omega.{arith}
use lib.Dec.{lit<, lit≤}
use Rattle.poisson.specs.Fractions.{over}
use Rattle.poisson.specs.Series.{S}
use Rattle.poisson.proofs.Scaled.{bottom_pos, denom, denom_pos, numer, same}
use Rattle.exponential.specs.Exponential.{NotPassed, Reached, exponent, units}
use Rattle.exponential.proofs.Laws.{series_above, series_below}

-- p/r ≤ e ^ x
pub record Below (p r a : ℕ) : Type 0 where
  pub terms : ℕ
  pub reach : p * denom units terms ≤ r * numer a units terms

-- e ^ x ≤ p/r
pub record Above (p r a : ℕ) : Type 0 where
  pub none_pass : (K : ℕ) → r * numer a units K ≤ p * denom units K

denom_unit : (K : ℕ) → 0 < denom units K
denom_unit K = denom_pos (lit< tt) K

-- the same, in the terms of specs/
module _ (p r a K : ℕ) where
  bottom : ℕ
  bottom = (S K (exponent a)).bottom

  equal : r * ((S K (exponent a)).top * denom units K) ≡ r * (numer a units K * bottom)
  unfolding bottom
  equal = ap (λ (x : ℕ). r * x) (same a units K)

module _ {p r a : ℕ} where
  pub reached : Below p r a → Reached (over p r) (exponent a)
  unfolding bottom
  reached h =
      let K = h.terms in (
        K,
        le_of_mul-le-mul_right {k = denom units K}
            (omega (arith, mul-le-mul_right (bottom p r a K) h.reach, equal p r a K))
            (denom_unit K),
      )

  pub not_passed : Above p r a → NotPassed (over p r) (exponent a)
  unfolding bottom
  not_passed h K =
      le_of_mul-le-mul_right {k = denom units K}
      (omega (arith, mul-le-mul_right (bottom p r a K) (h.none_pass K), equal p r a K))
      (denom_unit K)

module _ (p r a : ℕ) where
  pub from_reached : Reached (over p r) (exponent a) → Below p r a
  unfolding bottom
  from_reached (K, h) =
      record {
        terms = K;
        reach = le_of_mul-le-mul_right {k = bottom p r a K}
            (omega (arith, mul-le-mul_right (denom units K) h, equal p r a K))
            (bottom_pos a (lit< tt) K);
      }

  pub from_not_passed : NotPassed (over p r) (exponent a) → Above p r a
  unfolding bottom
  from_not_passed h =
      record {
        none_pass = λ K.
            le_of_mul-le-mul_right {k = bottom p r a K}
            (omega (arith, mul-le-mul_right (denom units K) (h K), equal p r a K))
            (bottom_pos a (lit< tt) K);
      }

module _ {p r a : ℕ} where
  -- a smaller fraction is below, a larger one above
  pub below_less : (p' r' : ℕ) → 0 < r → p' * r ≤ p * r' → Below p r a → Below p' r' a
  below_less p' r' unit l h =
      let K = h.terms in
      record {
        terms = K;
        reach = le_of_mul-le-mul_right {k = r}
            (omega (arith, mul-le-mul_right (denom units K) l, mul-le-mul_left r' h.reach))
            unit;
      }

  pub above_more : (p' r' : ℕ) → 0 < r → p * r' ≤ p' * r → Above p r a → Above p' r' a
  above_more p' r' unit l h =
      record {
        none_pass = λ K.
            le_of_mul-le-mul_right {k = r}
            (omega (arith, mul-le-mul_right (denom units K) l, mul-le-mul_left r' (h.none_pass K)))
            unit;
      }

  module _ {p' r' a' : ℕ} where
    pub below_times : Below p r a → Below p' r' a' → Below (p * p') (r * r') (a + a')
    below_times h h' =
        let m = h.terms in
        let n = h'.terms in
        record {
          terms = m + n;
          reach = le_of_mul-le-mul_right {k = denom units m * denom units n}
              (omega (
                arith,
                mul-le-mul_right (denom units (m + n)) (mul-le-mul h.reach h'.reach),
                mul-le-mul_left (r * r') (series_above {b = units} (lit< tt) a a' m n),
              ))
              (mul-pos (denom_unit m) (denom_unit n));
        }

    pub above_times : Above p r a → Above p' r' a' → Above (p * p') (r * r') (a + a')
    above_times h h' =
        record {
          none_pass = λ K.
              le_of_mul-le-mul_right {k = denom units K}
              (omega (
                arith,
                mul-le-mul (h.none_pass K) (h'.none_pass K),
                mul-le-mul_left (r * r') (series_below {b = units} (lit< tt) a a' K),
              ))
              (denom_unit K);
        }

-- the sums grow with x
pub numer_mono : (b : ℕ) {a c : ℕ} → a ≤ c → (K : ℕ) → numer a b K ≤ numer c b K
unfolding numer
numer_mono b h zero = le_refl 0
numer_mono b h (suc K) = mul-le-mul_right (b * suc K) (add-le-add (numer_mono b h K) (pow-le-pow_left h K))

-- what is below e ^ x is at most what is above e ^ y, where x ≤ y
pub between : {p r p' r' x y : ℕ} → x ≤ y → Below p r x → Above p' r' y → p * r' ≤ p' * r
between {p} {r} {p'} {r'} {x} {y} h l u =
    let K = l.terms in
    le_of_mul-le-mul_right {k = denom units K}
    (omega (
      arith,
      mul-le-mul_left r' l.reach,
      mul-le-mul_left (r * r') (numer_mono units h K),
      mul-le-mul_left r (u.none_pass K),
    ))
    (denom_unit K)

-- e ^ 0 is 1
pub below_one : Below 1 1 0
unfolding denom numer
below_one = record { terms = 1; reach = lit≤ tt }

none_pass_one : (K : ℕ) → numer 0 units K ≤ denom units K
unfolding denom numer
none_pass_one zero = lit≤ tt
none_pass_one (suc zero) = lit≤ tt
none_pass_one (suc (suc k)) =
    let e : 0 ^ suc k ≡ 0 = rw pow-suc (omega arith) in
    rw e (omega (arith, mul-le-mul_right (units * suc (suc k)) (none_pass_one (suc k))))

pub above_one : Above 1 1 0
above_one = record { none_pass = λ K. omega (arith, none_pass_one K) }
