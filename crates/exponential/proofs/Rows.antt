-- The table meets its rule in every row: e ^ (2 ^ i / 2 ^ 20) lies between the row and the next number. The checker
-- computes one test over the table, at one number of terms; the terms left out are bounded by twice the next one.
-- Assumes nothing.
use mathlib.Core.Bool.{Bool, ◌&&◌}
use Prim.Native.Nat.{ℕ, suc, ◌+◌, ◌*◌, ◌^◌, ◌≤◌, ◌<◌}
use native.Mathlib.Nat.{le_of_mul-le-mul_right, mul-le-mul_left, mul-le-mul_right}
use native.Mathlib.Omega.{arith}
use lib.Dec.{T, leb, leb→le, lit<, ltb, ltb→lt}
use lib.Ieee.Fits.{and_l, and_r}
use lib.ListN.{get_or}
use Rattle.poisson.proofs.Scaled.{denom, denom_pos, numer}
use Rattle.poisson.proofs.Table.{at, every}
use Rattle.poisson.proofs.Turn.{bounded}
use Rattle.exponential.specs.Exponential.{one, units}
use Rattle.exponential.specs.Steps.{Row}
use Rattle.exponential.specs.Tables.{mantissas, shifts}
use Rattle.exponential.proofs.Bounds.{Above, Below, not_passed, reached}

-- how many terms the test sums: enough at e ^ 32
terms : ℕ
terms = 100

unfoldable test : ℕ → ℕ → ℕ → Bool
unfolding terms
test i m s =
    (leb (m * 2 ^ s * denom units terms) (one * numer (2 ^ i) units terms)
    && leb (2 * 2 ^ i) (suc terms * units))
    && (leb (one * (numer (2 ^ i) units terms + 2 * (2 ^ i) ^ terms)) (suc m * 2 ^ s * denom units terms)
    && (leb one m && (ltb (suc m) (2 * one) && leb s 46)))

module _ (i m s : ℕ) (t : T (test i m s)) where
  low : m * 2 ^ s * denom units terms ≤ one * numer (2 ^ i) units terms
  unfolding test
  low = search (and_l, and_r, leb→le)

  far : 2 * 2 ^ i ≤ suc terms * units
  unfolding test
  far = search (and_l, and_r, leb→le)

  high : one * (numer (2 ^ i) units terms + 2 * (2 ^ i) ^ terms) ≤ suc m * 2 ^ s * denom units terms
  unfolding test
  high = search (and_l, and_r, leb→le)

  none_pass : (K : ℕ) → one * numer (2 ^ i) units K ≤ suc m * 2 ^ s * denom units K
  none_pass K =
      le_of_mul-le-mul_right {k = denom units terms}
      (omega (
        arith,
        mul-le-mul_left one (bounded units (2 ^ i) terms far K),
        mul-le-mul_right (denom units K) high,
      ))
      (denom_pos (lit< tt) terms)

  meets : Below (m * 2 ^ s) one (2 ^ i)
  meets = record { terms = terms; reach = low }

  above : Above (suc m * 2 ^ s) one (2 ^ i)
  above = record { none_pass = none_pass }

  row : Row i m s
  unfolding test
  row =
      record {
        meets = reached meets;
        none_above = not_passed above;
        least = search (and_l, and_r, leb→le);
        below_two = search (and_l, and_r, ltb→lt);
        small = search (and_l, and_r, leb→le);
      }

passes : T (every (λ i m. test i m (get_or shifts i 0)) 0 mantissas)
unfolding mantissas shifts test terms numer denom
passes = tt

pub rows : (i : ℕ) → i < 26 → Row i (get_or mantissas i 0) (get_or shifts i 0)
unfolding mantissas
rows i h = row i _ _ (at (λ i m. test i m (get_or shifts i 0)) mantissas passes i h)
