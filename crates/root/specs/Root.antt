-- A square root that is rounded up, by whole numbers: the least m with m² p ≥ a. Assumes nothing.
use Rattle.std.specs.Prelude.{cond, ℕ, zero, suc, ◌*◌, ◌≤◌, eqb, leb}

-- m is the least whole number whose square times p is at least a
pub record Least (a p m : ℕ) : Type 0 where
  pub enough : a ≤ m * m * p
  pub least : (k : ℕ) → a ≤ k * k * p → m ≤ k

-- the same, found by trying one number after the other: the first of k numbers from m on whose square times p is at
-- least a, else the next
unfoldable pub first_from : ℕ → ℕ → ℕ → ℕ → ℕ
first_from a p m zero = m
first_from a p m (suc k) = cond (leb a (m * m * p)) m (first_from a p (suc m) k)

-- a itself is always enough; where p is 0 no number is, and it is 0
unfoldable pub least_root : ℕ → ℕ → ℕ
least_root a p = cond (eqb p 0) 0 (first_from a p 0 a)

-- ---- what the private steps promise one another
-- r is the least whole number that is at least a / p
pub record RoundedUp (a p r : ℕ) : Type 0 where
  pub enough : a ≤ r * p
  pub least : (k : ℕ) → a ≤ k * p → r ≤ k

-- m is the least whole number whose square is at least b
pub record Root (b m : ℕ) : Type 0 where
  pub enough : b ≤ m * m
  pub least : (k : ℕ) → b ≤ k * k → m ≤ k
