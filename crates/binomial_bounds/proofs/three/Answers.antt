-- `binomial_bounds::three` meets its contract, rate by rate: the numbers are small enough to be exact in a float.
-- Assumes nothing.
use native.Mathlib.Omega.{arith}
use Rattle.binomial_bounds.proofs.Order.{small}
use Rattle.binomial_bounds.proofs.three.Goals as goal

pub quotient-requires-3 : goal.quotient-requires-3
quotient-requires-3 c = let b = small _ c.requires in rw c.bounds_of-b.ensures (omega (arith, b.upper), omega (arith, b.time))
