-- `binomial_bounds::bounds_of` meets its contract, number by number, each of which fits. Assumes nothing.
use native.Mathlib.Omega.{arith}
use Rattle.binomial_bounds.proofs.Order.{width_is, width_small}
use Rattle.binomial_bounds.proofs.bounds_of.Goals as goal

pub overflow_add-result : goal.overflow_add-result
overflow_add-result c =
    let k = c.requires in
    omega (arith, c.half_width-width.ensures, width_is _ k, width_small _ k)

pub returns : goal.returns
returns c =
    let k = c.requires in
    rw (c.less.ensures, c.half_width-width.ensures, width_is _ k)
