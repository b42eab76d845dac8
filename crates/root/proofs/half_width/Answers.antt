-- `root::half_width` meets its contract: the square fits, and the least number that was found is the half-width.
-- Assumes nothing.
use mathlib.Core.Path.{◌∙◌, sym}
use native.Mathlib.Omega.{arith}
use Rattle.root.specs.HalfWidth.{width_within}
use Rattle.root.proofs.HalfWidth.{Measured, measured_from, root_width, scatter_fits, width_within_lem}
use Rattle.root.proofs.half_width.Goals as goal
use Rattle.root.proofs.half_width.Goals.{Else-not-measured}

-- past the test the numbers are measured
abbrev known : (c : Else-not-measured) → Measured c.args.factor c.args.n c.args.p
known c = measured_from _ _ _ ((sym c.measured.ensures ∙ c.if-not-measured.false))

pub returns-then-not-measured : goal.returns-then-not-measured
unfolding width_within
returns-then-not-measured c = rw ((sym c.measured.ensures ∙ c.if-not-measured.true))

pub overflow_mul-factor-3 : goal.overflow_mul-factor-3
overflow_mul-factor-3 c =
    let a = c.args in omega (arith, scatter_fits a.factor a.n a.p (known c))

pub returns : goal.returns
returns c =
    let a = c.args in
    let m = known c.before in
    c.least.ensures ∙ root_width a.factor a.n a.p m.among ∙ sym (width_within_lem a.factor a.n a.p m)
