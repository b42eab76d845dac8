-- `peak_tail::hill_sum` meets its contract: past the test for 16 the sum over the first k is defined. Assumes nothing.
use mathlib.Core.Path.{sym, ◌∙◌}
use Rattle.peak_tail.specs.Fitting.{hill_within}
use Rattle.peak_tail.proofs.hill_sum.Goals as goal

pub returns-then-tail_outside : goal.returns-then-tail_outside
unfolding hill_within
returns-then-tail_outside c = rw (sym c.tail_outside.ensures ∙ c.if-tail_outside.true)

pub returns : goal.returns
unfolding hill_within
returns c =
    let o = c.before.before in
    rw (sym o.tail_outside.ensures ∙ c.if-tail_outside.false) c.sum_of_first.ensures.figures
