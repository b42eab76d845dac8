-- `poisson::lower_row` meets its contract: the constant is the table of specs/, which the rule is proved of, and a
-- number outside it has what `lower_met` says there. Assumes nothing.
use Rattle.poisson.specs.Tables.{l, lower_rows}
use Rattle.poisson.proofs.Rows.{lower_met}
use Rattle.poisson.proofs.lower_row.Goals as goal

pub returns : goal.returns
unfolding l lower_rows
returns c = rw c.row.ensures (lower_met c.args.n)
