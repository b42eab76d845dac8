-- `poisson::upper_row` meets its contract: the constant is the table of specs/, which the rule is proved of, and a
-- number outside it has what `upper_met` says there. Assumes nothing.
use Rattle.poisson.specs.Tables.{u, upper_rows}
use Rattle.poisson.proofs.Rows.{upper_met}
use Rattle.poisson.proofs.upper_row.Goals as goal

pub returns : goal.returns
unfolding u upper_rows
returns c = rw c.row.ensures (upper_met c.args.n)
