-- `exponential::up` meets its contract: it is our figure, which `up_is` speaks of. Assumes nothing.
use Rattle.exponential.proofs.Figures.{up_is}
use Rattle.exponential.proofs.up.Goals as goal

pub returns : goal.returns
returns c = (c.rows_of.ensures, rw c.rows_of.ensures (up_is c.args.x))
