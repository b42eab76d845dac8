-- `exponential::down` meets its contract: it is our figure, which `down_is` speaks of. Assumes nothing.
use Rattle.exponential.proofs.Figures.{down_is}
use Rattle.exponential.proofs.down.Goals as goal

pub returns : goal.returns
returns c = (c.rows_of.ensures, rw c.rows_of.ensures (down_is c.args.x))
