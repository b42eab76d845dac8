-- `peak_groups::first_run` meets its contract: no samples have no run. Assumes nothing.
use Rattle.peak_groups.proofs.Ahead.{no_run}
use Rattle.peak_groups.proofs.first_run.Goals as goal

pub returns-in-None : goal.returns-in-None
returns-in-None c = no_run c.args.samples.now c.in-None.ensures.cases
