-- What is left of the interval falls.
use Rattle.run_table2.proofs.enter_interval.Given as goal

abbrev pub decreases-loop-left : goal.decreases-loop-left
decreases-loop-left g l = l.left
