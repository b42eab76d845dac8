-- `peak_tail::sum_of_first` meets its contract. The invariant of its loop is `Part`. Assumes nothing.
use Rattle.peak_tail.proofs.Summing.{Part}
use Rattle.peak_tail.proofs.sum_of_first.Given as goal

abbrev pub invariant-loop-i : goal.invariant-loop-i
invariant-loop-i l = Part l.y l.k l.i l.sum
