-- `comma_read::fill_rest` meets its contract: `Along` and `Putting` are its invariant, and every line keeps them, since
-- all are right. What is left of the text falls. Assumes nothing.
use Rattle.std.proofs.Common.{◌-◌, length}
use Rattle.comma_read.proofs.Along.{Along, Putting}
use Rattle.comma_read.proofs.fill_rest.Given as goal

abbrev pub invariant-loop-at : goal.invariant-loop-at
invariant-loop-at l = Along l.step.ms l.text l.at
    l.due.time l.count l.count × Putting l.step.ms l.text l.fn.front.at l.fn.front.lines l.initial.samples l.samples l.at l.count

abbrev pub decreases-loop-at : goal.decreases-loop-at
decreases-loop-at l = length l.text - l.at
