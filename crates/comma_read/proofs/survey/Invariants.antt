-- `comma_read::survey` meets its contract: `Along` is its invariant, plain lines and a right line keep it, and a wrong
-- one or the end closes it. What is left of the text falls. Assumes nothing.
use Rattle.std.proofs.Common.{◌-◌, length}
use Rattle.comma_read.proofs.Along.{Along}
use Rattle.comma_read.proofs.survey.Given as goal

abbrev pub invariant-loop-at : goal.invariant-loop-at
invariant-loop-at l = Along l.step.ms l.text l.at l.due.time l.count l.sound

abbrev pub decreases-loop-at : goal.decreases-loop-at
decreases-loop-at l = length l.text - l.at
