-- `comma_read::plain_run` meets its contract: `Running` is its invariant, and what is left of the text falls. Assumes
-- nothing.
use Rattle.std.proofs.Common.{◌-◌, length}
use Rattle.comma_read.proofs.Running.{Running}
use Rattle.comma_read.proofs.plain_run.Given as goal

abbrev pub invariant-loop-time : goal.invariant-loop-time
invariant-loop-time l = Running l.text l.fn.step.ms l.at l.fn.due.time l.width l.digits l.time l.place l.lines

abbrev pub decreases-loop-time : goal.decreases-loop-time
decreases-loop-time l = length l.text - l.place
