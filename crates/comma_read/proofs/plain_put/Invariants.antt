-- `comma_read::plain_put` meets its contract: `Running` is its invariant, with the samples put so far, and the places
-- that are left fall. Assumes nothing.
use Rattle.std.proofs.Common.{◌+◌, ◌-◌, ◌≤◌, length}
use Rattle.comma_read.specs.Plain.{PlainPut}
use Rattle.comma_read.proofs.Running.{Running}
use Rattle.comma_read.proofs.plain_put.Given as goal

abbrev pub invariant-loop-lines : goal.invariant-loop-lines
invariant-loop-lines l = Running l.text l.fn.step.ms l.at l.fn.due.time l.width l.digits l.time l.place l.lines × PlainPut l.text l.fn.step.ms l.at l.fn.due.time l.initial.samples l.from l.place l.lines l.samples × (l.from + l.lines ≤ length l.initial.samples)

abbrev pub decreases-loop-lines : goal.decreases-loop-lines
decreases-loop-lines l = length l.initial.samples - l.from - l.lines
