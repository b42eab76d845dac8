-- `comma_read::plain_front` meets its contract: a run stands after the runs before it; what is left of the text falls.
-- Assumes nothing.
use Rattle.std.proofs.Common.{◌≡◌, ◌-◌, ◌*◌, length}
use Rattle.comma_read.specs.Plain.{PlainLines}
use Rattle.comma_read.proofs.plain_front.Given as goal

abbrev pub invariant-loop-at : goal.invariant-loop-at
invariant-loop-at l = PlainLines l.text l.step.ms 0 0 l.at l.passed × (l.due.time ≡ l.passed * l.step.ms)

abbrev pub decreases-loop-at : goal.decreases-loop-at
decreases-loop-at l = length l.text - l.at
