-- `comma_read::right_lines` meets its contract: `Way` is its invariant, plain lines together and a right line keep it,
-- and where no place is left or no right line stands it has what is promised. The places that are left fall. Assumes
-- nothing.
use Rattle.std.proofs.Common.{◌-◌, length}
use Rattle.comma_read.proofs.Way.{Way}
use Rattle.comma_read.proofs.right_lines.Given as goal

abbrev pub invariant-loop-count : goal.invariant-loop-count
invariant-loop-count l = Way l.step.ms l.before l.text l.initial.samples l.at l.count l.due.time l.sound l.samples

abbrev pub decreases-loop-count : goal.decreases-loop-count
decreases-loop-count l = length l.initial.samples - l.count
