-- `comma_read::fill_front` meets its contract: `Along` and `Putting` are its invariant, and the plain lines that are
-- ahead keep them. Assumes nothing.
use Rattle.std.proofs.Common.{◌≡◌, ◌+◌, ◌*◌}
use Rattle.comma_read.proofs.Along.{Along, Putting}
use Rattle.comma_read.proofs.Front.{Ahead}
use Rattle.comma_read.proofs.fill_front.Given as goal

abbrev pub invariant-loop-count : goal.invariant-loop-count
invariant-loop-count l = Along l.step.ms l.text l.at l.due.time
    l.count l.count × Putting l.step.ms l.text 0 0 l.initial.samples l.samples l.at l.count × Ahead l.text l.step.ms l.at
    l.due.time l.fn.front.at (0 + l.fn.front.lines * l.step.ms) × (l.due.time ≡ l.count * l.step.ms)
