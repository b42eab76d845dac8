-- `peak_envelope::count` meets its contract. The invariant: the number and the sum so far and those of the peaks to
-- come make those of all, whatever the step is. The measure is what is left. Assumes nothing.
use Prim.Native.Nat.{ℕ, ◌+◌, ◌-◌, ◌*◌, ◌≤◌}
use mathlib.Core.Path.{◌≡◌}
use lib.ListN.{length, drop}
use Rattle.peak_groups.specs.Runs.{peaks, first_run}
use Rattle.peak_groups.proofs.Due.{due}
use Rattle.peak_groups.specs.Peaks.{sum}
use Rattle.peak_envelope.proofs.count.Given as goal

abbrev pub invariant-loop-i : goal.invariant-loop-i
invariant-loop-i l = (l.i ≤ length l.timed)
    × (l.next ≡ first_run (drop l.i l.timed))
    × (l.total.number ≤ l.i)
    × (l.total.sum ≤ l.i * 4294967295)
    × ((D : ℕ) → l.total.number + length (due D l.i l.timed) ≡ length (peaks D l.timed))
    × ((D : ℕ) → l.total.sum + sum (due D l.i l.timed) ≡ sum (peaks D l.timed))

abbrev pub decreases-loop-i : goal.decreases-loop-i
decreases-loop-i l = length l.timed - l.i
