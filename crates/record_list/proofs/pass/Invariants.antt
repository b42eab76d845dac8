-- `record_list::pass` meets its contract. The invariant: the walk is underway (`Underway`), and the samples passed are
-- in range, so the first bad place of each channel is i and that of what is left. A turn takes a block, which is not
-- empty, so what is left falls. Assumes nothing.
use Prim.Native.Nat.{◌+◌, ◌-◌}
use mathlib.Core.Path.{◌≡◌}
use lib.ListN.{length, drop}
use Rattle.sample_range.specs.Range.{first_bad}
use Rattle.record_list.proofs.Underway.{Underway}
use Rattle.record_list.proofs.pass.Given as goal

abbrev pub invariant-loop-i : goal.invariant-loop-i
invariant-loop-i l = Underway l.items.step l.items.levels l.items.decorrelation l.roll l.acceleration l.initial.times l.times l.w l.i
    × (l.i + first_bad (drop l.i l.roll) ≡ first_bad l.roll)
    × (l.i + first_bad (drop l.i l.acceleration) ≡ first_bad l.acceleration)

abbrev pub decreases-loop-i : goal.decreases-loop-i
decreases-loop-i l = length l.roll - l.i
