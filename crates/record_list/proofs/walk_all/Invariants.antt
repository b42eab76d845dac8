-- `record_list::walk_all` meets its contract: the walk is underway (`Underway`), and a turn takes a block, which is not
-- empty, so what is left falls. Assumes nothing.
use Prim.Native.Nat.{◌-◌}
use lib.ListN.{length}
use Rattle.record_list.proofs.Underway.{Underway}
use Rattle.record_list.proofs.walk_all.Given as goal

abbrev pub invariant-loop-i : goal.invariant-loop-i
invariant-loop-i l = Underway l.items.step l.items.levels l.items.decorrelation l.roll l.acceleration l.initial.times l.times l.w l.i

abbrev pub decreases-loop-i : goal.decreases-loop-i
decreases-loop-i l = length l.roll - l.i
