-- `peak_tail::copy` meets its contract. The invariant: storing the peaks that are left over what `to` holds now gives
-- what storing all of them over `to` as it was gives. Assumes nothing.
use mathlib.Core.Path.{◌≡◌}
use Prim.Native.Nat.{◌-◌, ◌≤◌}
use lib.ListN.{drop, length}
use lib.Seq.{sets}
use Rattle.peak_tail.proofs.copy.Given as goal

abbrev pub invariant-loop-i : goal.invariant-loop-i
invariant-loop-i l = (length l.to ≡ length l.initial.to) × (sets l.to l.i (drop l.i l.peaks) ≡ sets l.initial.to 0 l.peaks)
