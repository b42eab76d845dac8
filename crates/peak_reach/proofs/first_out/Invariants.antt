-- `peak_reach::first_out` meets its contract. The invariant: the i peaks passed are in their places and `before` is
-- the last of them, so the first place at fault is i and that of what is left. Assumes nothing.
use mathlib.Core.Path.{◌≡◌}
use Prim.Native.Nat.{◌+◌, ◌-◌, ◌≤◌}
use lib.ListN.{drop, length}
use Rattle.peak_reach.specs.Answers.{first_out, first_out_after}
use Rattle.peak_reach.proofs.first_out.Given as goal

abbrev pub invariant-loop-i : goal.invariant-loop-i
invariant-loop-i l = (l.i ≤ length l.peaks) × (l.i + first_out_after l.before (drop l.i l.peaks) ≡ first_out l.peaks)
