-- `peak_groups::zeros` meets its contract. The invariant: the i samples passed are zeros, so all zeros at the start are
-- i and those of what is left. Assumes nothing.
use Prim.Native.Nat.{◌+◌}
use mathlib.Core.Path.{◌≡◌}
use lib.ListN.{drop}
use Rattle.peak_groups.specs.Runs.{zeros}
use Rattle.peak_groups.proofs.zeros.Given as goal

abbrev pub invariant-loop-i : goal.invariant-loop-i
invariant-loop-i l = l.i + zeros (drop l.i l.samples) ≡ zeros l.samples
