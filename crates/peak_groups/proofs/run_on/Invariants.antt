-- `peak_groups::run_on` meets its contract. The invariant: the run so far, with what is left after it, comes to the
-- first run. Assumes nothing.
use Prim.Native.Nat.{◌+◌}
use mathlib.Core.Path.{◌≡◌}
use mathlib.Core.List.{◌∷◌}
use lib.ListN.{drop}
use Rattle.peak_groups.specs.Runs.{first_run}
use Rattle.peak_groups.proofs.Ahead.{ahead}
use Rattle.peak_groups.proofs.run_on.Given as goal

abbrev pub invariant-loop-x : goal.invariant-loop-x
invariant-loop-x l = record {
  long : l.run.length ≡ l.x-index + 1;
  side : l.run.below ≡ l.below;
  comes : ahead l.run (drop l.x-index l.rest) ≡ first_run (l.first ∷ l.rest);
}
