-- `reach_files::above` meets its contract. The invariant: what is counted, and what is left to count, make up all of
-- it. Assumes nothing.
use Prim.Native.Nat.{◌+◌, ◌≤◌}
use mathlib.Core.Path.{◌≡◌}
use lib.ListN.{length, drop}
use Rattle.reach_files.specs.Line.{above_level}
use Rattle.reach_files.proofs.above.Given as goal

abbrev pub invariant-loop-y : goal.invariant-loop-y
invariant-loop-y l = (l.y-index ≤ length l.ys) × (l.n ≤ l.y-index) × (l.n + above_level l.level (drop l.y-index l.ys) ≡ above_level l.level l.ys)
