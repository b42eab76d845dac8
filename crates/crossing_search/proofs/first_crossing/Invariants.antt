-- `crossing_search::first_crossing` meets its contract. The invariant: i is past the ramp and no crossing stands before
-- i. A turn takes a block, which is not empty, so what is left falls. Assumes nothing.
use Prim.Native.Nat.{ℕ, ◌≤◌, ◌<◌, ◌-◌}
use mathlib.Core.Path.{◌≡◌}
use mathlib.Core.Bool.{false}
use Rattle.sample_channels.specs.Channels.{moments}
use Rattle.crossing_places.specs.Reading.{crosses_at}
use Rattle.crossing_search.proofs.first_crossing.Given as goal

abbrev pub invariant-loop-i : goal.invariant-loop-i
invariant-loop-i l = (l.ramp < l.i) × (l.i ≤ l.n) × ((k : ℕ) → k < l.i → crosses_at l.ramp l.levels (moments l.roll l.acceleration) k ≡ false)

abbrev pub decreases-loop-i : goal.decreases-loop-i
decreases-loop-i l = l.n - l.i
