-- `crossing_search::rise_in` meets its contract. In a quiet block no sample is above its level, so none crosses it. The
-- loop's invariant: no level is crossed before i. Assumes nothing.
use Prim.Native.Nat.{ℕ, ◌≤◌, ◌<◌, ◌-◌}
use mathlib.Core.Path.{◌≡◌}
use mathlib.Core.Bool.{false}
use Rattle.sample_channels.specs.Channels.{moments}
use Rattle.crossing_places.specs.Reading.{sample_at, rises}
use Rattle.crossing_search.proofs.rise_in.Given as goal

abbrev pub invariant-loop-i : goal.invariant-loop-i
invariant-loop-i l = (k : ℕ) → k < l.i → l.from ≤ k → rises l.levels (sample_at (moments l.roll l.acceleration) (k - 1)) (sample_at (moments l.roll l.acceleration) k) ≡ false
