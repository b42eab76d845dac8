-- `record_feed::along` meets its contract. The invariant: what is left, run from the state so far, ends where the
-- whole piece does; the state is sound, it is timed, it is known whether its last sample is above in neither
-- channel, and there is room for what is left, which is in range; the gap is its own. Assumes nothing.
use Prim.Native.Nat.{◌+◌, ◌-◌, ◌≤◌, ◌<◌}
use mathlib.Core.Path.{◌≡◌}
use mathlib.Core.Bool.{true}
use mathlib.Core.List.{foldl}
use lib.ListN.{length, drop}
use Rattle.sample_channels.specs.Channels.{moments, AllInRange}
use Rattle.sample_items.specs.Limits.{most_samples}
use Rattle.record_state.specs.State.{sound}
use Rattle.record_feed.specs.Gap.{Gap}
use Rattle.record_step.specs.Step.{below, stepped}
use Rattle.record_feed.proofs.along.Given as goal

abbrev pub invariant-loop-i : goal.invariant-loop-i
invariant-loop-i l = (sound l.s ≡ true)
    × (l.i ≤ length l.roll)
    × AllInRange (drop l.i (moments l.roll l.acceleration))
    × (l.s.n + (length l.roll - l.i) ≤ most_samples l.s.items.step l.s.items.ramp)
    × (l.low ≡ below l.s)
    × (l.s.items.ramp < l.s.n)
    × Gap l.s.items.step l.s.items.decorrelation l.gap
    × (l.s.items.levels ≡ l.initial.s.items.levels)
    × (foldl stepped l.s (drop l.i (moments l.roll l.acceleration)) ≡ foldl stepped l.initial.s (moments l.roll l.acceleration))
