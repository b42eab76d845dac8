-- `record_feed::pass` meets its contract. The invariant is that of `run`, but for the samples left: the samples passed
-- are in range, so the first bad place of each channel is i and the first bad place of what is left. A turn takes a
-- block, which is not empty, so what is left falls. Assumes nothing.
use Prim.Native.Nat.{◌+◌, ◌-◌, ◌≤◌}
use mathlib.Core.Path.{◌≡◌}
use mathlib.Core.Bool.{true}
use mathlib.Core.List.{foldl}
use lib.ListN.{length, drop}
use Rattle.sample_channels.specs.Channels.{moments}
use Rattle.sample_items.specs.Limits.{most_samples}
use Rattle.record_state.specs.State.{sound}
use Rattle.record_step.specs.Step.{stepped}
use Rattle.sample_range.specs.Range.{first_bad}
use Rattle.record_feed.proofs.pass.Given as goal

abbrev pub invariant-loop-i : goal.invariant-loop-i
invariant-loop-i l = (sound l.s ≡ true)
    × (l.i ≤ length l.roll)
    × (l.i + first_bad (drop l.i l.roll) ≡ first_bad l.roll)
    × (l.i + first_bad (drop l.i l.acceleration) ≡ first_bad l.acceleration)
    × (l.s.n + (length l.roll - l.i) ≤ most_samples l.s.items.step l.s.items.ramp)
    × (foldl stepped l.s (drop l.i (moments l.roll l.acceleration)) ≡ foldl stepped l.initial.s (moments l.roll l.acceleration))

abbrev pub decreases-loop-i : goal.decreases-loop-i
decreases-loop-i l = length l.roll - l.i
