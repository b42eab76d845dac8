-- `sample_channels::mark` meets its contract. The invariant: the first i samples are noted. Assumes nothing.
use mathlib.Core.Path.{◌≡◌}
use mathlib.Core.List.{map}
use lib.ListN.{length}
use lib.Seq.{paste}
use Rattle.sample_channels.specs.Channels.{above, moments}
use Rattle.sample_channels.proofs.mark.Given as goal

abbrev pub invariant-loop-i : goal.invariant-loop-i
invariant-loop-i l = (length l.ups ≡ length l.initial.ups) × (l.ups ≡ paste l.initial.ups 0 (map (above l.levels) (moments l.roll l.acceleration)) l.i)
