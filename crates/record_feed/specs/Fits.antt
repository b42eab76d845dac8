-- Samples that may be stepped one by one from a state. Assumes nothing.
use Rattle.std.specs.Prelude.{◌+◌, ◌≤◌, ◌≡◌, true, List, ℤ, length}
use Rattle.sample_channels.specs.Channels.{moments, AllInRange}
use Rattle.sample_items.specs.Limits.{most_samples}
use Rattle.record_state.specs.declared.Record.{Record}
use Rattle.record_state.specs.State.{sound}

-- the state r is sound, and the slices are of equal length, in range, not too long, and a block at most
pub record Fits (r : Record) (xs ys : List ℤ) : Type 0 where
  pub state : sound r ≡ true
  pub equal : length xs ≡ length ys
  pub good : AllInRange (moments xs ys)
  pub room : r.n + length xs ≤ most_samples r.items.step r.items.ramp
  pub short : length xs ≤ 64
