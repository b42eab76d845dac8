-- The first crossing of a stretch of samples. Assumes nothing.
use Rattle.std.specs.Prelude.{ℕ, ◌-◌, ◌≤◌, ◌<◌, ◌≡◌, true, false, List}
use Rattle.sample_channels.specs.declared.Levels.{Levels}
use Rattle.sample_channels.specs.declared.Moment.{Moment}
use Rattle.crossing_places.specs.Reading.{sample_at, rises}

-- r is the first place from `from` on at which a level is crossed, or `end` if there is none before it
pub record FirstRise (a : Levels) (xs : List Moment) (from end r : ℕ) : Type 0 where
  pub after : from ≤ r
  pub within : r ≤ end
  pub none : (k : ℕ) → from ≤ k → k < r → rises a (sample_at xs (k - 1)) (sample_at xs k) ≡ false
  pub found : r < end → rises a (sample_at xs (r - 1)) (sample_at xs r) ≡ true
