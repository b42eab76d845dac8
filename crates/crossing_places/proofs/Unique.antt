-- Two answers that a promise allows are the same answer: each promise is an equation. Assumes nothing.
use mathlib.Core.Path.{◌≡◌, sym, ◌∙◌}
use mathlib.Core.Bool.{Bool}
use Rattle.sample_channels.specs.declared.Levels.{Levels}
use Rattle.sample_channels.specs.declared.Moment.{Moment}
use Rattle.crossing_places.specs.Reading.{rises}

pub rises_unique : (a : Levels) (y z : Moment) (b c : Bool) → b ≡ rises a y z → c ≡ rises a y z → b ≡ c
rises_unique a y z b c e f = e ∙ sym f
