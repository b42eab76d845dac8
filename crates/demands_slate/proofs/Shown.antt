-- Every marked case is right: antt computes the definitions over the whole table. Assumes nothing.
use mathlib.Core.Path.{◌≡◌, refl}
use mathlib.Core.Bool.{true}
use Rattle.crossing_sets.specs.Walk.{later, walk}
use Rattle.crossing_sets.specs.Groups.{attach, groups, firsts}
use Rattle.poisson.specs.Tables.{l, lower_rows, u, upper_rows}
use Rattle.sample_channels.specs.Channels.{moments}
use Rattle.crossing_places.specs.Reading.{passing}
use Rattle.campaign_state.specs.Answers.{entering}
use Rattle.campaign_state.specs.State.{censored, sound}
use Rattle.demands_slate.proofs.Slate.{same, right, all_right, slate}

pub shown : all_right slate ≡ true
unfolding same right all_right slate moments passing walk later attach groups firsts u l upper_rows lower_rows censored entering sound
shown = refl
