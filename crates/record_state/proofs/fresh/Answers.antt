-- `record_state::fresh` meets its contract: no samples have no figures. Assumes nothing.
use mathlib.Core.Path.{refl}
use Rattle.crossing_sets.specs.Walk.{walk}
use Rattle.crossing_sets.specs.Groups.{groups}
use Rattle.crossing_places.specs.Reading.{passing, first_of, last_of}
use Rattle.record_state.specs.State.{state_of}
use Rattle.record_state.proofs.fresh.Goals as goal

pub returns : goal.returns
unfolding state_of passing first_of last_of walk groups
returns c = refl
