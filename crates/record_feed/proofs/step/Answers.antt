-- `record_feed::step` meets its contract, by its test. Assumes nothing.
use native.Mathlib.Omega.{arith}
use Rattle.record_step.specs.Step.{stepped}
use Rattle.record_state.proofs.Relations.{kept_from}
use Rattle.record_state.proofs.Bounds.{small}
use Rattle.record_feed.proofs.step.Goals as goal

pub moved-requires : goal.moved-requires
moved-requires c = let k = kept_from c.args.r c.requires.0 in omega (arith, small k)

pub returns-then-crossing : goal.returns-then-crossing
unfolding stepped
returns-then-crossing c = rw (← c.requires.2, c.if-crossing.true) c.crossed.ensures

pub returns-else-crossing : goal.returns-else-crossing
unfolding stepped
returns-else-crossing c = rw (← c.requires.2, c.if-crossing.false) c.moved.ensures
