-- `binomial_bounds::bound` meets its contract: each answer follows from the tests that led to it. Assumes nothing.
use Rattle.truth.proofs.Laws.{holds}
use Rattle.binomial_sum.proofs.Relations.{kept_from}
use Rattle.binomial_bounds.specs.Answers.{bounding}
use Rattle.binomial_bounds.proofs.bound.Goals as goal
use mathlib.Core.Path.{sym}
use mathlib.Core.Path.{◌∙◌}

pub returns-then-not-sound : goal.returns-then-not-sound
unfolding bounding
returns-then-not-sound c = rw ((sym c.sound.ensures ∙ c.if-not-sound.true))

pub bounds_of-requires : goal.bounds_of-requires
bounds_of-requires c =
    kept_from _ (holds ((sym c.sound.ensures ∙ c.if-not-sound.false)))

pub returns : goal.returns
unfolding bounding
returns c =
    rw ((sym c.sound.ensures ∙ c.if-not-sound.false), c.bounds_of.ensures)
