-- `record_end::end` meets its contract: each answer follows from the tests that led to it; a sound record's ramp is
-- small enough to add to. Assumes nothing.
use native.Mathlib.Omega.{arith}
use borrow.Author.Tests.{le-ltb, lt-ltb}
use Rattle.record_state.proofs.Relations.{kept_from}
use Rattle.record_state.proofs.Bounds.{items_of}
use Rattle.record_end.specs.Result.{ending}
use Rattle.record_end.proofs.end.Goals as goal
use mathlib.Core.Path.{sym}
use mathlib.Core.Path.{◌∙◌}

pub returns-then-not-sound : goal.returns-then-not-sound
unfolding ending
returns-then-not-sound c = rw ((sym c.sound.ensures ∙ c.if-not-sound.true))

pub overflow_add-r : goal.overflow_add-r
overflow_add-r c =
    omega (arith, (items_of (kept_from _ ((sym c.sound.ensures ∙ c.if-not-sound.false)))).ramp)

pub returns-then-r : goal.returns-then-r
unfolding ending
returns-then-r c =
    rw ((sym c.sound.ensures ∙ c.if-not-sound.false), lt-ltb _ _ c.if-r.true)

pub returns : goal.returns
unfolding ending
returns c =
    rw ((sym c.sound.ensures ∙ c.if-not-sound.false), le-ltb _ _ c.if-r.false, c.exposure_of.ensures)
