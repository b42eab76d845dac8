-- `Sheet::line` meets its contract: line 1 or a later one, by where the reading stands. Assumes nothing.
use Rattle.sheet_line.specs.Line.{stepping}
use Rattle.sheet_line.proofs.Sheet.line.Goals as goal
use mathlib.Core.Path.{sym}
use mathlib.Core.Path.{◌∙◌}

pub returns-then-not-sound : goal.returns-then-not-sound
unfolding stepping
returns-then-not-sound c =
    rw (c.in-Open.is, (sym c.sound.ensures ∙ c.if-not-sound.true))

pub returns-in-Fresh : goal.returns-in-Fresh
unfolding stepping
returns-in-Fresh c = rw c.in-Fresh.is c.standard_line.ensures

pub returns-else-not-sound : goal.returns-else-not-sound
unfolding stepping
returns-else-not-sound c =
    rw (c.in-Open.is, (sym c.sound.ensures ∙ c.if-not-sound.false)) c.record_line.ensures
