-- `condition_sheets::open` meets its contract: 1 to 64 sheets, or 18. Assumes nothing.
use Rattle.condition_sheets.specs.Taking.{opened_condition}
use Rattle.condition_sheets.proofs.open.Goals as goal
use mathlib.Core.Path.{sym}
use mathlib.Core.Path.{◌∙◌}

pub returns-then-not-both : goal.returns-then-not-both
unfolding opened_condition
returns-then-not-both c =
    rw ((sym c.both.ensures ∙ c.if-not-both.true))

pub returns : goal.returns
unfolding opened_condition
returns c =
    rw ((sym c.both.ensures ∙ c.if-not-both.false))
