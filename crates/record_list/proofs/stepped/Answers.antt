-- `record_list::stepped` meets its contract: the test says whether the level is crossed, and without a crossing nothing
-- starts. Assumes nothing.
use mathlib.Core.Path.{sym, ◌∙◌}
use Rattle.record_list.specs.Walk.{stepped}
use Rattle.record_list.proofs.stepped.Goals as goal

pub returns : goal.returns
unfolding stepped
returns c =
    rw (sym c.both.ensures ∙ c.if-both.false)
