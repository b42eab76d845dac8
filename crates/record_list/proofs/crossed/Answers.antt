-- `record_list::crossed` meets its contract: the test says whether a group starts; the sums fit since the walk is ready
-- for a sample. Assumes nothing.
use mathlib.Core.Path.{sym, ◌∙◌}
use Rattle.record_list.specs.Walk.{stepped}
use Rattle.record_list.proofs.crossed.Goals as goal

pub returns-then-starts : goal.returns-then-starts
unfolding stepped
returns-then-starts c =
    rw (c.requires.1, sym c.starts.ensures ∙ c.if-starts.true, c.put.ensures)

pub returns : goal.returns
unfolding stepped
returns c =
    rw (c.requires.1, sym c.starts.ensures ∙ c.if-starts.false)
