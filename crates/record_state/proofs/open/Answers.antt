-- `record_state::open` meets its contract: the test on the item picks the answer. Assumes nothing.
use borrow.Author.Tests.{eq-eqb, ne_eqb}
use Rattle.record_state.specs.Answers.{opened}
use Rattle.record_state.proofs.open.Goals as goal

pub returns-then-item-eq0 : goal.returns-then-item-eq0
unfolding opened
returns-then-item-eq0 c =
    rw (← c.item_outside-item.ensures, eq-eqb _ _ c.if-item-eq0.true, c.fresh.ensures)

pub returns-else-item-eq0 : goal.returns-else-item-eq0
unfolding opened
returns-else-item-eq0 c = rw (← c.item_outside-item.ensures, ne_eqb _ _ c.if-item-eq0.false)
