-- `peak_reach::item_outside` meets its contract: the choices one after the other. Assumes nothing.
use Rattle.peak_reach.specs.Answers.{item_outside}
use Rattle.peak_reach.proofs.item_outside.Goals as goal

pub returns : goal.returns
unfolding item_outside
returns c =
    rw (
      c.pick.ensures,
      c.between-3.ensures,
      c.pick-third.ensures,
      c.between-2.ensures,
      c.pick-fifth.ensures,
      c.between.ensures,
    )
