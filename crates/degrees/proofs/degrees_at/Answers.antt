-- `degrees::degrees_at` meets its contract: the degrees are read after their sign. Assumes nothing.
use mathlib.Core.Path.{◌∙◌}
use Rattle.degrees.proofs.Signs.{after_sign}
use Rattle.degrees.proofs.degrees_at.Goals as goal

pub returns : goal.returns
returns c =
    let a = c.args in c.size_at.ensures ∙ after_sign a.s.now a.at _ c.past_minus-from.ensures
