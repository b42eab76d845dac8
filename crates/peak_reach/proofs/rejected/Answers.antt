-- `peak_reach::rejected` meets its contract (`Steps`). Assumes nothing.
use mathlib.Core.Path.{sym, ◌∙◌}
use Rattle.peak_reach.proofs.Steps.{rejected_is, rejected_none}
use Rattle.peak_reach.proofs.rejected.Goals as goal

pub returns-then-either : goal.returns-then-either
returns-then-either c =
    let a = c.args in
    rejected_none a.k a.level a.sum a.h a.w a.r (sym c.either.ensures ∙ c.if-either.true)

pub returns : goal.returns
returns c =
    let a = c.args in
    rejected_is a.k a.level a.sum a.h a.w a.r (sym c.either.ensures ∙ c.if-either.false) _ c.shortest.ensures
