-- `bureau_choice::choose` meets its contract: the tests in their order. Assumes nothing.
use Rattle.bureau_choice.specs.Steps.{chosen}
use Rattle.bureau_choice.proofs.choose.Goals as goal
use mathlib.Core.Path.{sym}
use mathlib.Core.Path.{◌∙◌}

pub returns-then-not-fine : goal.returns-then-not-fine
unfolding chosen
returns-then-not-fine c =
    rw ((sym c.fine.ensures ∙ c.if-not-fine.true)) c.refusing.ensures

pub returns-then-not-is_bureau : goal.returns-then-not-is_bureau
unfolding chosen
returns-then-not-is_bureau c =
    let b = c.before.before in
    rw ((sym b.fine.ensures ∙ b.if-not-fine.false), (sym b.is_bureau.ensures ∙ c.if-not-is_bureau.true)) c.refusing-then-not-is_bureau.ensures

pub returns : goal.returns
unfolding chosen
returns c =
    let b = c.before.before in
    rw ((sym b.fine.ensures ∙ b.if-not-fine.false), (sym b.is_bureau.ensures ∙ c.if-not-is_bureau.false)) c.choosing.ensures
