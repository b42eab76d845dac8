-- `binomial_files::open` meets its contract: an item is outside its range or not. Assumes nothing.
use mathlib.Core.Path.{sym, ap, ◌∙◌}
use borrow.Author.Tests.{eq-eqb, ne_eqb}
use Rattle.sample_items.specs.Limits.{item_outside}
use Rattle.refusal.specs.declared.Refusal.TheVariants.{Item}
use Rattle.binomial_files.specs.Adding.{opened_files}
use Rattle.binomial_files.proofs.open.Goals as goal
use Rattle.std.specs.Prelude.{Err}

pub returns-then-item-eq0 : goal.returns-then-item-eq0
unfolding opened_files
returns-then-item-eq0 c =
    rw (eq-eqb (item_outside c.args.items) 0 (sym c.item_outside-item.ensures ∙ c.if-item-eq0.true))

pub returns-else-item-eq0 : goal.returns-else-item-eq0
unfolding opened_files
returns-else-item-eq0 c =
    let is = c.item_outside-item.ensures in
    rw (ne_eqb (item_outside c.args.items) 0 (λ z. c.if-item-eq0.false (is ∙ z))) (ap (λ n. Err (0, 0, Item n)) is)
