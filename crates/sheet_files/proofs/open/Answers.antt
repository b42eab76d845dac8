-- `sheet_files::open` meets its contract: the standard, the items, or nothing yet. Assumes nothing.
use mathlib.Core.Path.{sym, ap, ◌∙◌}
use borrow.Author.Tests.{eq-eqb, ne_eqb}
use Rattle.refusal.specs.declared.Refusal.TheVariants.{Item}
use Rattle.sample_items.specs.Limits.{item_outside}
use Rattle.sheet_files.specs.Filing.{opened_sheet}
use Rattle.sheet_files.proofs.open.Goals as goal
use Rattle.std.specs.Prelude.{Err}

pub returns-then-not-both : goal.returns-then-not-both
unfolding opened_sheet
returns-then-not-both c =
    rw ((sym c.both.ensures ∙ c.if-not-both.true))

pub returns-then-item-eq0 : goal.returns-then-item-eq0
unfolding opened_sheet
returns-then-item-eq0 c =
    rw ((sym c.both.ensures ∙ c.if-not-both.false), eq-eqb (item_outside c.args.items) 0 (sym c.item_outside-item.ensures ∙ c.if-item-eq0.true))

pub returns-else-item-eq0 : goal.returns-else-item-eq0
unfolding opened_sheet
returns-else-item-eq0 c =
    let is = c.item_outside-item.ensures in
    rw ((sym c.both.ensures ∙ c.if-not-both.false), ne_eqb (item_outside c.args.items) 0 (λ z. c.if-item-eq0.false (is ∙ z))) (ap (λ n. Err (0, 0, Item n)) is)
