-- `reach_files::open` meets its contract, test by test. Assumes nothing.
use mathlib.Core.Path.{sym, ◌∙◌}
use Rattle.reach_files.proofs.Opens.{opens_item, opens_standard, opens_tail, opens}
use Rattle.reach_files.proofs.open.Goals as goal

pub returns-then-item-ne0 : goal.returns-then-item-ne0
returns-then-item-ne0 c =
    opens_item c.args.j c.items_outside-item.ensures c.if-item-ne0.true

pub returns-then-not-both : goal.returns-then-not-both
returns-then-not-both c =
    opens_standard c.args.j
    (sym c.items_outside-item.ensures ∙
    c.if-item-ne0.false) ((sym c.both.ensures ∙ c.if-not-both.true))

pub returns-then-tail_outside : goal.returns-then-tail_outside
returns-then-tail_outside c =
    opens_tail c.args.j
    (sym c.items_outside-item.ensures ∙
    c.if-item-ne0.false)
    ((sym c.both.ensures ∙ c.if-not-both.false))
    (sym c.tail_outside.ensures ∙ c.if-tail_outside.true)

pub returns : goal.returns
returns c =
    opens c.args.j
    (sym c.items_outside-item.ensures ∙
    c.if-item-ne0.false)
    ((sym c.both.ensures ∙ c.if-not-both.false))
    (sym c.tail_outside.ensures ∙ c.if-tail_outside.false)
