-- `record_state::sound` meets its contract: an item outside its range settles it; otherwise it follows the definition
-- word for word. Assumes nothing.
use borrow.Author.Tests.{eq-eqb, ne_eqb}
use Rattle.record_state.specs.State.{sound, items_kept}
use mathlib.Core.Path.{◌≡◌, sym, ◌∙◌}
use Rattle.sample_items.proofs.Ranges.{most_in_range_lem}
use mathlib.Core.Bool.{true}
use Rattle.record_state.proofs.sound.Goals as goal

pub returns-then-item_outside-ne0 : goal.returns-then-item_outside-ne0
unfolding sound
returns-then-item_outside-ne0 c = rw (← c.item_outside.ensures, ne_eqb _ _ c.if-item_outside-ne0.true)

pub returns : goal.returns
unfolding sound
returns c =
    let r = c.args.r in
    let z = sym c.item_outside.ensures ∙ c.if-item_outside-ne0.false in
    let e : items_kept r ≡ true = eq-eqb _ 0 z in
    let m = most_in_range_lem r.items z in
    rw (e, c.both-3.ensures, c.both-2.ensures, c.both.ensures, c.figures_kept.ensures, c.most_samples.ensures, m, c.last_kept.ensures)
