-- `peak_reach::extrapolate` meets its contract: each return has the tests that led to it (`Order`), and the times that
-- are found are right. Assumes nothing.
use mathlib.Core.Path.{sym, ◌∙◌}
use Rattle.peak_reach.proofs.Order.{goes_on, judges, refuses_item, refuses_peak, refuses_tail, told}
use Rattle.peak_reach.proofs.extrapolate.Goals as goal

pub returns-then-item-ne0 : goal.returns-then-item-ne0
returns-then-item-ne0 c =
    let a = c.args in
    record {
      answers = refuses_item a.peaks.now a.k a.level a.step a.samples a.standard _ c.item_outside-item.ensures c.if-item-ne0.true;
      told = tt;
    }

pub returns-then-tail_outside : goal.returns-then-tail_outside
returns-then-tail_outside c =
    let a = c.args in
    record {
      answers =
          refuses_tail a.peaks.now a.k a.level a.step a.samples a.standard
          (sym c.item_outside-item.ensures ∙ c.if-item-ne0.false)
          (sym c.tail_outside.ensures ∙ c.if-tail_outside.true);
      told = tt;
    }

pub returns-then-out-n : goal.returns-then-out-n
returns-then-out-n c =
    let a = c.args in
    record {
      answers =
          refuses_peak a.peaks.now a.k a.level a.step a.samples a.standard
          (sym c.item_outside-item.ensures ∙ c.if-item-ne0.false)
          (sym c.tail_outside.ensures ∙ c.if-tail_outside.false)
          _ c.first_out-out.ensures c.if-out-n.true;
      told = tt;
    }

pub reach-requires : goal.reach-requires
reach-requires c =
    let a = c.args in
    judges a.peaks.now a.k a.level a.step a.samples a.standard
    (sym c.item_outside-item.ensures ∙ c.if-item-ne0.false)
    (sym c.tail_outside.ensures ∙ c.if-tail_outside.false)
    (rw c.first_out-out.ensures at c.if-out-n.false)

pub returns : goal.returns
returns c =
    let a = c.args in
    let e =
    goes_on a.peaks.now a.k a.level a.step a.samples a.standard
    (sym c.item_outside-item.ensures ∙ c.if-item-ne0.false)
    (sym c.tail_outside.ensures ∙ c.if-tail_outside.false)
    (rw c.first_out-out.ensures at c.if-out-n.false) _ c.reach.ensures
    in
    record { answers = e; told = told a.peaks.now a.k a.level a.step a.samples a.standard _ e }
