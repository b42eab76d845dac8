-- `record_whole::judge` meets its contract: each answer is the law of `Judged` whose tests held on the way to it.
-- Assumes nothing.
use Prim.Native.Nat.{◌+◌}
use mathlib.Core.Path.{◌≡◌, sym, ◌∙◌}
use mathlib.Core.Bool.{◌&&◌}
use native.Mathlib.Omega.{arith}
use lib.ListN.{length}
use lib.Dec.{leb}
use Rattle.sample_items.specs.Limits.{item_outside, most_samples}
use Rattle.sample_items.proofs.Ranges.{within_ranges, most_in_range_lem}
use Rattle.record_whole.proofs.Judged.{sized_item, sized_unequal, sized_fits, sized_fault}
use Rattle.record_whole.proofs.judge.Goals as goal
use Rattle.record_whole.proofs.judge.Goals.{After-both, After-most_samples-most, Else-item-ne0}

pub returns-then-item-ne0 : goal.returns-then-item-ne0
returns-then-item-ne0 c = let e = c.item_outside-item.ensures in rw e (sized_item _ _ _ (λ z. c.if-item-ne0.true (e ∙ z)))

-- past the first test the items are in range
ranged : (c : Else-item-ne0) → item_outside c.args.items ≡ 0
ranged c = sym c.item_outside-item.ensures ∙ c.if-item-ne0.false

pub returns-then-roll-acceleration : goal.returns-then-roll-acceleration
returns-then-roll-acceleration c = sized_unequal _ _ _ (ranged c.before) c.if-roll-acceleration.true

pub overflow_add-items : goal.overflow_add-items
overflow_add-items c = omega (arith, (within_ranges _ (ranged c.before.before.before)).ramp)

most : (c : After-most_samples-most) →
    let i = c.args.items in
    c.most_samples-most.result ≡ most_samples i.step i.ramp
most c = c.most_samples-most.ensures ∙ most_in_range_lem _ (ranged c.before.before)

-- what the test of the length says
tested : (c : After-both) →
    let a = c.args in
    c.both.result ≡ (leb (length a.roll.now) (most_samples a.items.step a.items.ramp) && leb (a.items.ramp + 2) (length a.roll.now))
tested c = rw (c.both.ensures, most c.before.before)

pub returns-then-both : goal.returns-then-both
returns-then-both c =
    let b = c.before.before.before.before in
    sized_fits _ _ _ (ranged b.before) b.if-roll-acceleration.false (sym (tested c.before) ∙ c.if-both.true)

pub returns : goal.returns
returns c =
    let b = c.before.before.before.before in
    c.fault.ensures ∙ rw (most b) (sized_fault _ _ _ (ranged b.before.before) b.if-roll-acceleration.false (sym (tested c.before.before) ∙ c.if-both.false))
