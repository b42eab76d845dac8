-- `peak_tail::fit` meets its contract: each return has the tests that led to it (`Order`); the slice is the copy
-- sorted, and the rest as it stood. Assumes nothing.
use mathlib.Core.Path.{ap, sym, ◌∙◌}
use mathlib.Core.List.{◌++◌}
use native.Mathlib.Omega.{arith}
use lib.ListN.{length}
use Rattle.peak_tail.proofs.Bad.{counted, none_zero}
use Rattle.peak_tail.proofs.Order.{copied_rest, copied_start, inside, refuses_peak, refuses_room, refuses_tail, sums_up}
use Rattle.peak_tail.proofs.fit.Goals as goal

pub returns-then-tail_outside : goal.returns-then-tail_outside
returns-then-tail_outside c =
    let a = c.args in
    refuses_tail a.peaks.now a.k a.sorted.now (sym c.tail_outside.ensures ∙ c.if-tail_outside.true)

pub returns-then-bad-n : goal.returns-then-bad-n
returns-then-bad-n c =
    let a = c.args in
    let bad = c.first_bad-bad.ensures ∙ sym (counted a.peaks.now) in
    rw bad
    (refuses_peak a.peaks.now a.k a.sorted.now (sym c.tail_outside.ensures ∙ c.if-tail_outside.false) (rw bad at c.if-bad-n.true))

pub returns-then-sorted-n : goal.returns-then-sorted-n
returns-then-sorted-n c =
    let a = c.args in
    refuses_room a.peaks.now a.k a.sorted.now (sym c.tail_outside.ensures ∙ c.if-tail_outside.false)
    (rw (c.first_bad-bad.ensures ∙ sym (counted a.peaks.now)) at c.if-bad-n.false)
    c.if-sorted-n.true

pub sum_of_largest-sum-requires : goal.sum_of_largest-sum-requires
sum_of_largest-sum-requires c =
    let y = c.copy in
    let a = c.args in
    let (long, low, high) = inside (length a.peaks.now) a.k (sym c.tail_outside.ensures ∙ c.if-tail_outside.false) in
    rw (copied_start a.peaks.now a.sorted.now _ y.ensures)
    (low, high, omega arith, none_zero a.peaks.now (rw (c.first_bad-bad.ensures ∙ sym (counted a.peaks.now)) at c.if-bad-n.false))

pub returns : goal.returns
returns c =
    let s = c.sum_of_largest-sum in
    let y = c.copy in
    let a = c.args in
    sums_up a.peaks.now a.k a.sorted.now (sym c.tail_outside.ensures ∙ c.if-tail_outside.false)
    (rw (c.first_bad-bad.ensures ∙ sym (counted a.peaks.now)) at c.if-bad-n.false)
    c.if-sorted-n.false
    (record {
      ys = s.new.y;
      sorted = rw (copied_start a.peaks.now a.sorted.now _ y.ensures) at s.ensures.0;
      leaves = ap (◌++◌ s.new.y) (copied_rest a.peaks.now a.sorted.now _ y.ensures);
      sums = s.ensures.1;
    })
