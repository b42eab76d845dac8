use Prim.Native.Nat.{ℕ, ◌+◌, ◌≤◌}
use mathlib.Core.Path.{◌≡◌, ap, ◌∙◌}
use native.Mathlib.Nat.{zero-add}
use native.Mathlib.Omega.{arith}
use borrow.Author.Rules.{rules}
use lib.ListN.{length}
use Rattle.peak_groups.specs.Runs.{peaks, first_run}
use Rattle.peak_groups.proofs.Due.{due, due_first, from_place, second_fits, walk_fits, walk_holds, walk-next, walk_ends}
use Rattle.peak_groups.specs.Peaks.{sum}
use Rattle.peak_envelope.specs.declared.Totals.{Totals}
use Rattle.peak_envelope.proofs.count.Goals as goal
use Rattle.peak_envelope.proofs.count.Goals.{After-second_run-i}

-- the second run starts within the samples
within : (c : After-second_run-i) → c.second_run-i.result ≤ length c.args.timed.now
within c = omega (arith, c.second_run-i.ensures, second_fits c.args.timed.now)

pub offset_bounds-timed-i : goal.offset_bounds-timed-i
offset_bounds-timed-i c = omega (arith, within c)

pub slice_bounds-first_run-count : goal.slice_bounds-first_run-count
slice_bounds-first_run-count c = within c

pub slice_bounds-first_run-start : goal.slice_bounds-first_run-start
slice_bounds-first_run-start c = within c

pub loop-i-init : goal.loop-i-init
loop-i-init c =
    let b : After-second_run-i = search rules in
    let p = b.args.timed.now in
    let k = b.second_run-i.result in
    let e = b.second_run-i.ensures in
    let d : (D : ℕ) → due D k p ≡ peaks D p = λ D. ap (λ (j : ℕ). due D j p) e ∙ due_first D p in
    (within b, c.first_run-next.ensures ∙ ap first_run (from_place k p), omega arith, omega arith, λ D. zero-add _ ∙ ap length (d D), λ D. zero-add _ ∙ ap sum (d D))

pub overflow_add-i : goal.overflow_add-i
overflow_add-i c = let l = c.loop-i in omega (arith, walk_fits _ l.i l.next l.invariant.1 l.invariant.0)

pub loop-i-smaller : goal.loop-i-smaller
loop-i-smaller c =
    omega (arith, c.loop-i-test.true, (walk_holds _ _ _ c.loop-i.invariant.1 c.loop-i-test.true).0)

pub loop-i-preserved : goal.loop-i-preserved
unfolding sum
loop-i-preserved c =
    let p = c.args.timed.now in
    let i = c.loop-i.i in
    let r = c.loop-i.next in
    let t = c.loop-i.total in
    let v = c.loop-i.invariant in
    let h = c.loop-i-test.true in
    let o = (walk_holds p i r v.1 h).0 in
    let a = c.add-total.ensures in
    let n : c.add-total.result.number ≡ t.number + 1 = ap (λ (u : Totals). u.number) a.0 in
    let m : c.add-total.result.sum ≡ t.sum + r.size = ap (λ (u : Totals). u.sum) a.0 in (
      omega (arith, h),
      c.first_run-next-in-loop-i.ensures ∙ ap first_run (from_place (i + r.length) p),
      omega (arith, v.2, o, n),
      omega (arith, v.3, o, a.1),
      λ D. omega (arith, v.4 D, n, ap length (walk-next p i r v.1 h D)),
      λ D. omega (arith, v.5 D, m, ap sum (walk-next p i r v.1 h D)),
    )

pub returns : goal.returns
unfolding sum
returns c =
    let p = c.args.timed.now in
    let v = c.loop-i.invariant in
    let d = walk_ends p c.loop-i.i c.loop-i.next v.1 (omega (arith, c.loop-i-test.false)) in
    (λ D. omega (arith, v.4 D, ap length (d D)), λ D. omega (arith, v.5 D, ap sum (d D)))
