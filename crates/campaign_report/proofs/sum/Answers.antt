use Prim.Native.Nat.{◌-◌, ◌≤◌}
use native.Mathlib.Omega.{arith}
use lib.ListN.{get_or, length}
use borrow.Author.Rules.{rules}
use Rattle.truth.proofs.Laws.{holds}
use Rattle.campaign_state.specs.Kept.{Kept}
use Rattle.campaign_state.specs.State.{empty}
use Rattle.campaign_state.proofs.Relations.{kept_from}
use Rattle.campaign_condition.proofs.Front.{front_end}
use Rattle.campaign_condition.proofs.Whole.{Due, due}
use Rattle.campaign_report.proofs.Sums.{ended, on}
use Rattle.campaign_report.proofs.sum.Goals as goal

pub overflow_add-records : goal.overflow_add-records
overflow_add-records c =
    let due-at : let a = c.args in Due a.campaigns a.number c.loop-i.i = let a = c.args in
    let room : a.number ≤ length a.campaigns = search rules in
    due a.campaigns a.number c.loop-i.i room c.loop-i-test.true c.loop-i.invariant.1 in
    let kept : Kept (get_or c.args.campaigns c.loop-i.i (empty 0)) = kept_from _ (holds due-at.good) in
    omega (arith, (kept).records, c.loop-i.invariant.2.few_records, c.requires.0)

pub overflow_add-failures : goal.overflow_add-failures
overflow_add-failures c =
    let due-at : let a = c.args in Due a.campaigns a.number c.loop-i.i = let a = c.args in
    let room : a.number ≤ length a.campaigns = search rules in
    due a.campaigns a.number c.loop-i.i room c.loop-i-test.true c.loop-i.invariant.1 in
    let kept : Kept (get_or c.args.campaigns c.loop-i.i (empty 0)) = kept_from _ (holds due-at.good) in
    omega (arith, (kept).failures_rows, c.loop-i.invariant.2.few_failures, c.requires.0)

pub overflow_add-exposure : goal.overflow_add-exposure
overflow_add-exposure c =
    let due-at : let a = c.args in Due a.campaigns a.number c.loop-i.i = let a = c.args in
    let room : a.number ≤ length a.campaigns = search rules in
    due a.campaigns a.number c.loop-i.i room c.loop-i-test.true c.loop-i.invariant.1 in
    let kept : Kept (get_or c.args.campaigns c.loop-i.i (empty 0)) = kept_from _ (holds due-at.good) in
    omega (arith, (kept).records, (kept).exposure_high, c.loop-i.invariant.2.few_exposure, c.requires.0)

pub blocks-billed-requires : goal.blocks-billed-requires
blocks-billed-requires c =
    let due-at : let a = c.args in Due a.campaigns a.number c.loop-i.i = let a = c.args in
    let room : a.number ≤ length a.campaigns = search rules in
    due a.campaigns a.number c.loop-i.i room c.loop-i-test.true c.loop-i.invariant.1 in
    let kept : Kept (get_or c.args.campaigns c.loop-i.i (empty 0)) = kept_from _ (holds due-at.good) in
    (kept).failures_rows

pub loop-i-preserved : goal.loop-i-preserved
loop-i-preserved c =
    let due-at : let a = c.args in Due a.campaigns a.number c.loop-i.i = let a = c.args in
    let room : a.number ≤ length a.campaigns = search rules in
    due a.campaigns a.number c.loop-i.i room c.loop-i-test.true c.loop-i.invariant.1 in
    let kept : Kept (get_or c.args.campaigns c.loop-i.i (empty 0)) = kept_from _ (holds due-at.good) in
    let d = due-at in
    (omega arith, d.whole, rw c.blocks-billed.ensures (on d.next (kept) c.loop-i.invariant.2))

pub returns : goal.returns
returns c =
    let a = c.args in
    let room : a.number ≤ length a.campaigns = search rules in
    ended (front_end a.campaigns a.number room c.loop-i.i c.loop-i-test.false) c.loop-i.invariant.2
