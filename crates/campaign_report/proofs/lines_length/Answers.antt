use Prim.Native.Nat.{◌+◌, ◌-◌, ◌≤◌}
use mathlib.Core.Path.{◌≡◌, ap, ◌∙◌}
use mathlib.Core.List.{List}
use native.Mathlib.Omega.{arith}
use lib.ListN.{drop, get_or, length, take}
use borrow.Author.Rules.{rules}
use Rattle.campaign_state.specs.declared.Campaign.{Campaign}
use Rattle.campaign_state.specs.State.{empty}
use Rattle.campaign_condition.proofs.Front.{front_end}
use Rattle.campaign_condition.proofs.Whole.{Due, due}
use Rattle.campaign_report.specs.Report.{lines_from}
use Rattle.campaign_report.proofs.Texts.{lines_none, next_bytes}
use Rattle.campaign_report.proofs.lines_length.Goals as goal

pub line_length-requires : goal.line_length-requires
line_length-requires c =
    let due-at : let a = c.args in Due a.campaigns a.number c.loop-i.i = let a = c.args in
    let room : a.number ≤ length a.campaigns = search rules in
    due a.campaigns a.number _ room c.loop-i-test.true c.loop-i.invariant.1 in
    (due-at).good

pub loop-i-preserved : goal.loop-i-preserved
loop-i-preserved c =
    let due-at : let a = c.args in Due a.campaigns a.number c.loop-i.i = let a = c.args in
    let room : a.number ≤ length a.campaigns = search rules in
    due a.campaigns a.number _ room c.loop-i-test.true c.loop-i.invariant.1 in
    let a = c.args in
    let i = c.loop-i.i in
    let d = due-at in
    let left = ap (λ (cs : List Campaign). length (lines_from (i + 1) cs)) d.next ∙ next_bytes (i + 1) (get_or a.campaigns i (empty 0)) (drop (i + 1) (take a.number a.campaigns)) in
    (omega arith, d.whole, omega (arith, left, c.line_length.ensures.0, c.loop-i.invariant.2), omega (arith, c.line_length.ensures.1, c.loop-i.invariant.3))

pub returns : goal.returns
returns c =
    let a = c.args in
    let i = c.loop-i.i in
    let room : a.number ≤ length a.campaigns = search rules in
    let none : length (lines_from (i + 1) (drop i (take a.number a.campaigns))) ≡ 0 = ap (λ (cs : List Campaign).
    length (lines_from (i + 1) cs)) (front_end a.campaigns a.number room i c.loop-i-test.false) ∙
    ap length (lines_none (i + 1)) in
    (omega (arith, none, c.loop-i.invariant.2), omega (arith, c.loop-i.invariant.3, c.requires.0))
