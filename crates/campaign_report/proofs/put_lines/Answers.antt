use Prim.Native.Nat.{ℕ, ◌+◌, ◌-◌, ◌≤◌}
use mathlib.Core.Path.{◌≡◌, ap, subst, ◌∙◌}
use mathlib.Core.List.{List, [], ◌++◌}
use native.Mathlib.Omega.{arith}
use lib.ListN.{drop, get_or, length, take}
use borrow.Author.Rules.{rules}
use Rattle.campaign_state.specs.declared.Campaign.{Campaign}
use Rattle.campaign_state.specs.State.{empty}
use Rattle.text.proofs.Parts.{Left, left_all, left_next, left_room, left_wrote}
use Rattle.campaign_condition.proofs.Front.{front_end}
use Rattle.campaign_condition.proofs.Whole.{Due, due}
use Rattle.campaign_report.specs.Report.{situation_text, lines_from}
use Rattle.campaign_report.proofs.Texts.{lines_next, lines_none}
use Rattle.campaign_report.proofs.put_lines.Goals as goal

pub loop-i-init : goal.loop-i-init
loop-i-init c =
    (omega arith, c.requires.1, left_all _ 0 _ (omega (arith, c.requires.2)))

pub put_line-place-requires : goal.put_line-place-requires
put_line-place-requires c =
    let X : Campaign = get_or c.args.campaigns c.loop-i.i (empty 0) in
    let due-at : Due c.args.campaigns c.args.number c.loop-i.i = let room : c.args.number ≤ length c.args.campaigns = search rules in
    due c.args.campaigns c.args.number c.loop-i.i room c.loop-i-test.true c.loop-i.invariant.1 in
    let Situations : List Campaign = take c.args.number c.args.campaigns in
    let Stands : List ℕ → Type 0 = λ rest. Left c.args.out.now 0 (lines_from 1 Situations) rest c.loop-i.out c.loop-i.place in
    let here : Stands (situation_text (c.loop-i.i + 1) X ++ lines_from (c.loop-i.i + 1 + 1) (drop (c.loop-i.i + 1) Situations)) = subst Stands
    (ap (lines_from (c.loop-i.i + 1)) due-at.next ∙ lines_next (c.loop-i.i + 1) X (drop (c.loop-i.i + 1) Situations))
    c.loop-i.invariant.2 in
    ((due-at).good, left_room (situation_text (c.loop-i.i + 1) (X)) _ (here))

pub loop-i-preserved : goal.loop-i-preserved
loop-i-preserved c =
    let X : Campaign = get_or c.args.campaigns c.loop-i.i (empty 0) in
    let due-at : Due c.args.campaigns c.args.number c.loop-i.i = let room : c.args.number ≤ length c.args.campaigns = search rules in
    due c.args.campaigns c.args.number c.loop-i.i room c.loop-i-test.true c.loop-i.invariant.1 in
    let Situations : List Campaign = take c.args.number c.args.campaigns in
    let Stands : List ℕ → Type 0 = λ rest. Left c.args.out.now 0 (lines_from 1 Situations) rest c.loop-i.out c.loop-i.place in
    let here : Stands (situation_text (c.loop-i.i + 1) X ++ lines_from (c.loop-i.i + 1 + 1) (drop (c.loop-i.i + 1) Situations)) = subst Stands
    (ap (lines_from (c.loop-i.i + 1)) due-at.next ∙ lines_next (c.loop-i.i + 1) X (drop (c.loop-i.i + 1) Situations))
    c.loop-i.invariant.2 in
    (omega arith, (due-at).whole, left_next (situation_text (c.loop-i.i + 1) (X)) _ (here) (c.put_line-place.ensures.value, c.put_line-place.ensures.out_after))

pub returns : goal.returns
returns c =
    let a = c.args in
    let room : a.number ≤ length a.campaigns = search rules in
    let none : lines_from (c.loop-i.i + 1) (drop c.loop-i.i (take a.number a.campaigns)) ≡ [] =
    ap (lines_from (c.loop-i.i + 1)) (front_end a.campaigns a.number room c.loop-i.i c.loop-i-test.false) ∙
    lines_none (c.loop-i.i + 1) in
    let whole = left_wrote (subst (λ (rest : List ℕ). Left a.out.now 0 (lines_from 1 (take a.number a.campaigns)) rest c.loop-i.out c.loop-i.place) none c.loop-i.invariant.2) in record { value = whole.0; out_after = whole.1 }
