use mathlib.Core.Path.{◌≡◌, ap, sym, ◌∙◌}
use mathlib.Core.Bool.{Bool, cond}
use Prim.Native.Nat.{◌+◌, ◌<◌}
use native.Mathlib.Omega.{arith}
use lib.IntN.{ℤ, pos}
use lib.ListN.{length, get_or}
use mir.Facts.{to_z-of_z}
use mir.Syntax.{w32}
use mir.Val.{SFits}
use borrow.Author.Rules.{rules}
use Rattle.truth.proofs.Answers.{handed_on}
use Rattle.record_end.specs.declared.Outcome.{Outcome}
use Rattle.sheet_records.specs.Answers.{judged_one}
use Rattle.sheet_records.specs.Ledger.{exposure_in, failed_in, outcome_in}
use Rattle.sheet_records.proofs.Judging.{bad_standard, decides, ended, few_failures, on, start}
use Rattle.sheet_records.proofs.judge.Goals as goal
use Rattle.sheet_records.proofs.judge.Goals.{After-judge_one}

-- the record that is judged
module _ (c : After-judge_one) where
  abbrev X : ℤ
  X = get_or c.args.records.now c.loop-i.i (pos 0)

  inside : c.loop-i.i < length c.args.records.now
  inside = c.loop-i-test.true

  is : c.outcome-o.result ≡ outcome_in X
  is = let f : SFits w32 X = search rules in rw (to_z-of_z f) at c.outcome-o.ensures

  failed : c.outcome-o.result.failed ≡ failed_in X
  failed = ap (λ (o : Outcome). o.failed) is

  says : c.judge_one.result ≡ judged_one c.loop-i.i c.loop-i.failures (exposure_in X)
  says = c.judge_one.ensures ∙ ap (λ (o : Outcome). judged_one c.loop-i.i c.loop-i.failures o.exposure) is

pub returns-then-not-both : goal.returns-then-not-both
returns-then-not-both c = bad_standard _ _ (sym c.both.ensures ∙ c.if-not-both.true)

pub loop-i-init : goal.loop-i-init
loop-i-init c = start _ _ (sym c.both.ensures ∙ c.if-not-both.false)

pub returns-in_err-judge_one : goal.returns-in_err-judge_one
returns-in_err-judge_one c =
    let j = (goal.at.returns-in_err-judge_one c).After-judge_one in
    rw (handed_on _ c.from_residual.ensures) (decides c.loop-i.invariant (inside j) _ (sym (says j) ∙ c.in_err-judge_one.was))

pub overflow_add-failures : goal.overflow_add-failures
overflow_add-failures c =
    omega (arith, few_failures c.loop-i.invariant)

pub loop-i-preserved : goal.loop-i-preserved
loop-i-preserved c =
    let j = (goal.at.loop-i-preserved c).After-judge_one in
    let grown = c.pick-failures.ensures ∙ ap (λ (f : Bool). cond f (c.loop-i.failures + 1) c.loop-i.failures) (failed j) in
    rw grown (on c.loop-i.invariant (inside j) (sym (says j) ∙ c.in_ok-judge_one.was))

pub returns : goal.returns
returns c = ended c.loop-i.invariant c.loop-i-test.false
