-- `comma_write::write` meets its contract: each refusal has the tests that led to it, and then the text is put. Assumes
-- nothing.
use mathlib.Core.Path.{◌≡◌, refl, sym, ◌∙◌}
use mathlib.Core.Bool.{true, false}
use mathlib.Core.List.{List}
use Prim.Native.Nat.{ℕ, ◌^◌, ◌≤◌}
use native.Mathlib.Omega.{arith}
use lib.Dec.{leb}
use lib.IntN.{ℤ}
use lib.ListN.{length}
use borrow.Author.Tests.{leb-true}
use Rattle.truth.proofs.Laws.{and-true}
use Rattle.sample_items.specs.Limits.{step_in_range}
use Rattle.sample_range.specs.Range.{first_bad}
use Rattle.text.specs.Write.{laid_by}
use Rattle.text.proofs.Laws.{laid_front}
use Rattle.decimal.specs.Decimal.{longest}
use Rattle.comma_line.specs.Text.{text_of}
use Rattle.comma_write.specs.Answers.{last_time}
use Rattle.comma_write.proofs.Puts.{bad_step, bad_sample, too_late, no_room, all_written}
use Rattle.comma_write.proofs.write.Goals as goal
use Rattle.comma_write.proofs.write.Goals.{After-too_long, Else-bad-samples, Else-not-step_in_range, Else-too_long}

-- the step is in range
module _ (c : Else-not-step_in_range) where
  abbrev Step : ℕ
  Step = c.args.step

  abbrev Samples : List ℤ
  Samples = c.args.samples.now

  abbrev Out : List ℕ
  Out = c.args.out.now

  step : step_in_range Step ≡ true
  step = (sym c.step_in_range.ensures ∙ c.if-not-step_in_range.false)

  some : 1 ≤ Step
  some = leb-true 1 Step (and-true (leb 1 Step) (leb Step 10000) step).0

  small : Step ≤ 10000
  small = leb-true Step 10000 (and-true (leb 1 Step) (leb Step 10000) step).1

-- no sample is out of range, and the times are short
good : (c : Else-bad-samples) → length c.args.samples.now ≤ first_bad c.args.samples.now
good c = omega (arith, c.first_bad-bad.ensures, c.if-bad-samples.false)

late : (c : After-too_long) → c.too_long.result ≡ leb (10 ^ longest) (last_time c.args.step c.args.samples.now)
late c = c.too_long.ensures

late₂ : (c : Else-too_long) → c.too_long.result ≡ leb (10 ^ longest) (last_time c.args.step c.args.samples.now)
late₂ c = c.too_long.ensures

short : (c : Else-too_long) → leb (10 ^ longest) (last_time c.args.step c.args.samples.now) ≡ false
short c = sym (late₂ c) ∙ c.if-too_long.false

pub returns-then-not-step_in_range : goal.returns-then-not-step_in_range
unfolding laid_by
returns-then-not-step_in_range c = let a = c.args in
    record { value = bad_step a.step a.samples.now a.out.now (sym c.step_in_range.ensures ∙ c.if-not-step_in_range.true); out_after = refl }

pub returns-then-bad-samples : goal.returns-then-bad-samples
unfolding laid_by
returns-then-bad-samples c =
    let e = (goal.at.returns-then-bad-samples c).Else-not-step_in_range in
    record { value = rw c.first_bad-bad.ensures (bad_sample (Step e) (Samples e) (Out e) (step e) (omega (arith, c.first_bad-bad.ensures, c.if-bad-samples.true))); out_after = refl }

pub returns-then-too_long : goal.returns-then-too_long
unfolding laid_by
returns-then-too_long c =
    let e = (goal.at.returns-then-too_long c).Else-not-step_in_range in
    record { value = too_late (Step e) (Samples e) (Out e) (step e) (good (goal.at.returns-then-too_long c).Else-bad-samples) (sym (late (goal.at.returns-then-too_long c).After-too_long) ∙ c.if-too_long.true); out_after = refl }

pub returns-then-out-needed : goal.returns-then-out-needed
unfolding laid_by
returns-then-out-needed c =
    let e = (goal.at.returns-then-out-needed c).Else-not-step_in_range in
    record { value = rw c.text_length-needed.ensures (no_room (Step e) (Samples e) (Out e) (step e) (good (goal.at.returns-then-out-needed c).Else-bad-samples) (short (goal.at.returns-then-out-needed c).Else-too_long) (omega (arith, c.text_length-needed.ensures, c.if-out-needed.true))); out_after = refl }

pub returns : goal.returns
returns c =
    let e = (goal.at.returns c).Else-not-step_in_range in
    record { value = rw c.text_length-needed.ensures (all_written (Step e) (Samples e) (Out e) (step e) (good (goal.at.returns c).Else-bad-samples) (short (goal.at.returns c).Else-too_long) (omega (arith, c.text_length-needed.ensures, c.if-out-needed.false))); out_after = rw c.text_length-needed.ensures (c.put_text.ensures ∙ laid_front (Out e) (text_of (Step e) (Samples e))) }
