-- `comma_read::take` meets its contract: a step out of range, lines after which no time has 12 digits, or the right
-- lines. Assumes nothing.
use Rattle.std.proofs.Common.{◌≡◌, true, refl, arith}
use Rattle.sample_items.specs.Limits.{step_in_range}
use Rattle.comma_read.specs.Taken.{lines_taken, taken_of, put_by}
use Rattle.comma_read.proofs.Going.{none_late}
use Rattle.comma_read.proofs.take.Goals as goal
use Rattle.comma_read.proofs.take.Goals.{Else-not-step_in_range}
use mathlib.Core.Path.{sym}
use mathlib.Core.Path.{◌∙◌}

pub returns-then-not-step_in_range : goal.returns-then-not-step_in_range
unfolding lines_taken put_by taken_of
returns-then-not-step_in_range c =
    record { value = rw (sym c.step_in_range.ensures ∙ c.if-not-step_in_range.true); samples_after = refl; result_bound = omega arith }

step : (c : Else-not-step_in_range) → step_in_range c.args.step ≡ true
step c = (sym c.step_in_range.ensures ∙ c.if-not-step_in_range.false)

pub returns-then-before-gt-MOST_LINES : goal.returns-then-before-gt-MOST_LINES
unfolding put_by taken_of
returns-then-before-gt-MOST_LINES c =
    let a = c.args in
    record { value = none_late a.step a.before a.text.now _ (step (goal.at.returns-then-before-gt-MOST_LINES c).Else-not-step_in_range) c.if-before-gt-MOST_LINES.true; samples_after = refl; result_bound = omega arith }
