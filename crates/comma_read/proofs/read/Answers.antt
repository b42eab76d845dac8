-- `comma_read::read` meets its contract: the survey decides the answer, and where all is well the samples are put.
-- Assumes nothing.
use Rattle.std.proofs.Common.{◌≡◌, ℕ, ◌≤◌, true, List, length, sym, refl, ◌∙◌, arith}
use Rattle.sample_items.specs.Limits.{step_in_range}
use Rattle.sample_items.proofs.Ranges.{high}
use Rattle.decimal.specs.Lines.{lines_of}
use Rattle.comma_read.specs.Survey.{AllGood}
use Rattle.comma_read.specs.Answers.{filled_by}
use Rattle.comma_read.proofs.Answered.{FoundWrong, FoundRight, lines_few, found_wrong, found_right, bad_step, wrong_line, bad_sample, no_room, all_read, samples_put}
use Rattle.comma_read.proofs.Along.{of_front}
use Rattle.comma_read.proofs.read.Goals as goal
use Rattle.comma_read.proofs.read.Goals.{After-survey, Else-not-step_in_range, In-Ok, In-Err}

-- the step is in range
step : (c : Else-not-step_in_range) → step_in_range c.args.step ≡ true
step c = (sym c.step_in_range.ensures ∙ c.if-not-step_in_range.false)

step₂ : (c : In-Ok) → step_in_range c.args.step ≡ true
step₂ c = (sym c.step_in_range.ensures ∙ c.if-not-step_in_range.false)

small : (c : In-Ok) → c.args.step ≤ 10000
small c = high 1 10000 _ (step₂ c)

-- and this was found
module _ (c : After-survey) where
  abbrev Found : List (List ℕ)
  Found = lines_of c.args.text.now

  abbrev Places : ℕ
  Places = length c.args.samples.now

module _ (c : In-Ok) where
  abbrev Found₂ : List (List ℕ)
  Found₂ = lines_of c.args.text.now

  abbrev Places₂ : ℕ
  Places₂ = length c.args.samples.now

module _ (c : In-Err) where
  abbrev Found₃ : List (List ℕ)
  Found₃ = lines_of c.args.text.now

  abbrev Places₃ : ℕ
  Places₃ = length c.args.samples.now

right-found : (c : In-Ok) → FoundRight c.args.step (Found₂ c) c.in-Ok.count c.in-Ok.sound
right-found c =
    found_right _ (Found₂ c) _ _ (sym c.survey.ensures ∙ c.in-Ok.is)

wrong-found : (c : In-Err) → FoundWrong c.args.step (Found₃ c) c.in-Err.lines
wrong-found c =
    found_wrong _ (Found₃ c) _ (sym c.survey.ensures ∙ c.in-Err.is)

-- the front has no more lines than the text
fewer : (c : In-Ok) → c.plain_front-front.result.lines ≤ c.in-Ok.count
fewer c =
    omega (arith, (of_front c.plain_front-front.ensures (small c)).number, (right-found c).number)

all_good : (c : In-Ok) → c.in-Ok.count ≤ c.in-Ok.sound → AllGood c.args.step (Found₂ c)
all_good c all = let r = right-found c in record { right = r.all ∙ sym r.number; in_range = omega (arith, r.bad, r.number, r.low, all) }

pub returns-then-not-step_in_range : goal.returns-then-not-step_in_range
unfolding filled_by
returns-then-not-step_in_range c =
    let a = c.args in
    record { value = bad_step a.step (lines_of a.text.now) (length a.samples.now) (sym c.step_in_range.ensures ∙ c.if-not-step_in_range.true); samples_after = refl }

pub overflow_add-result : goal.overflow_add-result
overflow_add-result c =
    omega (arith, (wrong-found (goal.at.overflow_add-result c).In-Err).some, lines_few c.args.text.now)

pub returns-then-sound-count : goal.returns-then-sound-count
unfolding filled_by
returns-then-sound-count c =
    let s = (goal.at.returns-then-sound-count c).After-survey in
    record { value = bad_sample c.args.step (Found s) (Places s) (step (goal.at.returns-then-sound-count c).Else-not-step_in_range) _ _ (right-found (goal.at.returns-then-sound-count c).In-Ok) c.if-sound-count.true; samples_after = refl }

pub returns-then-samples-count : goal.returns-then-samples-count
unfolding filled_by
returns-then-samples-count c =
    let s = (goal.at.returns-then-samples-count c).After-survey in
    record {
      value = no_room c.args.step
          (Found s) (Places s) (step (goal.at.returns-then-samples-count c).Else-not-step_in_range) _ _ (right-found (goal.at.returns-then-samples-count c).In-Ok) c.if-sound-count.false c.if-samples-count.true;
      samples_after = refl;
    }

pub fill-requires : goal.fill-requires
fill-requires c =
    let k = (goal.at.fill-requires c).In-Ok in (
      all_good k c.if-sound-count.false,
      c.plain_front-front.ensures,
      omega (arith, fewer k, c.if-samples-count.false),
    )

pub returns-in-Err : goal.returns-in-Err
unfolding filled_by
returns-in-Err c =
    let s = (goal.at.returns-in-Err c).After-survey in
    record { value = wrong_line c.args.step (Found s) (Places s) (step (goal.at.returns-in-Err c).Else-not-step_in_range) _ (wrong-found (goal.at.returns-in-Err c).In-Err); samples_after = refl }

pub returns-else-samples-count : goal.returns-else-samples-count
returns-else-samples-count c =
    let s = (goal.at.returns-else-samples-count c).After-survey in
    let r = right-found (goal.at.returns-else-samples-count c).In-Ok in
    let all = c.if-sound-count.false in
    let room = c.if-samples-count.false in
    record { value = all_read c.args.step (Found s) (Places s) (step (goal.at.returns-else-samples-count c).Else-not-step_in_range) _ _ r all room; samples_after = c.fill.ensures ∙ samples_put (Found s) c.args.samples.now _ r.number room }
