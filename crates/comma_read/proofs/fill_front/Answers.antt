use Rattle.std.proofs.Common.{◌≡◌, ℕ, suc, ◌+◌, ◌*◌, ◌/◌, ◌%◌, ◌<◌, ◌≤◌, Bool, cond, eqb, leb, List, length, set, pos, sym, ap, ◌∙◌, mul-le-mul_right, arith, to_z-of_z, w32, SFits, rules, le-leb}
use Rattle.decimal.specs.Decimal.{digits_of}
use Rattle.degrees.specs.Degrees.{signed, largest_size}
use Rattle.comma_word.proofs.Plain.{plain_facts}
use Rattle.comma_line.proofs.At.{LineRead}
use Rattle.comma_read.specs.Roll.{AnyRoll, roll_size}
use Rattle.comma_read.proofs.PlainLine.{roll_read, roll_within}
use Rattle.comma_read.proofs.Along.{of_front, start, put_none, filled_on}
use Rattle.comma_read.proofs.Front.{First, forward, first, arrived}
use Rattle.comma_read.proofs.fill_front.Goals as goal
use Rattle.comma_read.proofs.fill_front.Goals.{After-form_of-roll, After-in_line-due, In-loop-count}

-- the line that is ahead
module _ (c : In-loop-count) where
  abbrev Text : List ℕ
  Text = c.args.text.now

  abbrev Time : ℕ
  Time = c.loop-count.due.time

  ahead : First Text c.args.step.ms c.loop-count.at Time c.args.front.at (0 + c.args.front.lines * c.args.step.ms)
  ahead = first c.loop-count.invariant.2 (omega (arith, mul-le-mul_right {m = suc c.loop-count.count} c.args.step.ms c.loop-count-test.true, c.loop-count.invariant.3, c.args.step.some))

module _ (c : After-in_line-due) where
  abbrev Text₂ : List ℕ
  Text₂ = c.args.text.now

  abbrev Time₂ : ℕ
  Time₂ = c.loop-count.due.time

  ahead₂ : First Text₂ c.args.step.ms c.loop-count.at Time₂ c.args.front.at (0 + c.args.front.lines * c.args.step.ms)
  ahead₂ = first c.loop-count.invariant.2 (omega (arith, mul-le-mul_right {m = suc c.loop-count.count} c.args.step.ms c.loop-count-test.true, c.loop-count.invariant.3, c.args.step.some))

module _ (c : After-form_of-roll) where
  abbrev Text₃ : List ℕ
  Text₃ = c.args.text.now

  abbrev Time₃ : ℕ
  Time₃ = c.loop-count.due.time

  ahead₃ : First Text₃ c.args.step.ms c.loop-count.at Time₃ c.args.front.at (0 + c.args.front.lines * c.args.step.ms)
  ahead₃ = first c.loop-count.invariant.2 (omega (arith, mul-le-mul_right {m = suc c.loop-count.count} c.args.step.ms c.loop-count-test.true, c.loop-count.invariant.3, c.args.step.some))

-- its time is this wide, and plain degrees stand after it
module _ (c : After-in_line-due) where
  wide : c.in_line-due.result.width ≡ length (digits_of (Time₂ c))
  wide = c.in_line-due.ensures.1 (ahead₂ c).this.line.is

  rolled : AnyRoll (Text₂ c) (c.loop-count.at + c.in_line-due.result.width)
  rolled = record { roll = (ahead₂ c).this.roll; found = rw (← wide) at (ahead₂ c).this.found }

module _ (c : After-form_of-roll) where
  wide₂ : c.in_line-due.result.width ≡ length (digits_of (Time₃ c))
  wide₂ = c.in_line-due.ensures.1 (ahead₃ c).this.line.is

  rolled₂ : AnyRoll (Text₃ c) (c.loop-count.at + c.in_line-due.result.width)
  rolled₂ = record { roll = (ahead₃ c).this.roll; found = rw (← wide₂) at (ahead₃ c).this.found }

-- what they are
module _ (c : After-form_of-roll) where
  abbrev Width : ℕ
  Width = c.in_line-due.result.width

  abbrev Roll : ℕ
  Roll = c.form_of-roll.result

  told : LineRead (Text₃ c) c.loop-count.at (Time₃ c) (eqb (Roll % 2) 1) (roll_size (Text₃ c) (c.loop-count.at + Width) Roll) (c.loop-count.at + Width + Roll / 2)
  told = roll_read (Text₃ c) c.loop-count.at Width c.form_of-roll.ensures (Time₃ c) (ahead₃ c).this.line.is (wide₂ c)

  ends : c.loop-count.at + Width + Roll / 2 ≤ length (Text₃ c)
  ends = roll_within (Text₃ c) c.loop-count.at Width c.form_of-roll.ensures

-- a sample of so few thousandths is in range
in_size_lem : (b : Bool) (n : ℕ) → n < 100000 → signed b n ≡ cond (leb n largest_size) (signed b n) (pos 0)
in_size_lem b n h = rw (le-leb n largest_size (omega arith))

pub loop-count-init : goal.loop-count-init
loop-count-init c = let a = c.args in (
  rw c.first-due.ensures (start a.step.ms a.text.now),
  put_none a.step.ms a.text.now 0 0 a.samples.now,
  rw c.first-due.ensures (forward c.requires.1),
  omega (arith, c.first-due.ensures),
)

pub in_line-due-requires : goal.in_line-due-requires
in_line-due-requires c = omega (arith, (ahead c).this.found.plain.room, c.loop-count.due.narrow.few)

pub overflow_add-comma : goal.overflow_add-comma
overflow_add-comma c = omega (arith, (rolled (goal.at.overflow_add-comma c).After-in_line-due).found.plain.room)

pub form_of-roll-requires : goal.form_of-roll-requires
form_of-roll-requires c = rolled (goal.at.form_of-roll-requires c).After-in_line-due

pub loop-count-preserved : goal.loop-count-preserved
loop-count-preserved c =
    let in-loop = (goal.at.loop-count-preserved c).In-loop-count in
    let b = (goal.at.loop-count-preserved c).After-form_of-roll in
    let fits : SFits w32 c.plain_sample.result = search rules in
    let size = (plain_facts (Text in-loop) _ c.form_of-roll.ensures.plain).small in
    let stored = c.store.ensures ∙ ap (set c.loop-count.samples c.loop-count.count) (to_z-of_z fits ∙
    c.plain_sample.ensures ∙ in_size_lem (eqb (Roll b % 2) 1) (roll_size (Text in-loop) (c.loop-count.at + Width b)
    (Roll b)) size) in
    let on = filled_on c.loop-count.invariant.0 (told b) c.requires.0 c.args.step.few c.loop-count.invariant.1 stored in
    let a = ahead in-loop in (
      rw (c.after-due.ensures, c.in_line-due.ensures.0) on.0,
      on.1,
      rw (c.after-due.ensures, c.in_line-due.ensures.0) (rw (a.this.line.place ∙ sym (told b).place) at a.others),
      omega (arith, c.after-due.ensures, c.in_line-due.ensures.0, c.loop-count.invariant.3),
    )

pub after-due-requires : goal.after-due-requires
after-due-requires c = omega (arith, c.in_line-due.ensures.0, c.loop-count.invariant.0.due, c.args.step.few)

pub returns : goal.returns
returns c =
    let here : c.loop-count.at ≡ c.args.front.at = arrived c.loop-count.invariant.2 (omega (arith, mul-le-mul_right {m = c.args.front.lines} c.args.step.ms c.loop-count-test.false, c.loop-count.invariant.3)) c.args.step.some in
    let count : c.loop-count.count ≡ c.args.front.lines = omega (arith, rw here at c.loop-count.invariant.0.number, (of_front c.requires.1 c.args.step.few).number) in
    rw (← here, ← count) (c.loop-count.invariant.1.left c.requires.0)
