use Rattle.std.proofs.Common.{◌≡◌, ◌+◌, ◌≤◌, true, not, eqb, length, drop, set, sym, ap, ◌∙◌, arith, to_z-of_z, w32, SFits, rules}
use Rattle.decimal.specs.Decimal.{digits_of}
use Rattle.decimal.proofs.Text.{digits_below}
use Rattle.degrees.proofs.Signs.{degrees_read}
use Rattle.comma_line.specs.Line.{right}
use Rattle.comma_word.specs.Plain.{Plain}
use Rattle.comma_word.proofs.Plain.{plain_of, plain_size_lem, plain_read}
use Rattle.comma_line.proofs.At.{LineRead}
use Rattle.comma_read.proofs.Times.{line_by_roll, roll_good}
use Rattle.comma_read.proofs.Along.{of_front, all_right, put_none, put_all, filled_place, filled_on}
use Rattle.comma_read.proofs.fill_rest.Goals as goal
use Rattle.comma_read.proofs.fill_rest.Goals.{After-size_at, After-at-due, In-Some}

-- the line is right
good : (c : After-at-due) → right c.loop-at.due.time (drop c.loop-at.at c.args.text.now) ≡ true
good c =
    all_right c.loop-at.invariant.0 c.requires.0 c.loop-at-test.true

good₂ : (c : After-size_at) → right c.loop-at.due.time (drop c.loop-at.at c.args.text.now) ≡ true
good₂ c =
    all_right c.loop-at.invariant.0 c.requires.0 c.loop-at-test.true

good₃ : (c : In-Some) → right c.loop-at.due.time (drop c.loop-at.at c.args.text.now) ≡ true
good₃ c =
    all_right c.loop-at.invariant.0 c.requires.0 c.loop-at-test.true

-- and its time is this wide
wide : (c : After-at-due) → c.at-due.result.width ≡ length (digits_of c.loop-at.due.time)
wide c = c.at-due.ensures.1 (good c)

wide₂ : (c : After-size_at) → c.at-due.result.width ≡ length (digits_of c.loop-at.due.time)
wide₂ c = c.at-due.ensures.1 (good₂ c)

wide₃ : (c : In-Some) → c.at-due.result.width ≡ length (digits_of c.loop-at.due.time)
wide₃ c = c.at-due.ensures.1 (good₃ c)

narrow : (c : After-at-due) → c.at-due.result.width ≤ 13
narrow c = let l = c.loop-at in omega (arith, wide c, digits_below 12 l.due.time (omega (arith, l.invariant.0.due)))

-- what the reader of degrees said of it
told : (c : In-Some) → let m = c.in-Some in
    LineRead c.args.text.now c.loop-at.at c.loop-at.due.time m.minus m.size (m.next + 1)
told c =
    let s = c.args.text.now in
    line_by_roll s c.loop-at.at c.loop-at.due.time c.at-due.result.width (good₃ c) (wide₃ c)
    (degrees_read s (c.loop-at.at + c.at-due.result.width + 1) _ _ _ (sym c.degrees_at.ensures ∙ c.in-Some.is))

-- or that it is plain
plain : (c : After-size_at) → Plain c.args.text.now c.past_minus-from.result c.bytes_at-bytes.result
plain c = plain_of _ _ c.bytes_at-bytes.ensures (omega (arith, c.if-bytes-eq0.false))

plainly : (c : After-size_at) →
    LineRead c.args.text.now c.loop-at.at c.loop-at.due.time (not (eqb c.past_minus-from.result
    (c.loop-at.at + c.at-due.result.width + 1))) c.size_at.result (c.past_minus-from.result +
    c.bytes_at-bytes.result + 1)
plainly c =
    let s = c.args.text.now in
    let roll = c.loop-at.at + c.at-due.result.width + 1 in
    rw (c.size_at.ensures, plain_size_lem s _ (plain c))
    (line_by_roll s c.loop-at.at c.loop-at.due.time c.at-due.result.width (good₂ c) (wide₂ c)
    (degrees_read s roll _ _ _ (sym (plain_read s roll c.past_minus-from.result c.past_minus-from.ensures (plain c)))))

pub overflow_mul-front : goal.overflow_mul-front
overflow_mul-front c = omega (arith, (of_front c.requires.1 c.args.step.few).due)

pub loop-at-init : goal.loop-at-init
loop-at-init c = let a = c.args in (rw c.first-due.ensures (of_front c.requires.1 c.args.step.few), put_none a.step.ms a.text.now a.front.at a.front.lines a.samples.now)

pub overflow_add-roll : goal.overflow_add-roll
overflow_add-roll c = omega (arith, narrow (goal.at.overflow_add-roll c).After-at-due, c.loop-at-test.true)

pub overflow_add-roll-in-loop-at : goal.overflow_add-roll-in-loop-at
overflow_add-roll-in-loop-at c = omega (arith, narrow (goal.at.overflow_add-roll-in-loop-at c).After-at-due, c.loop-at-test.true)

pub returns-in_default : goal.returns-in_default
returns-in_default c =
    let w = (goal.at.returns-in_default c).After-at-due in
    absurd (roll_good _ c.loop-at.at
    c.loop-at.due.time c.at-due.result.width (good w) (wide w) (sym c.degrees_at.ensures
    ∙ c.in_default.is))

pub overflow_add-at : goal.overflow_add-at
overflow_add-at c =
    omega (arith, (filled_place c.loop-at.invariant.0 (told (goal.at.overflow_add-at c).In-Some)).1)

pub loop-at-smaller-then-bytes-eq0 : goal.loop-at-smaller-then-bytes-eq0
loop-at-smaller-then-bytes-eq0 c =
    omega (arith, (filled_place c.loop-at.invariant.0 (told (goal.at.loop-at-smaller-then-bytes-eq0 c).In-Some)).0, c.loop-at-test.true)

pub loop-at-preserved-then-bytes-eq0 : goal.loop-at-preserved-then-bytes-eq0
loop-at-preserved-then-bytes-eq0 c =
    let f : SFits w32 c.sample.result = search rules in
    let stored = c.put.ensures ∙ ap (set c.loop-at.samples c.loop-at.count) (to_z-of_z f ∙ c.sample.ensures) in
    let on = filled_on c.loop-at.invariant.0 (told (goal.at.loop-at-preserved-then-bytes-eq0 c).In-Some) c.requires.0 c.args.step.few c.loop-at.invariant.1 stored in
    (rw (c.after-due.ensures, c.at-due.ensures.0) on.0, on.1)

pub after-due-requires : goal.after-due-requires
after-due-requires c = omega (arith, c.at-due.ensures.0, c.loop-at.invariant.0.due, c.args.step.few)

pub after-due-requires-in-loop-at : goal.after-due-requires-in-loop-at
after-due-requires-in-loop-at c = omega (arith, c.at-due.ensures.0, c.loop-at.invariant.0.due, c.args.step.few)

pub overflow_add-at-in-loop-at : goal.overflow_add-at-in-loop-at
overflow_add-at-in-loop-at c =
    omega (arith, (filled_place c.loop-at.invariant.0 (plainly (goal.at.overflow_add-at-in-loop-at c).After-size_at)).1)

pub overflow_add-at-in-loop-at-2 : goal.overflow_add-at-in-loop-at-2
overflow_add-at-in-loop-at-2 c =
    omega (arith, (filled_place c.loop-at.invariant.0 (plainly (goal.at.overflow_add-at-in-loop-at-2 c).After-size_at)).1)

pub loop-at-preserved : goal.loop-at-preserved
loop-at-preserved c =
    let f : SFits w32 c.sample-in-loop-at.result = search rules in
    let stored = c.put-in-loop-at.ensures ∙ ap (set c.loop-at.samples c.loop-at.count) (to_z-of_z f ∙ c.sample-in-loop-at.ensures) in
    let on = filled_on c.loop-at.invariant.0 (plainly (goal.at.loop-at-preserved c).After-size_at) c.requires.0 c.args.step.few c.loop-at.invariant.1 stored in
    (rw (c.after-due-in-loop-at.ensures, c.at-due.ensures.0) on.0, on.1)

pub returns : goal.returns
returns c =
    put_all c.loop-at.invariant.0 c.loop-at.invariant.1 c.loop-at-test.false c.requires.0
