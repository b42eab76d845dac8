use Rattle.std.proofs.Common.{ℕ, ◌+◌, ◌*◌, ◌<◌, cond, eqb, leb, List, drop, sym, ap, subst, ◌∙◌, arith}
use Rattle.degrees.specs.Degrees.{largest_size}
use Rattle.comma_read.proofs.Lines.{turn}
use Rattle.comma_line.proofs.At.{LineRead, line_read, line_wrong}
use Rattle.comma_read.proofs.Along.{Along, of_front, on, lines_ahead, all_on, stopped, ended}
use Rattle.comma_read.proofs.survey.Goals as goal
use Rattle.comma_read.proofs.survey.Goals.{After-plain_lines-run, In-Some}

-- the plain lines are passed
module _ (c : After-plain_lines-run) where
  gone : Along c.args.step.ms c.args.text.now
      c.plain_lines-run.result.at (c.loop-at.due.time + c.plain_lines-run.result.lines *
      c.args.step.ms) (c.loop-at.count + c.plain_lines-run.result.lines)
      (cond (eqb c.loop-at.sound c.loop-at.count) (c.loop-at.sound + c.plain_lines-run.result.lines)
      c.loop-at.sound)
  gone = all_on c.loop-at.invariant (rw c.at-due.ensures.0 at c.plain_lines-run.ensures) c.args.step.few

-- what the line reader said of the line after them
module _ (c : In-Some) where
  abbrev Text : List ℕ
  Text = c.args.text.now

  abbrev At : ℕ
  At = c.plain_lines-run.result.at

  abbrev Due : ℕ
  Due = c.loop-at.due.time + c.plain_lines-run.result.lines * c.args.step.ms

  abbrev Next : ℕ
  Next = c.in-Some.end

  read : LineRead Text At Due c.in-Some.field-0-0 c.in-Some.size Next
  read =
      subst (λ (t : ℕ). LineRead Text At t c.in-Some.field-0-0 c.in-Some.size Next)
      (c.after-due.ensures ∙ ap (λ (t : ℕ). t + c.plain_lines-run.result.lines * c.args.step.ms) c.at-due.ensures.0)
      (line_read Text At c.after-due.result.time _ _ Next (sym c.line_at.ensures ∙ c.in-Some.is))

  further : At < Next
  further = omega (arith, read.place, (turn Due (drop At Text) read.is).some)

pub overflow_mul-front : goal.overflow_mul-front
overflow_mul-front c = omega (arith, (of_front c.requires c.args.step.few).due)

pub loop-at-init : goal.loop-at-init
loop-at-init c = rw c.first-due.ensures (of_front c.requires c.args.step.few)

pub carried-sound-requires : goal.carried-sound-requires
carried-sound-requires c = omega (arith, (gone c).few, (gone c).within, c.loop-at.invariant.low)

pub overflow_add-count : goal.overflow_add-count
overflow_add-count c =
    let g = gone (goal.at.overflow_add-count c).After-plain_lines-run in omega (arith, g.few, g.within)

pub overflow_mul-run : goal.overflow_mul-run
overflow_mul-run c =
    omega (arith, (gone (goal.at.overflow_mul-run c).After-plain_lines-run).due)

pub after-due-requires : goal.after-due-requires
after-due-requires c =
    omega (arith, (gone (goal.at.after-due-requires c).After-plain_lines-run).due, c.at-due.ensures.0)

pub returns-then-text-at : goal.returns-then-text-at
returns-then-text-at c =
    rw c.carried-sound.ensures (ended (gone (goal.at.returns-then-text-at c).After-plain_lines-run) c.if-text-at.true)

pub returns-in_default : goal.returns-in_default
returns-in_default c =
    stopped (gone (goal.at.returns-in_default c).After-plain_lines-run) c.if-text-at.false
    (rw (c.after-due.ensures, c.at-due.ensures.0) at (line_wrong _ c.plain_lines-run.result.at c.after-due.result.time (sym c.line_at.ensures ∙ c.in_default.is)))

pub tallied-sound-requires : goal.tallied-sound-requires
tallied-sound-requires c =
    let at1 = (goal.at.tallied-sound-requires c).After-plain_lines-run in
    (rw c.carried-sound.ensures (gone at1).low, omega (arith, (gone at1).few, c.if-text-at.false))

pub overflow_add-count-in-loop-at : goal.overflow_add-count-in-loop-at
overflow_add-count-in-loop-at c =
    omega (arith, (gone (goal.at.overflow_add-count-in-loop-at c).After-plain_lines-run).few, c.if-text-at.false)

pub after-due-requires-in-loop-at : goal.after-due-requires-in-loop-at
after-due-requires-in-loop-at c =
    omega (arith, (gone (goal.at.after-due-requires-in-loop-at c).After-plain_lines-run).due, c.after-due.ensures, c.at-due.ensures.0, c.args.step.few)

pub loop-at-smaller : goal.loop-at-smaller
loop-at-smaller c =
    omega (arith, further (goal.at.loop-at-smaller c).In-Some, lines_ahead c.plain_lines-run.ensures, c.loop-at-test.true)

pub loop-at-preserved : goal.loop-at-preserved
loop-at-preserved c =
    let d = (goal.at.loop-at-preserved c).In-Some in
    rw (
      c.tallied-sound.ensures,
      c.carried-sound.ensures,
      c.after-due-in-loop-at.ensures,
      c.after-due.ensures,
      c.at-due.ensures.0,
      (read d).place,
    ) (on (gone (goal.at.loop-at-preserved c).After-plain_lines-run) (read d).is c.args.step.few _ (ap (λ n. leb n largest_size)
    (sym (read d).value)))

pub returns : goal.returns
returns c = ended c.loop-at.invariant c.loop-at-test.false
