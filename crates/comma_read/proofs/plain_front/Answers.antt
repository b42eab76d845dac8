use Rattle.std.proofs.Common.{◌+◌, ◌*◌, arith}
use Rattle.comma_read.specs.Plain.{PlainLines, none}
use Rattle.comma_read.proofs.Along.{Along, of_front, lines_ahead}
use Rattle.comma_read.proofs.Front.{run_after_run}
use Rattle.comma_read.proofs.plain_front.Goals as goal
use Rattle.comma_read.proofs.plain_front.Goals.{After-plain_lines-run}

-- the lines so far, those of the run with them
module _ (c : After-plain_lines-run) where
  passed : PlainLines c.args.text.now c.args.step.ms 0 0 c.plain_lines-run.result.at (c.loop-at.passed + c.plain_lines-run.result.lines)
  passed = run_after_run c.loop-at.invariant.0 (rw (c.at-due.ensures.0, c.loop-at.invariant.1) at c.plain_lines-run.ensures)

  gone : let n = c.loop-at.passed + c.plain_lines-run.result.lines in Along c.args.step.ms c.args.text.now c.plain_lines-run.result.at (n * c.args.step.ms) n n
  gone = of_front passed c.args.step.few

pub loop-at-init : goal.loop-at-init
loop-at-init c = (none, omega (arith, c.first-due.ensures))

pub overflow_add-passed : goal.overflow_add-passed
overflow_add-passed c =
    let g = gone (goal.at.overflow_add-passed c).After-plain_lines-run in omega (arith, g.few, g.within)

pub overflow_mul-run : goal.overflow_mul-run
overflow_mul-run c = omega (arith, (gone (goal.at.overflow_mul-run c).After-plain_lines-run).due)

pub after-due-requires : goal.after-due-requires
after-due-requires c =
    omega (arith, (gone (goal.at.after-due-requires c).After-plain_lines-run).due, c.at-due.ensures.0, c.loop-at.invariant.1)

pub loop-at-smaller : goal.loop-at-smaller
loop-at-smaller c =
    omega (arith, lines_ahead c.plain_lines-run.ensures, c.if-run-eq0.false, c.loop-at-test.true)

pub loop-at-preserved : goal.loop-at-preserved
loop-at-preserved c =
    (passed (goal.at.loop-at-preserved c).After-plain_lines-run, omega (arith, c.after-due.ensures, c.at-due.ensures.0, c.loop-at.invariant.1))
