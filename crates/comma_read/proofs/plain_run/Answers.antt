use Rattle.std.proofs.Common.{ℕ, ◌+◌, ◌-◌, ◌*◌, ◌/◌, ◌^◌, ◌≤◌, length, sym, ap, ◌∙◌, div-le_self, arith}
use Rattle.comma_word.specs.Dial.{each}
use Rattle.comma_word.proofs.Turn.{fits}
use Rattle.comma_read.specs.Roll.{PlainRoll}
use Rattle.comma_read.proofs.PlainLine.{roll_within}
use Rattle.comma_read.proofs.Running.{set_out, on_line}
use Rattle.comma_read.proofs.plain_run.Goals as goal
use Rattle.comma_read.proofs.plain_run.Goals.{Else-last-place, Else-roll-eq0}

-- there is room for a line
room : (c : Else-last-place) → c.loop-time.place + 17 ≤ length c.args.text.now
room c = omega (arith, c.if-last-place.false, c.requires.0)

-- the lines before this one, and plain degrees after its comma
module _ (c : Else-roll-eq0) where
  found : PlainRoll c.args.text.now (c.loop-time.place + c.args.due.width) c.plain_roll-roll.result
  found = c.plain_roll-roll.ensures (omega (arith, c.if-roll-eq0.false))

  ends : c.loop-time.place + c.args.due.width + c.plain_roll-roll.result / 2 ≤ length c.args.text.now
  ends = roll_within c.args.text.now c.loop-time.place c.args.due.width found

zeros-small : (k : ℕ) → 0x3030303030303030 / 2 ^ k ≤ 0x3030303030303030
zeros-small k = div-le_self 0x3030303030303030 (2 ^ k)

pub overflow_add-by : goal.overflow_add-by
unfolding each
overflow_add-by c =
    omega (arith, c.eight_digits-by.ensures, fits c.args.step.ms)

pub loop-time-init : goal.loop-time-init
loop-time-init c =
    set_out c.args.text.now c.args.step.ms c.args.at
    c.args.due.time c.args.due.width c.eight_digits-digits.result c.eight_digits-digits.ensures c.args.due.narrow
    (omega (arith, c.requires.0))

pub overflow_add-digits : goal.overflow_add-digits
unfolding each
overflow_add-digits c =
    let l = c.loop-time in omega (arith, l.invariant.dials, fits l.time, zeros-small (64 - 8 * c.args.due.width))

pub loop-time-preserved : goal.loop-time-preserved
unfolding each
loop-time-preserved c =
    rw (c.moved_on-digits.ensures, c.eight_digits-by.ensures)
    (on_line c.args.text.now c.args.step.ms c.args.at c.args.due.time c.args.due.width c.loop-time.invariant
    c.requires.1 (room (goal.at.loop-time-preserved c).Else-last-place) c.eight.ensures.1
    c.loop-time-test.true c.args.step.few
    (ap (λ (v : ℕ). v / 2 ^ (64 - 8 * c.args.due.width)) (sym c.eight.ensures.0) ∙
    c.if-eight-shift.false) (found (goal.at.loop-time-preserved c).Else-roll-eq0))
