use Rattle.std.proofs.Common.{◌≡◌, ℕ, ◌+◌, ◌-◌, ◌*◌, ◌/◌, ◌^◌, ◌<◌, ◌≤◌, length, take, drop, sym, ap, ◌∙◌, div-le_self, arith, to_z-of_z, w32, SFits, rules, ltb-true, leb-true}
use Rattle.truth.proofs.Laws.{and-true}
use Rattle.comma_word.specs.Word.{word}
use Rattle.comma_word.specs.Dial.{each}
use Rattle.comma_word.proofs.Turn.{fits}
use Rattle.comma_read.specs.Roll.{PlainRoll}
use Rattle.comma_read.specs.Plain.{RollLine, as_it_stood}
use Rattle.comma_read.proofs.PlainLine.{roll_within}
use Rattle.comma_read.proofs.Running.{set_out, due_line, on_line}
use Rattle.comma_read.proofs.Puts.{roll_sample_lem, put_on}
use Rattle.comma_read.proofs.plain_put.Goals as goal
use Rattle.comma_read.proofs.plain_put.Goals.{Else-roll-eq0}

-- a line may stand here, and plain degrees do after its comma
module _ (c : Else-roll-eq0) where
  early-inside : (c.loop-lines.time < 99990000) × (c.loop-lines.place ≤ length c.args.text.now - 17)
  early-inside = let (early, inside) = and-true _ _ (sym c.both.ensures ∙ c.if-not-both.false) in (ltb-true _ _ early, leb-true _ _ inside)

  room : c.loop-lines.place + 17 ≤ length c.args.text.now
  room = omega (arith, early-inside.1, c.requires.0)

module _ (c : Else-roll-eq0) where
  found : PlainRoll c.args.text.now (c.loop-lines.place + c.args.due.width) c.plain_roll-roll.result
  found = c.plain_roll-roll.ensures (omega (arith, c.if-roll-eq0.false))

  ends : c.loop-lines.place + c.args.due.width + c.plain_roll-roll.result / 2 ≤ length c.args.text.now
  ends = roll_within c.args.text.now c.loop-lines.place c.args.due.width found

  -- the digits that are due stand there
  stands : word (take 8 (drop c.loop-lines.place c.args.text.now)) / 2 ^ (64 - 8 * c.args.due.width)
      ≡ c.loop-lines.digits + 0x3030303030303030 / 2 ^ (64 - 8 * c.args.due.width)
  stands =
      ap (λ (v : ℕ). v / 2 ^ (64 - 8 * c.args.due.width)) (sym c.eight.ensures.0) ∙ c.if-eight-shift.false

  line : RollLine c.args.text.now c.loop-lines.place c.loop-lines.time (c.loop-lines.place + c.args.due.width + c.plain_roll-roll.result / 2)
  line =
      due_line c.args.text.now c.args.step.ms c.args.at c.args.due.time c.args.due.width c.loop-lines.invariant.0
      c.requires.1 (room c) c.eight.ensures.1 (early-inside c).0 stands found

  place-left : c.args.from + c.loop-lines.lines < length c.args.samples.now
  place-left =
      omega (arith, c.loop-lines-test.true, c.requires.2)

zeros-small : (k : ℕ) → 0x3030303030303030 / 2 ^ k ≤ 0x3030303030303030
zeros-small k = div-le_self 0x3030303030303030 (2 ^ k)

pub overflow_add-by : goal.overflow_add-by
unfolding each
overflow_add-by c =
    omega (arith, c.eight_digits-by.ensures, fits c.args.step.ms)

pub loop-lines-init : goal.loop-lines-init
loop-lines-init c = let a = c.args in (
  set_out a.text.now a.step.ms a.at a.due.time a.due.width c.eight_digits-digits.result c.eight_digits-digits.ensures c.args.due.narrow (omega (arith, c.requires.0)),
  as_it_stood,
  omega (arith, c.requires.2),
)

pub overflow_add-digits : goal.overflow_add-digits
unfolding each
overflow_add-digits c =
    let l = c.loop-lines in omega (arith, l.invariant.0.dials, fits l.time, zeros-small (64 - 8 * c.args.due.width))

pub loop-lines-preserved : goal.loop-lines-preserved
unfolding each
loop-lines-preserved c =
    let e = (goal.at.loop-lines-preserved c).Else-roll-eq0 in
    let a = c.args in
    let fits : SFits w32 c.plain_sample.result = search rules in
    let said = to_z-of_z fits ∙ c.plain_sample.ensures ∙ roll_sample_lem a.text.now c.loop-lines.place a.due.width c.loop-lines.time (found e) (line e).line.is c.loop-lines.invariant.0.narrow in (
      rw (c.moved_on-digits.ensures, c.eight_digits-by.ensures)
          (on_line a.text.now a.step.ms a.at a.due.time a.due.width c.loop-lines.invariant.0 c.requires.1 (room e)
          c.eight.ensures.1 (early-inside e).0 c.args.step.few (stands e) (found e)),
      rw c.store.ensures (put_on c.loop-lines.invariant.1 c.loop-lines.invariant.0.when (line e) said),
      omega (arith, place-left e),
    )
