-- `comma_read::plain_size_lem` meets its contract: the digits of each form are worth its thousandths. Assumes nothing.
use Rattle.std.proofs.Common.{◌+◌, ◌-◌, ◌*◌, ◌<◌, ◌≤◌, get_or, drop, sym, ◌∙◌, arith}
use Rattle.decimal.specs.Decimal.{zero_byte, value_of}
use Rattle.decimal.proofs.Text.{digit_range}
use Rattle.degrees.proofs.Forms.{Sized}
use Rattle.comma_word.specs.Plain.{long_digits}
use Rattle.comma_word.proofs.Plain.{LongFacts, short_of, long_of}
use Rattle.comma_read.proofs.plain_size.Goals as goal
use Rattle.comma_read.proofs.plain_size.Goals.{Else-bytes-eq5}

module _ (c : Else-bytes-eq5) where
  long : let s = c.args.s.now in let at = c.args.at in
      LongFacts s at × Sized (drop at s) ((get_or s at 0 - zero_byte) * 10000 + value_of (long_digits s at)) 6
  long = long_of c.args.s.now c.args.at c.requires c.if-bytes-eq5.false

  tens : let s = c.args.s.now in let at = c.args.at in (zero_byte ≤ get_or s at 0) × (get_or s at 0 < zero_byte + 10)
  tens = digit_range _ long.0.tens

pub returns-then-bytes-eq5 : goal.returns-then-bytes-eq5
returns-then-bytes-eq5 c = (
  c.four_value.ensures.0 ∙ sym (short_of c.args.s.now c.args.at c.requires c.if-bytes-eq5.true).1.value,
  omega (arith, c.four_value.ensures.1),
)

pub returns : goal.returns
returns c =
    let b = (goal.at.returns c).Else-bytes-eq5 in
    (rw ((long b).1.value, c.four_value-2.ensures.0) (omega (arith, (tens b).0)), omega (arith, (tens b).1, c.four_value-2.ensures.1))
