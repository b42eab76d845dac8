-- `comma_read::four_value` meets its contract: the zeros of four digits are worth 53,328. Assumes nothing.
use Rattle.std.proofs.Common.{ℕ, ◌+◌, ◌<◌, ◌≤◌, [], arith}
use Rattle.decimal.specs.Decimal.{zero_byte, value_of}
use Rattle.decimal.proofs.Text.{digit_range}
use Rattle.comma_word.proofs.Plain.{four}
use Rattle.comma_read.proofs.four_value.Goals as goal
use Rattle.comma_read.proofs.four_value.Goals.{Start}

-- each is a digit
module _ (c : Start) where
  abbrev Digit : ℕ → Type 0
  Digit b = (zero_byte ≤ b) × (b < zero_byte + 10)

  digits : Digit c.args.a × Digit c.args.b × Digit c.args.c × Digit c.args.d
  digits =
      let (p, q, r, t) = four c.args.a c.args.b c.args.c c.args.d [] c.requires in
      (digit_range _ p, digit_range _ q, digit_range _ r, digit_range _ t)

pub overflow_sub-result : goal.overflow_sub-result
overflow_sub-result c = let d = digits c in omega (arith, d.0.0, d.1.0, d.2.0, d.3.0)

pub returns : goal.returns
unfolding value_of
returns c = let d = digits c in (omega (arith, d.0.0, d.1.0, d.2.0, d.3.0), omega (arith, d.0.1, d.1.1, d.2.1, d.3.1))
