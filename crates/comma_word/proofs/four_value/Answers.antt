-- `comma_word::four_value` meets its contract: the digits by their places. Assumes nothing.
use native.Mathlib.Omega.{arith}
use Rattle.decimal.specs.Decimal.{value_of}
use Rattle.comma_word.proofs.four_value.Goals as goal

pub returns : goal.returns
unfolding value_of
returns c =
    (omega (arith, c.digit_value.ensures.0, c.digit_value-2.ensures.0, c.digit_value-3.ensures.0, c.digit_value-4.ensures.0), omega arith)
