-- `comma_word::four_digits` meets its contract: the tests one by one. Assumes nothing.
use Rattle.decimal.specs.Decimal.{all_digits}
use Rattle.comma_word.proofs.four_digits.Goals as goal

pub returns : goal.returns
unfolding all_digits
returns c = cc
