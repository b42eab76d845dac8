-- `comma_read::eight_digits` meets its contract: four digits stand before four. Assumes nothing.
use Rattle.std.proofs.Common.{arith}
use Rattle.comma_word.proofs.Dial.{parts, short}
use Rattle.comma_read.proofs.eight_digits.Goals as goal

pub overflow_mul-result : goal.overflow_mul-result
overflow_mul-result c = omega (arith, short 4 _ c.four_digits.result c.four_digits.ensures)

pub overflow_add-result : goal.overflow_add-result
overflow_add-result c = omega (arith, short 4 _ _ c.four_digits.ensures, short 4 _ c.four_digits-2.result c.four_digits-2.ensures)

pub returns : goal.returns
returns c = omega (arith, parts 4 4 c.args.n)
