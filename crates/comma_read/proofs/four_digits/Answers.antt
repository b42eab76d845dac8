-- `comma_read::four_digits` meets its contract: two digits stand before two. Assumes nothing.
use Rattle.std.proofs.Common.{arith}
use Rattle.comma_word.proofs.Dial.{parts, short}
use Rattle.comma_read.proofs.four_digits.Goals as goal

pub overflow_mul-result : goal.overflow_mul-result
overflow_mul-result c = omega (arith, short 2 _ c.two_digits.result c.two_digits.ensures)

pub overflow_add-result : goal.overflow_add-result
overflow_add-result c = omega (arith, short 2 _ _ c.two_digits.ensures, short 2 _ c.two_digits-2.result c.two_digits-2.ensures)

pub returns : goal.returns
returns c = omega (arith, parts 2 2 c.args.n)
