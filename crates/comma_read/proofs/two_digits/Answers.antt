-- `comma_read::two_digits` meets its contract: both digits, as the definition has them. Assumes nothing.
use Rattle.std.proofs.Common.{arith}
use Rattle.comma_word.specs.Dial.{dial}
use Rattle.comma_read.proofs.two_digits.Goals as goal

pub returns : goal.returns
unfolding dial
returns c = omega arith
