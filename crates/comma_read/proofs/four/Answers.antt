-- `comma_read::four` meets its contract: each byte is put after those before it. Assumes nothing.
use Rattle.std.proofs.Common.{arith}
use Rattle.comma_word.specs.Word.{word}
use Rattle.comma_read.proofs.four.Goals as goal

pub returns : goal.returns
unfolding word
returns c = (omega arith, omega arith, omega arith, omega arith, omega arith, omega arith)
