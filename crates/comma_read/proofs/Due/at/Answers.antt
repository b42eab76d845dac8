-- `comma_read::Due::at` meets its contract: past the end of the text the time's digits are counted. Assumes nothing.
use Rattle.std.proofs.Common.{arith}
use Rattle.decimal.proofs.Text.{digits_below}
use Rattle.comma_read.proofs.Due.at.Goals as goal

pub overflow_add-at : goal.overflow_add-at
overflow_add-at c = omega (arith, digits_below 19 c.args.self.time (omega arith), c.args.self.narrow.few)
