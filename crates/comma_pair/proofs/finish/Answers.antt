-- `comma_pair::finish` meets its contract: without room nothing is written, and with it the line of what the files came to. Assumes nothing.
use mathlib.Core.Path.{◌≡◌, ap}
use Rattle.desk_line.proofs.Put.{puts_same, finished, without}
use Rattle.comma_pair.specs.Taking.{said_end, saying}
use borrow.Author.Rules.{rules}
use Rattle.comma_pair.proofs.finish.Goals as goal

pub returns-then-out-lt-LONGEST_LINE : goal.returns-then-out-lt-LONGEST_LINE
returns-then-out-lt-LONGEST_LINE c =
    let whole = without (saying c.args.w) c.args.out.now c.if-out-lt-LONGEST_LINE.true in record { value = whole.0; out_after = whole.1 }

pub returns : goal.returns
unfolding saying
returns c =
    let whole = finished (saying c.args.w) c.if-out-lt-LONGEST_LINE.false (puts_same (ap said_end c.came_to.ensures) c.put_end.ensures) in record { value = whole.0; out_after = whole.1 }
