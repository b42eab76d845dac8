-- `comma_count::put_ended` meets its contract, by its two cases. Assumes nothing.
use mathlib.Core.Path.{sym, ap}
use Rattle.desk_line.proofs.Put.{puts_same, with_room}
use Rattle.comma_count.specs.Line.{refused_at}
use Rattle.comma_count.specs.Taking.{said_ended}
use borrow.Author.Rules.{rules}
use Rattle.comma_count.proofs.put_ended.Goals as goal

pub returns-in-Err : goal.returns-in-Err
returns-in-Err c =
    puts_same (sym (ap (said_ended c.args.n) c.in-Err.is))
    (with_room (refused_at 0 c.in-Err.r) c.requires c.refuse.ensures.value c.refuse.ensures.out_after)
