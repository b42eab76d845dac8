-- `comma_pair::put_record` meets its contract: a count of one file with this record has the same line. Assumes nothing.
use mathlib.Core.Path.{refl}
use Rattle.desk_line.proofs.Put.{with_room}
use Rattle.comma_count.specs.Taking as count
use Rattle.comma_pair.specs.Taking.{said_end}
use borrow.Author.Rules.{rules}
use Rattle.comma_pair.proofs.put_record.Goals as goal
use Rattle.comma_pair.specs.declared.PairFault.TheVariants.{Plain, AtLine}
use Rattle.std.specs.Prelude.{Ok}

pub returns : goal.returns
unfolding count.saying
returns c =
    with_room (said_end (Ok c.args.r)) c.requires c.finish.ensures.value c.finish.ensures.out_after
