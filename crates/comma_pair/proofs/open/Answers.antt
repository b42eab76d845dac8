-- `comma_pair::open` meets its contract: where a count of one file would start, twice. Assumes nothing.
use Rattle.comma_count.specs.Taking as count
use Rattle.comma_pair.specs.Taking.{opening}
use borrow.Author.Rules.{rules}
use Rattle.comma_pair.proofs.open.Goals as goal

pub returns : goal.returns
unfolding opening count.opening
returns c = rw c.open-c.ensures
