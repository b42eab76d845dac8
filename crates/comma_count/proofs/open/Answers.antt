-- `comma_count::open` meets its contract: the record's answer, and whether it is a refusal. Assumes nothing.
use borrow.Author.Rules.{rules}
use Rattle.comma_count.specs.Taking.{opening}
use Rattle.comma_count.proofs.open.Goals as goal

pub returns : goal.returns
unfolding opening
returns c = rw (c.is_refused.ensures, c.open-answer.ensures)
