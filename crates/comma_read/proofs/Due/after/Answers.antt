use Rattle.comma_read.proofs.Times.{narrow_on}
use Rattle.comma_read.proofs.Due.after.Goals as goal

pub invariant_of-result : goal.invariant_of-result
invariant_of-result c = record { narrow = narrow_on c.args.by c.args.self.narrow }
