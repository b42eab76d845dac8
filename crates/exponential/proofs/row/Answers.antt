-- `exponential::row` meets its contract: the constants are the lists of `Rows`, which the rule is proved of. Assumes
-- nothing.
use mathlib.Core.Path.{refl}
use Rattle.exponential.specs.Tables.{mantissas, shifts}
use Rattle.exponential.proofs.row.Goals as goal

pub returns : goal.returns
unfolding mantissas shifts
returns c = refl
