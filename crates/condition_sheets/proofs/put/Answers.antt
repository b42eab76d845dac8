-- `condition_sheets::put` meets its contract: there is such a place or not. Assumes nothing.
use native.Mathlib.Omega.{arith}
use borrow.Author.Tests.{lt-ltb, le-ltb}
use Rattle.condition_sheets.specs.Taking.{placed}
use Rattle.condition_sheets.proofs.put.Goals as goal

pub returns-then-n-lt64 : goal.returns-then-n-lt64
unfolding placed
returns-then-n-lt64 c =
    rw (lt-ltb c.args.n 64 c.if-n-lt64.true)

pub returns-else-n-lt64 : goal.returns-else-n-lt64
unfolding placed
returns-else-n-lt64 c =
    rw (le-ltb c.args.n 64 (omega arith))
