-- `sheet_after::counted` meets its contract: there are so many records or not. Assumes nothing.
use mathlib.Core.Path.{ap}
use native.Mathlib.Omega.{arith}
use lib.ListN.{length}
use borrow.Author.Tests.{lt-ltb, le-ltb}
use Rattle.sheet_after.specs.Taking.{counted_up}
use Rattle.sheet_after.proofs.counted.Goals as goal
use Rattle.std.specs.Prelude.{Ok}

pub returns-then-records-k : goal.returns-then-records-k
unfolding counted_up
returns-then-records-k c =
    let a = c.args in rw (lt-ltb (length a.records.now) a.n (omega arith))

pub returns : goal.returns
unfolding counted_up
returns c =
    let a = c.args in
    rw (le-ltb (length a.records.now) a.n (omega arith)) (ap (λ m. Ok (a.q, a.n, m)) c.failures.ensures)
