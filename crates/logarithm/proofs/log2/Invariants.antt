-- `logarithm::log2` meets its contract. The invariant of its loop is `After`: after so many squarings the bits taken and
-- the number left are the state of `Squaring` at that power of two. Assumes nothing.
use Rattle.logarithm.proofs.Turn.{After}
use Rattle.logarithm.proofs.log2.Given as goal

abbrev pub invariant-loop : goal.invariant-loop
invariant-loop l = After l.a l.b l.counter l.m l.x
