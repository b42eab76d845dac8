-- `peak_reach::quotient` meets its contract. The invariant is that of `Dividing`. Assumes nothing.
use Rattle.peak_reach.proofs.Dividing.{Turn}
use Rattle.peak_reach.proofs.quotient.Given as goal

abbrev pub invariant-loop : goal.invariant-loop
invariant-loop l = Turn l.a l.d l.counter l.whole l.rest
