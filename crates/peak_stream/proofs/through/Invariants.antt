-- `peak_stream::through` meets its contract: the loop stands as `Going` says. Assumes nothing.
use lib.ListN.{length}
use Rattle.peak_stream.proofs.Coming.{Going}
use Rattle.peak_stream.proofs.through.Given as goal

abbrev pub invariant-loop-x : goal.invariant-loop-x
invariant-loop-x l = Going l.initial.at l.samples l.initial.sizes l.initial.times l.at l.x-index l.k l.sizes l.times
