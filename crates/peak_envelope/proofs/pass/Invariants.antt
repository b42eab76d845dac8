-- `peak_envelope::pass` meets its contract: the loop stands as `Passing` says, and the measure is what is left. Assumes
-- nothing.
use Prim.Native.Nat.{◌-◌}
use lib.ListN.{length}
use Rattle.peak_envelope.proofs.Passing.{Passing}
use Rattle.peak_envelope.proofs.pass.Given as goal

abbrev pub invariant-loop-i : goal.invariant-loop-i
invariant-loop-i l = Passing l.step l.n l.s l.decorrelation l.timed l.initial.sizes l.initial.times l.sizes l.times l.e l.i l.run

abbrev pub decreases-loop-i : goal.decreases-loop-i
decreases-loop-i l = length l.timed - l.i
