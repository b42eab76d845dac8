-- `decimal::write_number` meets its contract. The invariant of its loop: from the place i on the digits of v stand, and
-- those of the rest are left to put. Assumes nothing.
use Rattle.decimal.proofs.Rest.{Putting}
use Rattle.decimal.proofs.write_number.Given as goal

abbrev pub invariant-loop-i : goal.invariant-loop-i
invariant-loop-i l = Putting l.initial.out l.out l.at l.v l.rest l.i
