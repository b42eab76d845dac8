-- `sheet_records::put_all` meets its contract: `Putting` is its invariant, and the record that is due keeps it. What is
-- left of the text falls. Assumes nothing.
use Prim.Native.Nat.{◌-◌}
use lib.ListN.{length}
use Rattle.sheet_records.proofs.Second.{Putting}
use Rattle.sheet_records.proofs.put_all.Given as goal

abbrev pub invariant-loop-at : goal.invariant-loop-at
invariant-loop-at l = Putting l.text l.initial.places l.places l.at l.count l.width l.limit

abbrev pub decreases-loop-at : goal.decreases-loop-at
decreases-loop-at l = length l.text - l.at
