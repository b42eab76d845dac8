-- `sheet_records::pass` meets its contract: `Along` is its invariant, a record that is taken keeps it, anything else
-- shows that the sheet does not read cleanly, and the end that it does. What is left of the text falls. Assumes
-- nothing.
use Prim.Native.Nat.{◌-◌}
use lib.ListN.{length}
use Rattle.sheet_records.proofs.Along.{Along}
use Rattle.sheet_records.proofs.pass.Given as goal

abbrev pub invariant-loop-at : goal.invariant-loop-at
invariant-loop-at l = Along l.text l.q l.begin l.at l.count l.failures

abbrev pub decreases-loop-at : goal.decreases-loop-at
decreases-loop-at l = length l.text - l.at
