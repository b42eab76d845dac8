-- `sheet_text::pass` meets its contract. The invariant is `Running`: what the lines gave is counted, and stands at the
-- start of the lent bytes where they have room for it. What is left of the text falls with each line. Assumes nothing.
use Prim.Native.Nat.{◌-◌}
use lib.ListN.{length}
use Rattle.sheet_text.proofs.Running.{Running}
use Rattle.sheet_text.proofs.pass.Given as goal

abbrev pub invariant-loop-at : goal.invariant-loop-at
invariant-loop-at l = Running l.more l.text l.initial.sheet l.initial.out l.out l.sheet l.at l.put

abbrev pub decreases-loop-at : goal.decreases-loop-at
decreases-loop-at l = length l.text - l.at
