-- `sheet_text::read` meets its contract. The invariant is `Along`: what the text comes to is what its lines gave,
-- before what the rest comes to. What is left of the text falls with each line. Assumes nothing.
use Prim.Native.Nat.{ℕ, ◌-◌}
use mathlib.Core.List.{List}
use lib.ListN.{length}
use Rattle.sheet_text.proofs.Along.{Along}
use Rattle.sheet_text.proofs.read.Given as goal

abbrev pub invariant-loop-at : goal.invariant-loop-at
invariant-loop-at l = (gave : List ℕ) × Along l.more l.text l.initial.sheet l.sheet l.at gave

abbrev pub decreases-loop-at : goal.decreases-loop-at
decreases-loop-at l = length l.text - l.at
