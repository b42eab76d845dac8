-- `record_list::along` meets its contract. The invariant: what is left, noted from here, leaves what the whole block
-- would; and the walk is ready for what is left. Assumes nothing.
use Prim.Native.Nat.{◌-◌, ◌≤◌}
use mathlib.Core.Path.{◌≡◌}
use mathlib.Core.List.{foldl}
use lib.ListN.{length, drop}
use Rattle.record_list.specs.Walk.{noting, marked, Ready}
use Rattle.record_list.proofs.along.Given as goal

abbrev pub invariant-loop-up : goal.invariant-loop-up
invariant-loop-up l = Ready l.items.step l.items.decorrelation l.v (length l.ups - l.up-index)
    × (foldl (marked l.items.step l.items.decorrelation) (noting l.v l.times) (drop l.up-index l.ups) ≡ foldl (marked l.items.step l.items.decorrelation) (noting l.initial.v l.initial.times) l.ups)
