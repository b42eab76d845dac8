-- `peak_stream::along` meets its contract. The invariant: what is left, taken in the state, comes to the whole piece
-- taken in the first. Assumes nothing.
use Prim.Native.Nat.{◌-◌, ◌≤◌}
use mathlib.Core.Path.{◌≡◌}
use mathlib.Core.List.{foldl}
use lib.ListN.{length, drop}
use Rattle.peak_stream.specs.Survey.{surveyed}
use Rattle.peak_stream.proofs.Passing.{Good}
use Rattle.peak_stream.proofs.along.Given as goal

abbrev pub invariant-loop-x : goal.invariant-loop-x
invariant-loop-x l = (l.x-index ≤ length l.samples) × Good l.at (length l.samples - l.x-index) × (foldl surveyed l.at (drop l.x-index
    l.samples) ≡ foldl surveyed l.initial.at l.samples)
