-- `sample_block::ends_of` meets its contract. The invariant: what is left, taken from the ends so far, has the ends of
-- all. Assumes nothing.
use mathlib.Core.Path.{◌≡◌}
use mathlib.Core.List.{foldl}
use lib.ListN.{drop}
use Rattle.sample_block.specs.Block.{lower, higher, lowest, highest}
use Rattle.sample_block.proofs.ends_of.Given as goal

abbrev pub invariant-loop-x : goal.invariant-loop-x
invariant-loop-x l = (foldl lower l.low (drop l.x-index l.samples) ≡ lowest l.samples) × (foldl higher l.high (drop l.x-index l.samples) ≡ highest l.samples)
