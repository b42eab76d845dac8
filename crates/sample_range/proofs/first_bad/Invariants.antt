-- `sample_range::first_bad` meets its contract. The invariant: the samples passed are in range, so the first bad place
-- is how many they are and the first bad place of what is left. Assumes nothing.
use Prim.Native.Nat.{◌+◌, ◌<◌}
use mathlib.Core.Path.{◌≡◌}
use lib.ListN.{length}
use Rattle.std.specs.Slice.Iter.{chunks_rest, chunks_size}
use Rattle.sample_range.specs.Range.{first_bad}
use Rattle.sample_range.proofs.first_bad.Given as goal

abbrev pub invariant-loop-block : goal.invariant-loop-block
invariant-loop-block l = record {
  some : 0 < chunks_size l.block-iterator;
  long : l.passed + length (chunks_rest l.block-iterator) ≡ length l.samples;
  first : l.passed + first_bad (chunks_rest l.block-iterator) ≡ first_bad l.samples;
}
