-- Two answers that a promise allows are the same answer. Assumes nothing.
use mathlib.Core.Path.{◌≡◌}
use Prim.Native.Nat.{ℕ}
use Rattle.truth.proofs.Unique.{settled}
use Rattle.root.specs.HalfWidth.{width_within}
use Rattle.root.specs.Root.{least_root}

pub least_unique : (a p m n : ℕ) → m ≡ least_root a p → n ≡ least_root a p → m ≡ n
least_unique a p m n = settled

pub half_width_unique : (f N P m n : ℕ) → m ≡ width_within f N P → n ≡ width_within f N P → m ≡ n
half_width_unique f N P m n = settled
