-- What the private steps promise one another. Assumes nothing.
use Rattle.std.specs.Prelude.{◌≡◌, List, ℕ, ◌≤◌}
use Rattle.sorting.specs.Sorting.{Downwards}
use Rattle.peak_tail.specs.Hill.{HillSum, hill_sum, kth}

-- our figures of the first k values added up, which is the Hill sum where they lie downwards and Y(k) is not 0
pub record SumOfFirst (ys : List ℕ) (k r : ℕ) : Type 0 where
  pub figures : r ≡ hill_sum ys k
  pub sums : Downwards ys → 1 ≤ kth ys k → HillSum ys k r
