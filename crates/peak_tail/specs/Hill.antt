-- Document 02 [12], by document 001 formula (11): the Hill sum of values Y(1), Y(2), .. that lie downwards is the sum
-- of the logarithms of Y(i) / Y(k), i from 1 to k, in units of 1/65,536. Y(i) stands at place i - 1 of a list. Assumes
-- nothing.
use Rattle.std.specs.Prelude.{List, ℕ, zero, suc, ◌+◌, ◌-◌, get_or}
use Rattle.logarithm.specs.Logarithm.{ExactFigure, Near}
use Rattle.logarithm.specs.Ours.{our_figure}

-- the exact figures of the first n values over y add up to a sum
pub data ExactSum (ys : List ℕ) (y : ℕ) : ℕ → ℕ → Type 0 where
  none : ExactSum ys y 0 0
  more : {n s m : ℕ} → ExactSum ys y n s → ExactFigure (get_or ys n 0) y m → ExactSum ys y (suc n) (s + m)

-- Y(k)
abbrev pub kth : List ℕ → ℕ → ℕ
kth ys k = get_or ys (k - 1) 0

-- our figures of the first n values over y add up to a sum: each is never above the exact one and at most 1 below,
-- and 0 for a value that is y
pub data NearSum (ys : List ℕ) (y : ℕ) : ℕ → ℕ → Type 0 where
  start : NearSum ys y 0 0
  plus : {n s m : ℕ} → NearSum ys y n s → Near (get_or ys n 0) y m → NearSum ys y (suc n) (s + m)

-- the Hill sum over the first k values, in our figures
abbrev pub HillSum : List ℕ → ℕ → ℕ → Type 0
HillSum ys k r = NearSum ys (kth ys k) k r

-- the same as a definition that computes: our figures of the first n values over y, added up
unfoldable pub figures : List ℕ → ℕ → ℕ → ℕ
figures ys y zero = 0
figures ys y (suc n) = figures ys y n + our_figure (get_or ys n 0) y

abbrev pub hill_sum : List ℕ → ℕ → ℕ
hill_sum ys k = figures ys (kth ys k) k
