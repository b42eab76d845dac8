-- An example worked by hand, computed of the definitions. R = 1 leaves the first sample out, and D = 500. A zero
-- belongs to no run at the start, and is in the run before it later. The runs are 3 5 0 5 | -2 -7 0 -7 | 1 | -9 | 8 |
-- -1 | 9 | -9 | 1 | -8 | 2. Without the first and last the peaks are 7 1 9 8 1 9 9 1 8, nine with the sum 53: from 6 on
-- they are high. The stretches are 7 | 1 | 9 8 | 1 | 9 9 | 1 | 8, and the high ones with a peak that is not high on
-- both sides give 9 and 9, 1500 ms apart. Assumes nothing.
use Prim.Native.Nat.{ℕ}
use mathlib.Core.Path.{◌≡◌, refl}
use mathlib.Core.List.{List, [], ◌∷◌, map}
use lib.ListN.{drop}
use lib.IntN.{ℤ, pos, negsuc}
use Rattle.peak_groups.specs.declared.Peak.{Peak}
use Rattle.crossing_sets.specs.Groups.{attach, groups}
use Rattle.peak_groups.specs.Groups.{those, larger, largest, tops}
use Rattle.peak_groups.specs.Runs.{points, started, peaks}
use Rattle.peak_groups.specs.Peaks.{sum, kept, handed}

abbrev at : Peak → ℕ × ℕ
at p = (p.size, p.time)

-- negsuc k is -(k + 1)
abbrev samples : List ℤ
samples =
    pos 9 ∷ pos 0 ∷ pos 3 ∷ pos 5 ∷ pos 0 ∷ pos 5 ∷ negsuc 1 ∷ negsuc 6 ∷ pos 0 ∷ negsuc 6 ∷ pos 1 ∷ negsuc 8 ∷ pos 8 ∷ negsuc 0 ∷ pos 9 ∷ negsuc 8 ∷ pos 1 ∷ negsuc 7 ∷ pos 2 ∷ []

example_peaks : map at (peaks 500 (drop 1 samples)) ≡ (7, 3000) ∷ (1, 4500) ∷ (9, 5000) ∷ (8, 5500) ∷ (1, 6000) ∷ (9, 6500) ∷ (9, 7000) ∷ (1, 7500) ∷ (8, 8000) ∷ []
unfolding peaks points started attach groups larger largest tops
example_peaks = refl

example_kept : map at (kept (peaks 500 (drop 1 samples))) ≡ (9, 5000) ∷ (9, 6500) ∷ []
unfolding peaks points started attach groups those larger largest tops sum
example_kept = refl

-- a gap of τ itself still joins, and of the two the first is the largest
example_chain : map at (handed 500 1 1500 samples) ≡ (9, 5000) ∷ []
unfolding peaks points started attach groups those larger largest tops sum
example_chain = refl

example_apart : map at (handed 500 1 1499 samples) ≡ (9, 5000) ∷ (9, 6500) ∷ []
unfolding peaks points started attach groups those larger largest tops sum
example_apart = refl

-- zeros make no run; and peaks that are all the same are none of them high: 4 times 3 is 12, and not above it
example_zeros : map at (handed 500 0 0 (pos 0 ∷ pos 0 ∷ pos 0 ∷ [])) ≡ []
unfolding peaks points started attach groups those larger largest tops sum
example_zeros = refl

example_same : map at (handed 500 0 0 (pos 1 ∷ negsuc 3 ∷ pos 4 ∷ negsuc 3 ∷ pos 1 ∷ [])) ≡ []
unfolding peaks points started attach groups those larger largest tops sum
example_same = refl
