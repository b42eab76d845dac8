-- Document 02, [11] and [12]: envelope peaks and a tail, computed of the definitions: a chain by its neighbours' gaps
-- and its largest, the refusals of both, figures of ratios, and the sum over the first k of a list that is sorted.
-- `peak_groups` has one more example, worked by hand. Each declaration has the name of its sentence. Assumes nothing.
use mathlib.Core.Path.{◌≡◌, refl}
use mathlib.Core.Bool.{false, true}
use mathlib.Core.List.{List, [], ◌∷◌, ◌++◌, map}
use Prim.Native.Nat.{ℕ, zero, suc, ◌<◌, ◌≤◌}
use native.Mathlib.Omega.{arith}
use lib.Dec.{lit≤}
use lib.IntN.{ℤ, pos, negsuc}
use lib.ListN.{drop, get_or, replicate}
use Rattle.refusal.specs.Numbers.{number_of, value_of}
use Rattle.sample_items.specs.Limits.{item_outside}
use Rattle.sample_range.specs.Range as range
use Rattle.peak_groups.specs.declared.Peak.{Peak}
use Rattle.crossing_sets.specs.Groups.{attach, groups}
use Rattle.peak_groups.specs.Groups.{larger, largest, those, tops}
use Rattle.peak_groups.specs.Runs.{peaks, points, started}
use Rattle.peak_groups.specs.Peaks.{handed, sum}
use Rattle.peak_envelope.specs.Answers.{found, placed}
use Rattle.logarithm.specs.Ours.{doublings, our_figure, squarings}
use Rattle.sorting.specs.Sorting.{Downwards, SameValues, count}
use Rattle.sorting.proofs.Unique.{sort_unique}
use Rattle.peak_tail.specs.Fitting.{FitsTo, first_bad, fitted, peak_in_range, tail_outside}
use Rattle.peak_tail.specs.Hill.{figures}
use Rattle.peak_tail.proofs.Summing.{sum_of_figures}
use Rattle.refusal.specs.declared.Refusal.{Refusal}
use Rattle.std.specs.Prelude.{Result, Ok, Err}

-- ---- [11] envelope peaks
-- the runs 2 | -1 | 5 | -1 | 7 | -1 | 6 | -1 | 2, one sample each: of the peaks 1 5 1 7 1 6 1, seven with the sum 22,
-- those from 4 on are high, and 1,000 ms part one from the next
abbrev swaying : List ℤ
swaying = pos 2 ∷ negsuc 0 ∷ pos 5 ∷ negsuc 0 ∷ pos 7 ∷ negsuc 0 ∷ pos 6 ∷ negsuc 0 ∷ pos 2 ∷ []

abbrev at : Peak → ℕ × ℕ
at p = (p.size, p.time)

-- not more than the decorrelation time from each to the next: one chain, though its ends are 2,000 ms apart; and its
-- largest is not its first
chain_of_neighbours : map at (handed 500 0 1000 swaying) ≡ (7, 2000) ∷ []
unfolding peaks points started attach groups those larger largest tops sum
chain_of_neighbours = refl

no_chain : map at (handed 500 0 999 swaying) ≡ (5, 1000) ∷ (7, 2000) ∷ (6, 3000) ∷ []
unfolding peaks points started attach groups those larger largest tops sum
no_chain = refl

-- high is above the mean: of the peaks 1 2 1 4, four with the sum 8, the 2 is not, though both beside it are lower
at_the_mean : map at (handed 500 0 0 (pos 9 ∷ negsuc 0 ∷ pos 2 ∷ negsuc 0 ∷ pos 4 ∷ negsuc 8 ∷ [])) ≡ []
unfolding peaks points started attach groups those larger largest tops sum
at_the_mean = refl

-- and one more is: of 1 2 1 3, four with the sum 7, the 2 is high, and the 3 has no peak after it
past_the_mean : map at (handed 500 0 0 (pos 9 ∷ negsuc 0 ∷ pos 2 ∷ negsuc 0 ∷ pos 3 ∷ negsuc 8 ∷ [])) ≡ (2, 1000) ∷ []
unfolding peaks points started attach groups those larger largest tops sum
past_the_mean = refl

-- zeros at the start are no run, so the first run that is dropped is 2; a zero later does not part a run; times count
-- from the ramp's end on
zeros_in_runs :
    map at
    (handed 500 1 999
    (pos 9 ∷ pos 0 ∷ pos 0 ∷ pos 2 ∷ negsuc 0 ∷ pos 5 ∷ pos 0 ∷ pos 5 ∷ negsuc 0 ∷ pos 2 ∷ []))
    ≡ (5, 2000) ∷ []
unfolding peaks points started attach groups those larger largest tops sum
zeros_in_runs = refl

abbrev of_found : Result ℕ Refusal → List ℕ
of_found (Ok k) = k ∷ []
of_found (Err r) = number_of r ∷ value_of r ∷ []

-- 1 with the items 1, 2 and 4; 2 with the place; 4; 7 with the number needed if either slice is too short
envelope_refused :
    of_found (found 0 1000001 10000001 (pos 1000001 ∷ []) 0 0)
    ∷ of_found (found 500 1000001 10000001 (pos 1000001 ∷ []) 0 0)
    ∷ of_found (found 500 0 10000001 (pos 1000001 ∷ []) 0 0)
    ∷ of_found (found 500 0 999 (pos 0 ∷ pos 1000001 ∷ []) 0 0)
    ∷ of_found (found 500 8 999 swaying 0 0)
    ∷ of_found (found 500 0 999 swaying 2 3)
    ∷ of_found (found 500 0 999 swaying 3 2)
    ∷ of_found (found 500 0 999 swaying 3 3)
    ∷ []
    ≡ (1 ∷ 1 ∷ []) ∷ (1 ∷ 2 ∷ []) ∷ (1 ∷ 4 ∷ []) ∷ (2 ∷ 1 ∷ []) ∷ (4 ∷ 0 ∷ [])
    ∷ (7 ∷ 3 ∷ []) ∷ (7 ∷ 3 ∷ []) ∷ (3 ∷ []) ∷ []
unfolding found placed item_outside range.first_bad peaks points started attach groups those larger largest tops sum
envelope_refused = refl

-- ---- [12] the tail
-- to base 2 in units of 1/65,536; equal values give 0
log_figures :
    our_figure 2 1 ∷ our_figure 4 1 ∷ our_figure 3 2 ∷ our_figure 5 5 ∷ our_figure 1000000 1 ∷ []
    ≡ 65536 ∷ 131072 ∷ 38336 ∷ 0 ∷ 1306235 ∷ []
unfolding our_figure doublings squarings
log_figures = refl

abbrev of_fitted : Result ℕ Refusal → List ℕ
of_fitted (Ok s) = s ∷ []
of_fitted (Err r) = number_of r ∷ value_of r ∷ []

abbrev fits : List ℕ → ℕ → ℕ → List ℕ
fits peaks k places = of_fitted (fitted peaks k places 9)

-- 16; 17 with the place of the first that is 0 or above 1,000,000; 7
tail_refused :
    fits (0 ∷ []) 2 0 ∷ fits (0 ∷ 0 ∷ []) 1 0
    ∷ fits (1 ∷ 1000000 ∷ 0 ∷ 1000001 ∷ []) 2 0 ∷ fits (1 ∷ 1000001 ∷ 0 ∷ []) 2 0
    ∷ fits (1 ∷ 2 ∷ 3 ∷ []) 3 2 ∷ fits (1 ∷ 2 ∷ 3 ∷ []) 3 3
    ∷ []
    ≡ (16 ∷ 0 ∷ []) ∷ (16 ∷ 0 ∷ []) ∷ (17 ∷ 2 ∷ []) ∷ (17 ∷ 1 ∷ []) ∷ (7 ∷ 3 ∷ []) ∷ (9 ∷ []) ∷ []
unfolding fitted first_bad
tail_refused = refl

-- a list of up to 4,096, k from 2 to its length, a peak from 1 to 1,000,000
tail_list : map (λ (n : ℕ). tail_outside n 2) (4096 ∷ 4097 ∷ []) ≡ false ∷ true ∷ []
tail_list = refl

tail_k : map (tail_outside 7) (1 ∷ 2 ∷ 7 ∷ 8 ∷ []) ≡ true ∷ false ∷ false ∷ true ∷ []
tail_k = refl

tail_peak : map peak_in_range (0 ∷ 1 ∷ 1000000 ∷ 1000001 ∷ []) ≡ false ∷ true ∷ true ∷ false ∷ []
tail_peak = refl

abbrev unsorted : List ℕ
unsorted = 1 ∷ 4 ∷ 2 ∷ []

abbrev sorted : List ℕ
sorted = 4 ∷ 2 ∷ 1 ∷ []

down : Downwards sorted
down zero (suc zero) l h = lit≤ tt
down zero (suc (suc zero)) l h = lit≤ tt
down (suc zero) (suc (suc zero)) l h = lit≤ tt
down i zero l h = absurd (omega arith)
down (suc i) (suc zero) l h = absurd (omega arith)
down (suc (suc i)) (suc (suc zero)) l h = absurd (omega arith)
down i (suc (suc (suc j))) l h = absurd (omega arith)

same : SameValues unsorted sorted
unfolding count
same x = omega arith

-- the peaks 1, 4 and 2 with k = 2: sorted downwards 4, 2, 1, and the sum is that of 4/2 and 2/2
sum_of_two : (before after : List ℕ) (s : ℕ) → FitsTo unsorted 2 before (Ok s) after
    → (s ≡ 65536) × (after ≡ sorted ++ drop 3 before)
unfolding figures our_figure doublings squarings
sum_of_two before after s f =
    let x = f.leaves in
    let e = sort_unique unsorted x.ys sorted x.sorted (record { downwards = down; same = same }) in
    (sum_of_figures (rw e at x.sums), rw e at x.leaves)
