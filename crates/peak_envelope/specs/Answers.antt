-- Document 02 [11], what the call answers: its refusals, in listing's order, and what it leaves in the two slices.
-- Assumes nothing.
use Rattle.std.specs.Prelude.{ℕ, ◌≡◌, cond, List, ◌++◌, map, length, drop, ltb, ℤ, Result, Ok, Err}
use Rattle.refusal.specs.declared.Refusal.TheVariants.{Sample, Room}
use Rattle.sample_items.specs.declared.Items.{Items}
use Rattle.sample_items.specs.Limits.{item_outside}
use Rattle.sample_range.specs.Range.{first_bad}
use Rattle.record_whole.specs.Tests.{item_then, length_then}
use Rattle.peak_groups.specs.declared.Peak.{Peak}
use Rattle.peak_groups.specs.Peaks.{handed, short}
use Rattle.peak_machine.specs.Step.{size_of, moment_of}
use Rattle.refusal.specs.declared.Refusal.{Refusal}

-- the items 1, 2 and 4: items 3 and 6, the levels, are not asked for, and 1 is a level in range
abbrev pub unlevelled : ℕ → ℕ → ℕ → Items
unlevelled D R τ = record { step = D; ramp = R; levels = record { roll = 1; acceleration = 1 }; decorrelation = τ }

-- the lowest of them outside its range, 0 if there is none
abbrev pub item_asked : ℕ → ℕ → ℕ → ℕ
item_asked D R τ = item_outside (unlevelled D R τ)

-- k peaks into slices of so many places: 7 if either is too short, with the number needed
unfoldable pub placed : ℕ → ℕ → ℕ → Result ℕ Refusal
placed sizes times k = cond (short sizes times k) (Err (Room k)) (Ok k)

-- 1, 2, 3, 4 as in listing, then 7
unfoldable pub found : ℕ → ℕ → ℕ → List ℤ → ℕ → ℕ → Result ℕ Refusal
found D R τ xs sizes times =
    item_then Err (item_asked D R τ)
    (cond (ltb (first_bad xs) (length xs)) (Err (Sample (first_bad xs)))
    (length_then Err D R (length xs)
    (placed sizes times (length (handed D R τ xs)))))

-- a slice afterwards: the figures in order from its start and the rest as it stood; on a refusal all as it stood
unfoldable pub written : Result ℕ Refusal → List ℕ → List ℕ → List ℕ
written (Ok k) figures slice = figures ++ drop k slice
written (Err f) figures slice = slice

-- the peaks l, handed out: what is answered, and what both slices hold then
pub record HandsOut (l : List Peak) (sizes times : List ℕ) (answer : Result ℕ Refusal) (sizesAfter timesAfter : List ℕ) : Type 0 where
  pub answers : answer ≡ placed (length sizes) (length times) (length l)
  pub sizes_left : sizesAfter ≡ written answer (map size_of l) sizes
  pub times_left : timesAfter ≡ written answer (map moment_of l) times

-- the whole call: what is answered, and what both slices hold then
pub record FindsTo (D R τ : ℕ) (xs : List ℤ) (sizes times : List ℕ) (answer : Result ℕ Refusal) (sizesAfter timesAfter : List ℕ) : Type 0 where
  pub answers : answer ≡ found D R τ xs (length sizes) (length times)
  pub sizes_left : sizesAfter ≡ written answer (map size_of (handed D R τ xs)) sizes
  pub times_left : timesAfter ≡ written answer (map moment_of (handed D R τ xs)) times
