-- Which samples of some lines are timed (document 01, "Reading a record"): those after the ramp, and no more than the
-- longest record has, since a longer one is refused by its number of lines. Assumes nothing.
use Rattle.std.specs.Prelude.{ℕ, ◌+◌, ◌-◌, cond, List, [], ◌∷◌, ◌++◌, length, take, drop, ℤ, Result, Ok, Err}
use mathlib.Core.List.{foldl}
use Rattle.sample_items.specs.Limits.{most_in_range}
use Rattle.peak_stream.specs.declared.Reading.{Reading}
use Rattle.peak_stream.specs.declared.Surveying.{Surveying}
use Rattle.peak_stream.specs.Survey.{sound, surveyed}
use Rattle.peak_stream.specs.Hands.{closed_by, at_end, hands_on}
use Rattle.peak_groups.specs.declared.Peak.{Peak}
use Rattle.refusal.specs.declared.Refusal.{Refusal}
use Rattle.peak_stream.specs.declared.Handing.{Handing}

-- R is the ramp, so many lines came before the samples xs, and r is where the pass stands
abbrev pub timed_of : ℕ → ℕ → Reading → List ℤ → List ℤ
timed_of R lines r xs = take (most_in_range r.step 0 - r.n) (drop (R - lines) xs)

-- a first pass with them
unfoldable pub counting : ℕ → ℕ → Surveying → List ℤ → Surveying
counting R lines s xs = cond (sound s) (foldl surveyed s (timed_of R lines s.reading xs)) s

abbrev pub surveying_in : Result Surveying Refusal → Surveying → Surveying
surveying_in (Ok t) s = t
surveying_in (Err f) s = s

-- block after block, where so many lines came before
unfoldable pub blocks : ℕ → ℕ → Surveying → List (List ℤ) → Surveying
blocks R lines s [] = s
blocks R lines s (xs ∷ bs) = blocks R (lines + length xs) (counting R lines s xs) bs

-- the same for a second pass into slices of so many places, answer by answer, and the end: the peaks in the order in
-- which they are handed out, until a block is refused
unfoldable pub handing_blocks : ℕ → ℕ → ℕ → ℕ → List (List ℤ) → Result (Handing × ℕ) Refusal → List Peak
handing_blocks R sizes times lines [] (Ok (h, k)) = at_end h
handing_blocks R sizes times lines [] (Err f) = []
handing_blocks R sizes times lines (xs ∷ bs) (Ok (h, k)) =
    closed_by h (timed_of R lines h.reading xs)
    ++ handing_blocks R sizes times (lines + length xs) bs (hands_on h (timed_of R lines h.reading xs) sizes times)
handing_blocks R sizes times lines (xs ∷ bs) (Err f) = []
