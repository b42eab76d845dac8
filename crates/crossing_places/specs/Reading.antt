-- Document 01, "Reading a record", with document 02's [5] and [8], over the whole list xs of samples, each a moment of
-- both channels: D is the step, R the ramp, a the two levels, τ the decorrelation time. Samples are numbered from 0.
-- Assumes nothing.
use Rattle.std.specs.Prelude.{ℕ, zero, suc, ◌+◌, ◌-◌, ◌*◌, Bool, cond, not, ◌&&◌, List, [], ◌∷◌, map, length, get_or, ltb}
use Rattle.sample_channels.specs.declared.Levels.{Levels}
use Rattle.sample_channels.specs.declared.Moment.{Moment}
use Rattle.sample_channels.specs.Channels.{still, above}
use Rattle.sample_items.specs.declared.Items.{Items}
use Rattle.crossing_sets.specs.Walk.{walk}
use Rattle.crossing_sets.specs.Groups as grouping

-- the moment of sample i, in ms after the ramp
abbrev pub time_at : ℕ → ℕ → ℕ → ℕ
time_at D R i = (i - R) * D

-- sample i
abbrev pub sample_at : List Moment → ℕ → Moment
sample_at xs i = get_or xs i still

-- from x to y a level is crossed: x is above in neither channel, y in one
abbrev pub rises : Levels → Moment → Moment → Bool
rises a x y = not (above a x) && above a y

-- a crossing stands at sample i if i - 1 is at least R and a level is crossed from sample i - 1 to sample i
abbrev pub crosses_at : ℕ → Levels → List Moment → ℕ → Bool
crosses_at R a xs i = ltb R i && rises a (sample_at xs (i - 1)) (sample_at xs i)

-- the numbers from k on, n of them, that pass a test
unfoldable pub passing : (ℕ → Bool) → ℕ → ℕ → List ℕ
passing f k zero = []
passing f k (suc n) = cond (f k) (k ∷ passing f (k + 1) n) (passing f (k + 1) n)

-- the places of the crossings, in order
abbrev pub crossings : ℕ → Levels → List Moment → List ℕ
crossings R a xs = passing (crosses_at R a xs) 0 (length xs)

-- a list's first member, or d where it has none
unfoldable pub first_of : {A : Type 0} → A → List A → A
first_of d [] = d
first_of d (x ∷ xs) = x

-- a list's last member, or d where it has none
unfoldable pub last_of : {A : Type 0} → A → List A → A
last_of d [] = d
last_of d (x ∷ xs) = last_of x xs

-- the place of the first crossing, which is the first failure; `none` where there is no crossing
abbrev pub first_crossing : ℕ → ℕ → Levels → List Moment → ℕ
first_crossing none R a xs = first_of none (crossings R a xs)

-- the groups: runs of successive crossings, each less than τ after the crossing just before it
abbrev pub groups : Items → List Moment → List (List ℕ)
groups items xs =
    grouping.groups
    (grouping.near (time_at items.step items.ramp) items.decorrelation)
    (crossings items.ramp items.levels xs)

-- the places of the counted failures: each group's first crossing
abbrev pub counted : Items → List Moment → List ℕ
counted items xs = grouping.firsts (groups items xs)

-- the places of the largest set: the first crossing, and a later one if its time is at least τ after that of the last
-- one in it
abbrev pub largest_set : Items → List Moment → List ℕ
largest_set items xs =
    walk (time_at items.step items.ramp) items.decorrelation (crossings items.ramp items.levels xs)

-- the times of the counted failures
abbrev pub counted_times : Items → List Moment → List ℕ
counted_times items xs = map (time_at items.step items.ramp) (counted items xs)

-- the items of timed samples alone: those of a record without a ramp
abbrev pub unramped : ℕ → Levels → ℕ → Items
unramped D a τ = record { step = D; ramp = 0; levels = a; decorrelation = τ }

-- the full time of n samples, for n of at least R + 2
abbrev pub full_time : ℕ → ℕ → ℕ → ℕ
full_time D R n = (n - 1 - R) * D

-- n samples have no full time yet
abbrev pub too_few : ℕ → ℕ → Bool
too_few R n = ltb n (R + 2)
