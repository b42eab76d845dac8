-- Document 01, "Sums on the slate", and document 02, [5], [6] and [8]: the marked cases as one table, and what makes a
-- row right. Assumes nothing.
use Prim.Native.Nat.{ℕ}
use mathlib.Core.Bool.{Bool, true, false, ◌&&◌}
use mathlib.Core.List.{List, [], ◌∷◌, map}
use lib.ListN.{length}
use lib.Dec.{eqb}
use lib.IntN.{ℤ, pos, negsuc}
use Rattle.poisson.specs.Tables.{l, u}
use Rattle.campaign_state.specs.declared.Campaign.{Campaign}
use Rattle.campaign_state.specs.Answers.{entering}
use Rattle.campaign_verdict.specs.Figures.{verdict_of}
use Rattle.campaign_verdict.specs.Letters.{letter_e, letter_of}
use Rattle.sample_channels.specs.declared.Moment.{Moment}
use Rattle.sample_channels.specs.Channels.{moments}
use Rattle.sample_items.specs.declared.Items.{Items}
use Rattle.crossing_places.specs.Reading.{time_at, crossings, groups, counted_times, largest_set, full_time}
use Rattle.refusal.specs.declared.Refusal.{Refusal}
use Rattle.std.specs.Prelude.{Result, Ok, Err}

-- a marked case
pub data Row : Type 0 where
  -- samples of a one-channel job, read by its items: the times of the crossings; the number of groups, the times of
  -- their first crossings; the number in the largest set, its times; and the full time
  reading : Items → List ℤ → List ℕ → ℕ → List ℕ → ℕ → List ℕ → ℕ → Row
  -- samples of the roll and of the acceleration, read by their items: the times of the crossings, and the number of
  -- groups
  watching : Items → List ℤ → List ℤ → List ℕ → ℕ → Row
  -- the upper and the lower row of a count
  bounds : (n upper lower : ℕ) → Row
  -- the verdict of a campaign, by its letter
  weighing : Campaign → ℕ → Row
  -- and after one more record without failure, of so many ms, was taken
  weighing_later : Campaign → ℕ → ℕ → Row

unfoldable pub same : List ℕ → List ℕ → Bool
same [] [] = true
same [] (y ∷ ys) = false
same (x ∷ xs) [] = false
same (x ∷ xs) (y ∷ ys) = eqb x y && same xs ys

-- 0 where the record was refused
abbrev pub letter_after : Result Campaign Refusal → ℕ
letter_after (Ok c) = letter_of letter_e (verdict_of c)
letter_after (Err r) = 0

-- a one-channel job lends zeros for the other
abbrev pub zeros : List ℤ → List ℤ
zeros xs = map (λ (x : ℤ). pos 0) xs

abbrev pub alone : List ℤ → List Moment
alone xs = moments xs (zeros xs)

-- the usual levels of document 000 and a step of 500 ms, with a ramp of R samples and a decorrelation time of τ ms
abbrev pub usual : ℕ → ℕ → Items
usual R τ =
    record { step = 500; ramp = R; levels = record { roll = 40000; acceleration = 9810 }; decorrelation = τ }

-- the moments of places, by the items
abbrev pub times : Items → List ℕ → List ℕ
times items places = map (time_at items.step items.ramp) places

-- the places of the crossings
abbrev pub crossed : Items → List Moment → List ℕ
crossed items xs = crossings items.ramp items.levels xs

-- what a row says is so by the definitions
unfoldable pub right : Row → Bool
right (reading items xs crossing count counted largest set full) =
    same (times items (crossed items (alone xs))) crossing
    && (eqb (length (groups items (alone xs))) count
    && (same (counted_times items (alone xs)) counted
    && (eqb (length (largest_set items (alone xs))) largest
    && (same (times items (largest_set items (alone xs))) set
    && eqb (full_time items.step items.ramp (length xs)) full))))
right (watching items xs ys crossing count) =
    same (times items (crossed items (moments xs ys))) crossing
    && eqb (length (groups items (moments xs ys))) count
right (bounds n upper lower) = eqb (u n) upper && eqb (l n) lower
right (weighing c letter) = eqb (letter_of letter_e (verdict_of c)) letter
right (weighing_later c t letter) = eqb (letter_after (entering c (record { failed = false; exposure = t }))) letter

unfoldable pub all_right : List Row → Bool
all_right [] = true
all_right (r ∷ rs) = right r && all_right rs

abbrev pub bobbing : List ℤ
bobbing = pos 0 ∷ pos 41000 ∷ pos 39000 ∷ pos 41000 ∷ pos 39000 ∷ pos 41000 ∷ pos 0 ∷ []

-- seven crossings: four in a row, a pause, three in a row
abbrev pub twice : List ℤ
twice =
    pos 0 ∷ pos 41000 ∷ pos 0 ∷ negsuc 40999 ∷ pos 0 ∷ pos 41000 ∷ pos 0 ∷ negsuc 40999 ∷ pos 0 ∷ pos 0 ∷ pos 0 ∷ pos 0 ∷ pos 41000 ∷ pos 0 ∷ negsuc 40999 ∷ pos 0 ∷ pos 41000 ∷ []

-- q = 7,200,000; M records of which the last failed or not, N failures, T ms
abbrev pub at : ℕ → ℕ → Bool → ℕ → Campaign
at M N f T = record { standard = 7200000; records = M; failures = N; exposure = T; failed = f }

-- A to H, seven crossings in two groups; either channel alone, at its level, and one after the other; I to K, then
-- document 02's case of [6]
unfoldable pub slate : List Row
slate =
    reading (usual 0 2000) bobbing (500 ∷ 1500 ∷ 2500 ∷ []) 1 (500 ∷ []) 2 (500 ∷ 2500 ∷ []) 3000
    ∷ reading (usual 0 2001) bobbing (500 ∷ 1500 ∷ 2500 ∷ []) 1 (500 ∷ []) 1 (500 ∷ []) 3000
    ∷ reading (usual 0 0) bobbing (500 ∷ 1500 ∷ 2500 ∷ []) 3 (500 ∷ 1500 ∷ 2500 ∷ []) 3 (500 ∷ 1500 ∷ 2500 ∷ []) 3000
    ∷ reading (usual 0 2000) (pos 40000 ∷ pos 40000 ∷ []) [] 0 [] 0 [] 500
    ∷ reading (usual 0 2000) (pos 40000 ∷ pos 40001 ∷ []) (500 ∷ []) 1 (500 ∷ []) 1 (500 ∷ []) 500
    ∷ reading (usual 0 2000) (pos 41000 ∷ pos 0 ∷ negsuc 40999 ∷ []) (1000 ∷ []) 1 (1000 ∷ []) 1 (1000 ∷ []) 1000
    ∷ reading (usual 0 2000) (pos 0 ∷ pos 41000 ∷ negsuc 40999 ∷ []) (500 ∷ []) 1 (500 ∷ []) 1 (500 ∷ []) 1000
    ∷ reading (usual 2 2000) (pos 0 ∷ pos 41000 ∷ pos 41000 ∷ pos 0 ∷ pos 41000 ∷ []) (1000 ∷ []) 1 (1000 ∷ []) 1 (1000 ∷ []) 1000
    ∷ reading (usual 0 2000) twice (500 ∷ 1500 ∷ 2500 ∷ 3500 ∷ 6000 ∷ 7000 ∷ 8000 ∷ []) 2 (500 ∷ 6000 ∷ []) 4 (500 ∷ 2500 ∷ 6000 ∷ 8000 ∷ []) 8000
    ∷ watching (usual 0 0) (pos 0 ∷ pos 0 ∷ []) (pos 0 ∷ pos 9811 ∷ []) (500 ∷ []) 1
    ∷ watching (usual 0 0) (pos 0 ∷ pos 40000 ∷ []) (pos 0 ∷ negsuc 9809 ∷ []) [] 0
    ∷ watching (usual 0 0) (pos 41000 ∷ pos 0 ∷ []) (pos 0 ∷ pos 9811 ∷ []) [] 0
    ∷ watching (usual 0 0) (pos 0 ∷ pos 41000 ∷ pos 0 ∷ pos 0 ∷ []) (pos 0 ∷ pos 0 ∷ negsuc 9810 ∷ pos 0 ∷ []) (500 ∷ []) 1
    ∷ watching (usual 0 1500) (pos 0 ∷ pos 41000 ∷ pos 0 ∷ pos 0 ∷ pos 0 ∷ []) (pos 0 ∷ pos 0 ∷ pos 0 ∷ pos 9811 ∷ pos 0 ∷ []) (500 ∷ 1500 ∷ []) 1
    ∷ bounds 1 3688880 25317
    ∷ weighing (at 3 0 false 26559936) 67
    ∷ weighing (at 3 0 false 26559937) 65
    ∷ weighing (at 1 1 true 182282) 82
    ∷ weighing (at 1 1 true 182283) 67
    ∷ weighing (at 3 1 true 26559937) 65
    ∷ weighing_later (at 3 1 true 26559937) 1000 67
    ∷ []
