-- What each C function of peaks in pieces leaves, from the answers that `peak_stream` gives to the pass that the array
-- holds. Samples are judged before they are taken: 2 names the first place of the piece that is out of range. The
-- ramp's are judged and then left out. Assumes nothing.
use Rattle.std.specs.Prelude.{ℕ, ◌-◌, cond, not, List, map, ltb, ℤ, length, drop, Option, Some, None, Result, Ok, Err}
use Rattle.refusal.specs.Numbers.{number_of, value_of}
use Rattle.refusal.specs.declared.Refusal.TheVariants.{BrokenState, Item, Sample, TooShort}
use Rattle.sample_range.specs.Range.{first_bad}
use Rattle.sample_items.specs.Limits.{step_in_range, ramp_in_range, decorrelation_in_range}
use Rattle.peak_groups.specs.declared.Peak.{Peak}
use Rattle.peak_machine.specs.Step.{size_of, moment_of}
use Rattle.peak_stream.specs.declared.Surveying.{Surveying}
use Rattle.peak_stream.specs.declared.Handing.{Handing}
use Rattle.peak_stream.specs.Survey.{none, sound, taken}
use Rattle.peak_stream.specs.Hands.{waiting, ready, closed_by, hands_on, noted, last_of}
use Rattle.capi.specs.Told.{Told, in_places, refused, told}
use Rattle.capi_peaks.specs.Numbers.{survey_numbers, of_survey, survey_of, ramp_of, ramp_left}
use Rattle.capi_peaks.specs.Numbers.{handing_numbers, of_handing, handing_of, handing_left}
use Rattle.refusal.specs.declared.Refusal.{Refusal}

-- ---- the answers
-- 1, for item 1 or item 2; or no samples yet
unfoldable pub opened_at : ℕ → ℕ → Result Surveying Refusal
opened_at D R =
    cond (not (step_in_range D)) (Err (Item 1))
    (cond (not (ramp_in_range R)) (Err (Item 2))
    (Ok (none D)))

-- 8; 2; else as `peak_stream::take` of what comes after the ramp: 3, or the pass with the piece
unfoldable pub taken_in : Surveying → ℕ → List ℤ → Result Surveying Refusal
taken_in s left xs =
    cond (not (sound s)) (Err BrokenState)
    (cond (ltb (first_bad xs) (length xs)) (Err (Sample (first_bad xs)))
    (taken s (drop left xs)))

-- 8; 1, for item 4; 4; or the second pass, before its first sample
unfoldable pub begun_from : Surveying → ℕ → Result (Handing × ℕ) Refusal
begun_from s τ =
    cond (not (sound s)) (Err BrokenState)
    (cond (not (decorrelation_in_range τ)) (Err (Item 4))
    (cond (ltb s.reading.n 2) (Err TooShort)
    (Ok (waiting s.reading.step τ s.number s.sum, 0))))

-- 8; 2; else as `peak_stream::hand_over` of what comes after the ramp: 3, 7, or the pass with the piece and how many
-- peaks it closed
unfoldable pub handed_in : Handing → ℕ → List ℤ → ℕ → ℕ → Result (Handing × ℕ) Refusal
handed_in h left xs sizes times =
    cond (not (ready h)) (Err BrokenState)
    (cond (ltb (first_bad xs) (length xs)) (Err (Sample (first_bad xs)))
    (hands_on h (drop left xs) sizes times))

-- ---- what is told: an array of another length is 8, before any other refusal
-- the pass stands in the array, with the ramp and what is left of it
unfoldable pub survey_told : Result Surveying Refusal → ℕ → ℕ → List ℕ → Told
survey_told (Ok t) ramp left s = told 0 0 (of_survey t ramp left)
survey_told (Err f) ramp left s = refused f s

unfoldable pub survey_kept : Result Surveying Refusal → ℕ → ℕ → List ℕ → Told
survey_kept a ramp left s = in_places survey_numbers s (survey_told a ramp left s)

-- how many peaks were closed is carried
unfoldable pub handing_told : Result (Handing × ℕ) Refusal → ℕ → List ℕ → Told
handing_told (Ok (h, k)) left s = told 0 k (of_handing h left)
handing_told (Err f) left s = refused f s

unfoldable pub handing_kept : Result (Handing × ℕ) Refusal → ℕ → List ℕ → Told
handing_kept a left s = in_places handing_numbers s (handing_told a left s)

abbrev pub peaks_surveyed : ℕ → ℕ → List ℕ → Told
peaks_surveyed D R s = survey_kept (opened_at D R) R R s

abbrev pub peaks_taken : List ℕ → List ℤ → Told
peaks_taken s xs = survey_kept (taken_in (survey_of s) (ramp_left s) xs) (ramp_of s) (ramp_left s - length xs) s

-- the lent array is that of the second pass; the survey's is read and not changed
abbrev pub peaks_begun : List ℕ → ℕ → List ℕ → Told
peaks_begun survey τ s = handing_kept (begun_from (survey_of survey) τ) (ramp_of survey) s

abbrev pub peaks_answer : List ℕ → List ℤ → List ℕ → List ℕ → Result (Handing × ℕ) Refusal
peaks_answer s xs sizes times = handed_in (handing_of s) (handing_left s) xs (length sizes) (length times)

abbrev pub peaks_handed : List ℕ → List ℤ → List ℕ → List ℕ → Told
peaks_handed s xs sizes times = handing_kept (peaks_answer s xs sizes times) (handing_left s - length xs) s

-- the other two arrays
abbrev pub peaks_closed : List ℕ → List ℤ → List Peak
peaks_closed s xs = closed_by (handing_of s) (drop (handing_left s) xs)

abbrev pub peak_sizes : List ℕ → List ℤ → List ℕ → List ℕ → List ℕ
peak_sizes s xs sizes times = noted (peaks_answer s xs sizes times) (map size_of (peaks_closed s xs)) sizes

abbrev pub peak_times : List ℕ → List ℤ → List ℕ → List ℕ → List ℕ
peak_times s xs sizes times = noted (peaks_answer s xs sizes times) (map moment_of (peaks_closed s xs)) times

-- ---- the last peak
pub record LastTold : Type 0 where
  pub number : ℕ
  pub carried : ℕ
  pub size : ℕ
  pub time : ℕ

abbrev pub last_told : ℕ → ℕ → ℕ → ℕ → LastTold
last_told n v x t = record { number = n; carried = v; size = x; time = t }

-- 1 is carried with a peak; 0 without one, and the two numbers are 0 then
unfoldable pub last_said : Option Peak → LastTold
last_said (Some p) = last_told 0 1 p.size p.time
last_said None = last_told 0 0 0 0

-- or 8, and the two numbers as they stood
unfoldable pub peak_last : List ℕ → ℕ → ℕ → LastTold
peak_last s x t =
    cond (not (ready (handing_of s))) (last_told (number_of BrokenState) (value_of BrokenState) x t)
    (last_said (last_of (handing_of s)))
