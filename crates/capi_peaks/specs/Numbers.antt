-- The two passes of `peak_stream` as the numbers of a lent array, in both directions, with what the array holds of the
-- ramp beside them: ten numbers for the first, twenty-four for the second. An array that holds no pass stands for one
-- that has opened a run without a sample, which every entry refuses by 8. Assumes nothing.
use Rattle.std.specs.Prelude.{ℕ, ◌+◌, Bool, cond, ◌&&◌, ◌||◌, List, [], ◌∷◌, eqb, leb, length}
use Rattle.sample_range.specs.Range.{sample_limit}
use Rattle.sample_items.specs.Limits.{step_in_range, ramp_in_range, decorrelation_in_range, longest_time}
use Rattle.peak_groups.specs.declared.Peak.{Peak}
use Rattle.peak_groups.specs.declared.Group.{Group}
use Rattle.peak_groups.specs.Groups.{nothing}
use Rattle.peak_machine.specs.Step as step
use Rattle.peak_stream.specs.declared.Reading.{Reading}
use Rattle.peak_stream.specs.declared.Surveying.{Surveying}
use Rattle.peak_stream.specs.declared.Handing.{Handing}
use Rattle.capi.specs.Numbers.{flag, number_at}

-- the greatest number of 32 bits
abbrev pub most32 : ℕ
most32 = 4294967295

-- ---- a peak: three numbers, of which the first is 1 below zero, else 0
abbrev pub of_peak : Peak → List ℕ → List ℕ
of_peak p rest = flag p.below ∷ p.size ∷ p.time ∷ rest

abbrev pub peak_at : List ℕ → ℕ → Peak
peak_at s i = record { below = eqb (number_at s i) 1; size = number_at s (i + 1); time = number_at s (i + 2) }

-- no larger than a sample in range, and no later than a record may be long
abbrev pub peak_fits : List ℕ → ℕ → Bool
peak_fits s i = leb (number_at s i) 1 && (leb (number_at s (i + 1)) sample_limit && leb (number_at s (i + 2)) longest_time)

-- ---- a group: seven
abbrev pub of_group : Group → List ℕ → List ℕ
of_group g rest = g.opened ∷ of_peak g.last (of_peak g.best rest)

abbrev pub group_at : List ℕ → ℕ → Group
group_at s i = record { opened = number_at s i; last = peak_at s (i + 1); best = peak_at s (i + 4) }

abbrev pub group_fits : List ℕ → ℕ → Bool
group_fits s i = peak_fits s (i + 1) && peak_fits s (i + 4)

-- ---- a reading: six, with which both passes start
abbrev pub of_reading : Reading → List ℕ → List ℕ
of_reading r rest = r.step ∷ r.n ∷ r.opened ∷ of_peak r.best rest

abbrev pub reading_at : List ℕ → Reading
reading_at s = record { best = peak_at s 3; step = number_at s 0; n = number_at s 1; opened = number_at s 2 }

abbrev pub reading_fits : List ℕ → Bool
reading_fits s = step_in_range (number_at s 0) && (leb (number_at s 1) most32 && (leb (number_at s 2) most32 && peak_fits s 3))

-- a run that no sample opened
abbrev pub no_reading : Reading
no_reading = record { best = nothing; step = 0; n = 0; opened = 1 }

-- how many of the ramp's samples are still to come, while no timed sample came
abbrev pub left_fits : List ℕ → ℕ → Bool
left_fits s i = ramp_in_range (number_at s i) && (eqb (number_at s i) 0 || eqb (number_at s 1) 0)

-- ---- the first pass: a reading, the number and the sum; the ramp, and how much of it is left
abbrev pub survey_numbers : ℕ
survey_numbers = 10

abbrev pub of_survey : Surveying → ℕ → ℕ → List ℕ
of_survey s ramp left = of_reading s.reading (s.number ∷ s.sum ∷ ramp ∷ left ∷ [])

abbrev pub no_survey : Surveying
no_survey = record { reading = no_reading; number = 0; sum = 0 }

abbrev pub survey_at : List ℕ → Surveying
survey_at s = record { reading = reading_at s; number = number_at s 6; sum = number_at s 7 }

abbrev pub survey_fits : List ℕ → Bool
survey_fits s = reading_fits s && (leb (number_at s 6) most32 && (ramp_in_range (number_at s 8) && left_fits s 9))

abbrev pub is_survey : List ℕ → Bool
is_survey s = eqb (length s) survey_numbers && survey_fits s

unfoldable pub survey_of : List ℕ → Surveying
survey_of s = cond (is_survey s) (survey_at s) no_survey

-- the ramp, and what is left of it
abbrev pub ramp_of : List ℕ → ℕ
ramp_of s = number_at s 8

abbrev pub ramp_left : List ℕ → ℕ
ramp_left s = number_at s 9

-- ---- the second: a reading, the stretches, the chains, the decorrelation time, the number and the sum; and how much
-- ---- of the ramp is left
abbrev pub handing_numbers : ℕ
handing_numbers = 24

abbrev pub of_handing : Handing → ℕ → List ℕ
of_handing h left =
    of_reading h.reading
    (of_group h.envelope.stretches
    (of_group h.envelope.chains (h.decorrelation ∷ h.number ∷ h.sum ∷ left ∷ [])))

abbrev pub no_handing : Handing
no_handing = record { reading = no_reading; envelope = step.fresh; decorrelation = 0; number = 0; sum = 0 }

abbrev pub handing_at : List ℕ → Handing
handing_at s =
    record {
      reading = reading_at s;
      envelope = record { stretches = group_at s 6; chains = group_at s 13 };
      decorrelation = number_at s 20;
      number = number_at s 21;
      sum = number_at s 22;
    }

abbrev pub handing_fits : List ℕ → Bool
handing_fits s =
    reading_fits s
    && (group_fits s 6
    && (group_fits s 13
    && (decorrelation_in_range (number_at s 20)
    && (leb (number_at s 21) most32
    && left_fits s 23))))

abbrev pub is_handing : List ℕ → Bool
is_handing s = eqb (length s) handing_numbers && handing_fits s

unfoldable pub handing_of : List ℕ → Handing
handing_of s = cond (is_handing s) (handing_at s) no_handing

abbrev pub handing_left : List ℕ → ℕ
handing_left s = number_at s 23
