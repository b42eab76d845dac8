-- Calls one after the other, each finding the array as the last one left it: a record handed over in pieces, once for
-- each pass. Assumes nothing.
use Rattle.std.specs.Prelude.{ℕ, ◌≡◌, List, [], ◌∷◌, ◌++◌, ℤ}
use Rattle.peak_groups.specs.declared.Peak.{Peak}
use Rattle.peak_stream.specs.Hands.{at_end}
use Rattle.capi_peaks.specs.Numbers.{handing_of}
use Rattle.capi_peaks.specs.Told.{peaks_begun, peaks_closed, peaks_handed, peaks_surveyed, peaks_taken}

-- ---- chim_peaks_take, piece after piece: the array then, and that no call was refused
unfoldable pub survey_after : List ℕ → List (List ℤ) → List ℕ
survey_after s [] = s
survey_after s (p ∷ ps) = survey_after (peaks_taken s p).lent ps

abbrev pub AllTaken : List ℕ → List (List ℤ) → Type 0
AllTaken s [] = Unit {0}
AllTaken s (p ∷ ps) = ((peaks_taken s p).number ≡ 0) × AllTaken (peaks_taken s p).lent ps

-- ---- chim_peaks_hand_over, into slices of that length, and chim_peaks_last: the peaks, in order
module _ (sizes times : List ℕ) where
  unfoldable pub given_out : List ℕ → List (List ℤ) → List Peak
  given_out s [] = at_end (handing_of s)
  given_out s (p ∷ ps) = peaks_closed s p ++ given_out (peaks_handed s p sizes times).lent ps

  abbrev pub AllHanded : List ℕ → List (List ℤ) → Type 0
  AllHanded s [] = Unit {0}
  AllHanded s (p ∷ ps) =
      ((peaks_handed s p sizes times).number ≡ 0) × AllHanded (peaks_handed s p sizes times).lent ps

-- ---- both passes, over ps and then over qs, from any two arrays
abbrev pub surveyed : ℕ → ℕ → List ℕ → List (List ℤ) → List ℕ
surveyed D R s ps = survey_after (peaks_surveyed D R s).lent ps

abbrev pub begun : ℕ → ℕ → ℕ → List ℕ → List ℕ → List (List ℤ) → List ℕ
begun D R τ s h ps = (peaks_begun (surveyed D R s ps) τ h).lent
