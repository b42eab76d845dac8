-- Two answers that a promise allows are the same answer, with the same later contents of everything that was lent.
-- Assumes nothing.
use Prim.Native.Nat.{ℕ}
use mathlib.Core.Path.{◌≡◌}
use mathlib.Core.List.{List}
use lib.IntN.{ℤ}
use Rattle.truth.proofs.Unique.{settled}
use Rattle.capi.specs.Told.{Told}
use Rattle.capi_peaks.specs.Told.{LastTold, peak_last, peak_sizes, peak_times, peaks_begun, peaks_handed}
use Rattle.capi_peaks.specs.Told.{peaks_surveyed, peaks_taken}

pub peaks_survey_unique : (D R : ℕ) (s : List ℕ) (x y : Told) → x ≡ peaks_surveyed D R s → y ≡ peaks_surveyed D R s
    → x ≡ y
peaks_survey_unique D R s x y = settled

pub peaks_take_unique : (s : List ℕ) (xs : List ℤ) (x y : Told) → x ≡ peaks_taken s xs → y ≡ peaks_taken s xs → x ≡ y
peaks_take_unique s xs x y = settled

pub peaks_begin_unique : (survey : List ℕ) (τ : ℕ) (s : List ℕ) (x y : Told) → x ≡ peaks_begun survey τ s
    → y ≡ peaks_begun survey τ s → x ≡ y
peaks_begin_unique survey τ s x y = settled

module _ (s : List ℕ) (xs : List ℤ) (sizes times : List ℕ) where
  -- what is told, and both slices
  abbrev HandsOut : Told → List ℕ → List ℕ → Type 0
  HandsOut x a b =
      (x ≡ peaks_handed s xs sizes times) × (a ≡ peak_sizes s xs sizes times) × (b ≡ peak_times s xs sizes times)

  pub peaks_hand_over_unique : (x y : Told) (a b c d : List ℕ) → HandsOut x a c → HandsOut y b d
      → (x ≡ y) × (a ≡ b) × (c ≡ d)
  peaks_hand_over_unique x y a b c d p q = (settled p.0 q.0, settled p.1 q.1, settled p.2 q.2)

pub peaks_last_unique : (s : List ℕ) (size time : ℕ) (x y : LastTold) → x ≡ peak_last s size time
    → y ≡ peak_last s size time → x ≡ y
peaks_last_unique s size time x y = settled
