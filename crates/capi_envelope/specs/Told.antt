-- What the C function of envelope peaks leaves: the answer of `peak_envelope::find`, told by a number and what it
-- carries, and both lent arrays. Assumes nothing.
use Rattle.std.specs.Prelude.{ℕ, List, map, length, ℤ, Result, Ok, Err}
use Rattle.peak_groups.specs.Peaks.{handed}
use Rattle.peak_machine.specs.Step.{size_of, moment_of}
use Rattle.peak_envelope.specs.Answers.{found, written}
use Rattle.capi.specs.Told.{Told, refused, told}
use Rattle.refusal.specs.declared.Refusal.{Refusal}

-- the number of peaks is carried, and the lent array is that of the magnitudes
unfoldable pub found_told : Result ℕ Refusal → List ℕ → Told
found_told (Ok k) s = told 0 k s
found_told (Err f) s = refused f s

abbrev pub envelope_found : ℕ → ℕ → ℕ → List ℤ → List ℕ → List ℕ → Told
envelope_found D R τ xs sizes times = found_told (found D R τ xs (length sizes) (length times)) (written (found D R τ xs (length sizes) (length times)) (map size_of (handed D R τ xs)) sizes)

-- the other array, that of the times
abbrev pub envelope_times : ℕ → ℕ → ℕ → List ℤ → List ℕ → List ℕ → List ℕ
envelope_times D R τ xs sizes times = written (found D R τ xs (length sizes) (length times)) (map moment_of (handed D R τ xs)) times
