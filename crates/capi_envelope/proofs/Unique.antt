-- Two answers that the promise allows are the same answer, with the same later contents of both arrays. Assumes
-- nothing.
use Prim.Native.Nat.{ℕ}
use mathlib.Core.Path.{◌≡◌}
use mathlib.Core.List.{List}
use lib.IntN.{ℤ}
use Rattle.truth.proofs.Unique.{settled}
use Rattle.capi.specs.Told.{Told}
use Rattle.capi_envelope.specs.Told.{envelope_found, envelope_times}

pub envelope_find_unique : (D R τ : ℕ) (xs : List ℤ) (sizes times : List ℕ) (x y : Told) (s t : List ℕ)
    → x ≡ envelope_found D R τ xs sizes times → y ≡ envelope_found D R τ xs sizes times → s ≡ envelope_times D R τ xs sizes times → t ≡ envelope_times D R τ xs sizes times → (x ≡ y) × (s ≡ t)
envelope_find_unique D R τ xs sizes times x y s t e f g h = (settled e f, settled g h)
