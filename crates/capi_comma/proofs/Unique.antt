-- Two answers that a promise allows are the same answer, with the same later contents of everything that was lent.
-- Assumes nothing.
use Prim.Native.Nat.{ℕ}
use mathlib.Core.Path.{◌≡◌}
use mathlib.Core.List.{List}
use lib.IntN.{ℤ}
use Rattle.truth.proofs.Unique.{settled}
use Rattle.capi.specs.Told.{Told}
use Rattle.capi_comma.specs.Told.{comma_read, comma_samples, comma_written}

pub comma_read_unique : (D : ℕ) (text : List ℕ) (slice later other : List ℤ) (x y : Told)
    → x ≡ comma_read D text slice → y ≡ comma_read D text slice → later ≡ comma_samples D text slice → other ≡ comma_samples D text slice → (x ≡ y) × (later ≡ other)
comma_read_unique D text slice later other x y e f g h = (settled e f, settled g h)

pub comma_write_unique : (D : ℕ) (xs : List ℤ) (out : List ℕ) (x y : Told) → x ≡ comma_written D xs out → y ≡ comma_written D xs out → x ≡ y
comma_write_unique D xs out x y = settled
