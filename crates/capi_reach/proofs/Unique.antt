-- Two answers that the promise allows are the same answer, with the same later contents of what was lent. Assumes
-- nothing.
use Prim.Native.Nat.{ℕ}
use mathlib.Core.Path.{◌≡◌}
use mathlib.Core.List.{List}
use Rattle.truth.proofs.Unique.{settled}
use Rattle.capi.specs.Told.{Told}
use Rattle.capi_reach.specs.Told.{beyond_told}

pub extrapolate_unique : (ys : List ℕ) (k c D P q : ℕ) (out : List ℕ) (x y : Told)
    → x ≡ beyond_told ys k c D P q out → y ≡ beyond_told ys k c D P q out → x ≡ y
extrapolate_unique ys k c D P q out x y = settled
