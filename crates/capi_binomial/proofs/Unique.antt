-- Two answers that a promise allows are the same answer, with the same later contents of everything that was lent.
-- Assumes nothing.
use Prim.Native.Nat.{ℕ}
use mathlib.Core.Path.{◌≡◌}
use mathlib.Core.List.{List}
use lib.Ieee.{Float}
use Rattle.truth.proofs.Unique.{settled}
use Rattle.capi.specs.Told.{Told}
use Rattle.capi_verdict.specs.Told.{Rating, rates}
use Rattle.capi_binomial.specs.Told.{sum_added, sum_bounded, sum_opened, sum_rated}

pub sum_open_unique : (D : ℕ) (s : List ℕ) (x y : Told) → x ≡ sum_opened D s → y ≡ sum_opened D s → x ≡ y
sum_open_unique D s x y = settled

pub sum_add_unique : (s r : List ℕ) (x y : Told) → x ≡ sum_added s r → y ≡ sum_added s r → x ≡ y
sum_add_unique s r x y = settled

pub sum_bounds_unique : (s out : List ℕ) (x y : Told) → x ≡ sum_bounded s out → y ≡ sum_bounded s out → x ≡ y
sum_bounds_unique s out x y = settled

pub sum_rates_unique :
    (s : List ℕ) (e l u : Float) (x y : Rating) → x ≡ sum_rated s (rates e l u) → y ≡ sum_rated s (rates e l u) → x ≡ y
sum_rates_unique s e l u x y = settled
