-- The side of a sample as the code tests it: below zero or not, a zero on either. Assumes nothing.
use Prim.Native.Nat.{zero, suc}
use mathlib.Core.Path.{◌≡◌, refl}
use mathlib.Core.Bool.{true, false, not}
use native.Mathlib.Omega.{arith}
use borrow.Author.Tests.{ne_eqb, lt-ltb, le-ltb}
use lib.IntN.{ℤ, pos, negsuc}
use lib.Signed.{lt_z}
use Rattle.peak_groups.specs.Runs.{same, side}

pub side_first : (x : ℤ) → lt_z x (pos 0) ≡ side false x
side_first (pos zero) = refl
side_first (pos (suc n)) = rw (ne_eqb (suc n) 0 (λ z. omega arith))
side_first (negsuc n) = rw (ne_eqb (suc n) 0 (λ z. omega arith))

pub stays_below : (x : ℤ) → not (lt_z (pos 0) x) ≡ same true (side true x)
stays_below (pos zero) = refl
stays_below (pos (suc n)) = rw (ne_eqb (suc n) 0 (λ z. omega arith), lt-ltb 0 (suc n) (omega arith), le-ltb (suc n) 0 (omega arith))
stays_below (negsuc n) = rw (ne_eqb (suc n) 0 (λ z. omega arith))

pub stays_above : (x : ℤ) → not (lt_z x (pos 0)) ≡ same false (side false x)
stays_above (pos zero) = refl
stays_above (pos (suc n)) = rw (ne_eqb (suc n) 0 (λ z. omega arith))
stays_above (negsuc n) = rw (ne_eqb (suc n) 0 (λ z. omega arith))
