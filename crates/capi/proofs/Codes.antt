-- The code of a sample: what the two functions compute is the definition, by cases on the sign, and the code read back
-- is the sample. Assumes nothing.
use Prim.Native.Nat.{ℕ, zero, suc, ◌+◌, ◌-◌, ◌/◌, ◌%◌, ◌≤◌}
use mathlib.Core.Path.{◌≡◌, refl, ap, ◌∙◌}
use mathlib.Core.Bool.{false, true}
use native.Mathlib.Nat.{zero-add}
use native.Mathlib.Omega.{arith}
use borrow.Author.Tests.{eq-eqb, ltb-true, ne_eqb}
use lib.IntN.{ℤ, pos, negsuc, nat_abs, ◌-ℤ◌}
use lib.Signed.{lt_z}
use Rattle.truth.proofs.Laws.{impossible}
use Rattle.capi.specs.Numbers.{code_of, highest_code, sample_of}

pub code_negative : (x : ℤ) → lt_z x (pos 0) ≡ true → (1 ≤ nat_abs x + nat_abs x) × (nat_abs x + nat_abs x - 1 ≡ code_of x)
unfolding code_of
code_negative (pos n) t = absurd (omega (arith, ltb-true n 0 t))
code_negative (negsuc n) t = (omega arith, omega arith)

pub code_other : (x : ℤ) → lt_z x (pos 0) ≡ false → nat_abs x + nat_abs x ≡ code_of x
unfolding code_of
code_other (pos n) t = refl
code_other (negsuc n) t = let z : true ≡ false = t in impossible (cc)

pub below-zero : (n : ℕ) → negsuc 0 -ℤ pos n ≡ negsuc n
below-zero zero = refl
below-zero (suc n) = ap (λ (k : ℕ). negsuc (suc k)) (zero-add n)

pub sample_even : (k : ℕ) → k % 2 ≡ 0 → sample_of k ≡ pos (k / 2)
unfolding sample_of
sample_even k e = rw (eq-eqb _ _ e)

pub sample_odd : (k : ℕ) → ¬ (k % 2 ≡ 0) → sample_of k ≡ negsuc (k / 2)
unfolding sample_of
sample_odd k e = rw (ne_eqb _ _ e)

pub read_back : (x : ℤ) → sample_of (code_of x) ≡ x
unfolding code_of
read_back (pos n) = let h : (n + n) / 2 ≡ n = omega arith in sample_even (n + n) (omega arith) ∙ ap pos h
read_back (negsuc n) =
    let h : (n + n + 1) / 2 ≡ n = omega arith in
    sample_odd (n + n + 1) (λ e. omega arith) ∙ ap negsuc h

pub code_high : (x : ℤ) → nat_abs x ≤ 1000000 → code_of x ≤ highest_code
unfolding code_of
code_high (pos n) h = omega arith
code_high (negsuc n) h = omega arith
