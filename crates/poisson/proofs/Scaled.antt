-- S(j, a/b) over one denominator, b ^ j * j!. The sum in specs/ multiplies its denominators and soon is too large to
-- compute; of this form the laws are proved, and the checker computes it at every row. `same` says that the two forms
-- are equal fractions, so that a comparison of sums is one of whole numbers (`to_scaled`, `from_scaled`). Assumes
-- nothing.
use mathlib.Core.Path.{◌≡◌, ap, refl, subst, sym}
use Prim.Native.Nat.{ℕ, zero, suc, ◌+◌, ◌*◌, ◌^◌, ◌<◌}
use native.Mathlib.Nat.{lt_of_mul-lt-mul_right, mul-lt-mul_of_pos_right, mul-pos, pow-suc, pow-zero, zero-lt-suc}
use native.Mathlib.Omega.{arith}
use lib.Dec.{lit<}
use Rattle.poisson.specs.Fractions.{over, times, Less}
use Rattle.poisson.specs.Series.{factorial, S}

unfoldable pub denom : ℕ → ℕ → ℕ
denom b zero = 1
denom b (suc j) = denom b j * (b * suc j)

-- the term after the first j is a ^ j / denom b j; it is added, and the sum goes over to the next denominator
unfoldable pub numer : ℕ → ℕ → ℕ → ℕ
numer a b zero = 0
numer a b (suc j) = (numer a b j + a ^ j) * (b * suc j)

pub denom_is : (b j : ℕ) → denom b j ≡ b ^ j * factorial j
unfolding denom factorial
denom_is b zero = rw pow-zero
denom_is b (suc j) = rw (pow-suc, denom_is b j) (omega arith)

pub denom_pos : {b : ℕ} → 0 < b → (j : ℕ) → 0 < denom b j
unfolding denom
denom_pos h zero = lit< tt
denom_pos h (suc j) = mul-pos (denom_pos h j) (mul-pos h (zero-lt-suc j))

pub numer_pos : {b : ℕ} → 0 < b → (a j : ℕ) → 0 < numer a b (suc j)
unfolding numer
numer_pos h a zero = mul-pos (rw pow-zero (omega arith)) (mul-pos h (zero-lt-suc 0))
numer_pos h a (suc j) = mul-pos (omega (arith, numer_pos h a j)) (mul-pos h (zero-lt-suc (suc j)))

pub bottom_pos : (a : ℕ) {b : ℕ} → 0 < b → (j : ℕ) → 0 < (S j (over a b)).bottom
unfolding S
bottom_pos a h zero = lit< tt
bottom_pos a {b} h (suc j) = mul-pos (bottom_pos a h j) (subst (λ (d : ℕ). 0 < d) (denom_is b j) (denom_pos h j))

pub same : (a b j : ℕ) → (S j (over a b)).top * denom b j ≡ numer a b j * (S j (over a b)).bottom
unfolding S denom numer
same a b zero = refl
same a b (suc j) = rw (← denom_is b j) (omega (arith, ap (λ (x : ℕ). x * (denom b j * (b * suc j))) (same a b j)))

-- an equal fraction n/d for t/b, on both sides of a comparison
less_equal : (p q t b n d t' b' n' d' : ℕ) → t * d ≡ n * b → t' * d' ≡ n' * b' → 0 < b → 0 < b' → p * n * d' < q * n' * d → p * t * b' < q * t' * b
less_equal p q t b n d t' b' n' d' e e' hb hb' h =
    lt_of_mul-lt-mul_right (d * d')
    (omega (
      arith,
      mul-lt-mul_of_pos_right h (mul-pos hb hb'),
      ap (λ (x : ℕ). p * x * (d' * b')) e,
      ap (λ (x : ℕ). q * x * (d * b)) e',
    ))

-- p S(n, a/b) < q S(k, a/b), over the one denominator
abbrev pub Passes : ℕ → ℕ → ℕ → ℕ → ℕ → ℕ → Type 0
Passes p q a b n k = p * numer a b n * denom b k < q * numer a b k * denom b n

module _ (p q a n k : ℕ) {b : ℕ} (unit : 0 < b) where
  pub to_scaled : Less (times p (S n (over a b))) (times q (S k (over a b))) → Passes p q a b n k
  to_scaled h = less_equal p q _ _ _ _ _ _ _ _ (sym (same a b n)) (sym (same a b k)) (denom_pos unit n) (denom_pos unit k) h

  pub from_scaled : Passes p q a b n k → Less (times p (S n (over a b))) (times q (S k (over a b)))
  from_scaled h = less_equal p q _ _ _ _ _ _ _ _ (same a b n) (same a b k) (bottom_pos a unit n) (bottom_pos a unit k) h
