-- A logarithm's figure compares powers: where p/a is at most 2 ^ (H / n) and c/u at least 2 ^ (g / n), m H ≤ l g gives
-- (p/a) ^ m ≤ (c/u) ^ l. Both sides are raised to n, compared there, and brought down again. Assumes nothing.
use mathlib.Core.Path.{◌≡◌, ap, sym, ◌∙◌}
use Prim.Native.Nat.{ℕ, zero, suc, ◌+◌, ◌-◌, ◌*◌, ◌^◌, ◌≤◌, ◌<◌}
use native.Mathlib.Nat.{le_of_mul-le-mul_right, mul_comm, mul-le-mul, mul-le-mul_right, mul-pos, mul-suc, mul-zero}
use native.Mathlib.Nat.{not-le_of_lt, one-le-pow, pow-le-pow_left, pow-lt-pow_left, pow-suc, pow-zero}
use native.Mathlib.Decide.{dec_le}
use native.Mathlib.Omega.{arith}
use lib.Pow.{pow-add, pow-lt, pow_mono}
use Rattle.peak_reach.specs.Reach.{PowersAtMost}

pub mul-pow : (a b n : ℕ) → (a * b) ^ n ≡ a ^ n * b ^ n
mul-pow a b zero = simp pow-zero
mul-pow a b (suc n) = simp (pow-suc, mul-pow a b n) (omega arith)

pub pow-pow : (a m n : ℕ) → (a ^ m) ^ n ≡ a ^ (m * n)
pow-pow a m zero = rw (mul-zero, pow-zero, pow-zero)
pow-pow a m (suc n) = rw (pow-suc (a ^ m) n, mul-suc, pow-add, pow-pow a m n)

pow_swap : (a m n : ℕ) → (a ^ m) ^ n ≡ (a ^ n) ^ m
pow_swap a m n = pow-pow a m n ∙ ap (λ (e : ℕ). a ^ e) (mul_comm m n) ∙ sym (pow-pow a n m)

-- a power is at most a power where the number is
pub root : (a b n : ℕ) → 0 < n → a ^ n ≤ b ^ n → a ≤ b
root a b n pos h = go (dec_le a b)
  where
    go : Dec (a ≤ b) → a ≤ b
    go (yes l) = l
    go (no l) = absurd (not-le_of_lt (pow-lt-pow_left {a = b} {b = a} {n = n} (omega arith) (λ e. absurd (omega arith))) h)

pub powers : (p a m c u l n H g : ℕ) → 0 < n → p ^ n ≤ 2 ^ H * a ^ n → 2 ^ g * u ^ n ≤ c ^ n → H * m ≤ g * l → PowersAtMost p a m c u l
powers p a m c u l n H g pos low high few =
    let A = (a ^ n) ^ m in
    let U = (u ^ n) ^ l in
    let first : (p ^ n) ^ m ≤ 2 ^ (H * m) * A = rw (mul-pow (2 ^ H) (a ^ n) m, pow-pow 2 H m) at (pow-le-pow_left low m) in
    let second : 2 ^ (g * l) * U ≤ (c ^ n) ^ l = rw (mul-pow (2 ^ g) (u ^ n) l, pow-pow 2 g l) at (pow-le-pow_left high l) in
    root (p ^ m * u ^ l) (c ^ l * a ^ m) n pos
    (rw (mul-pow (p ^ m) (u ^ l) n, mul-pow (c ^ l) (a ^ m) n, pow_swap p m n, pow_swap u l n, pow_swap c l n, pow_swap a m n)
    (omega (arith, mul-le-mul_right U first, mul-le-mul_right (A * U) (pow_mono few), mul-le-mul_right A second)))

exponents : (i j : ℕ) → 2 ^ i ≤ 2 ^ j → i ≤ j
exponents i j h = go (dec_le i j)
  where
    go : Dec (i ≤ j) → i ≤ j
    go (yes e) = e
    go (no e) = absurd (not-le_of_lt (pow-lt {i = j} {j = i} (omega arith)) h)

-- and back: from a comparison of powers to one of figures
pub powers_back : (p a m c u l n H g : ℕ) → 0 < a → 0 < u → 2 ^ H * a ^ n ≤ p ^ n → c ^ n ≤ 2 ^ g * u ^ n → PowersAtMost p a m c u l → H * m ≤ g * l
powers_back p a m c u l n H g pa pu low high h =
    let A = (a ^ n) ^ m in
    let U = (u ^ n) ^ l in
    let first : 2 ^ (H * m) * A ≤ (p ^ n) ^ m = rw (mul-pow (2 ^ H) (a ^ n) m, pow-pow 2 H m) at (pow-le-pow_left low m) in
    let second : (c ^ n) ^ l ≤ 2 ^ (g * l) * U = rw (mul-pow (2 ^ g) (u ^ n) l, pow-pow 2 g l) at (pow-le-pow_left high l) in
    let third : (p ^ n) ^ m * U ≤ (c ^ n) ^ l * A =
    rw (mul-pow (p ^ m) (u ^ l) n, mul-pow (c ^ l) (a ^ m) n, pow_swap p m n, pow_swap u l n, pow_swap c l n, pow_swap a m n) at (pow-le-pow_left h n)
    in
    exponents (H * m) (g * l)
    (le_of_mul-le-mul_right {k = A * U} (omega (arith, mul-le-mul_right U first, mul-le-mul_right A second, third))
    (mul-pos (one-le-pow m (a ^ n) (one-le-pow n a pa)) (one-le-pow l (u ^ n) (one-le-pow n u pu))))

-- p ^ i a ^ j ≤ a ^ i p ^ j says i ≤ j, where a < p
ordered : (p a i j : ℕ) → 0 < a → a < p → p ^ i * a ^ j ≤ a ^ i * p ^ j → i ≤ j
ordered p a i j pos less h = go (dec_le i j)
  where
    further : (d : ℕ) → j + suc d ≡ i → ⊥
    further d e =
        not-le_of_lt (pow-lt-pow_left {a = a} {b = p} {n = suc d} less (λ z. absurd (omega arith)))
        (le_of_mul-le-mul_right {k = p ^ j * a ^ j}
        (omega (arith, rw (← e, pow-add p j (suc d), pow-add a j (suc d)) at h))
        (mul-pos (one-le-pow j p (omega arith)) (one-le-pow j a pos)))

    go : Dec (i ≤ j) → i ≤ j
    go (yes l) = l
    go (no l) = let d = i - suc j in absurd (further d (omega arith))

-- two comparisons with one base between them
pub between : (p a m c u n y m' n' z : ℕ) → 0 < a → 0 < u → 0 < c → a < p → n * z ≡ n' * y → PowersAtMost p a m c u n → PowersAtMost c u n' p a m'
    → m * z ≤ m' * y
between p a m c u n y m' n' z pa pu pc less e first second =
    let N = n * z in
    let one : p ^ (m * z) * u ^ N ≤ c ^ N * a ^ (m * z) =
    rw (mul-pow (p ^ m) (u ^ n) z, mul-pow (c ^ n) (a ^ m) z, pow-pow p m z, pow-pow u n z, pow-pow c n z, pow-pow a m z) at (pow-le-pow_left first z)
    in
    let two : c ^ N * a ^ (m' * y) ≤ p ^ (m' * y) * u ^ N =
    rw e
    (rw (mul-pow (c ^ n') (a ^ m') y, mul-pow (p ^ m') (u ^ n') y, pow-pow c n' y, pow-pow a m' y, pow-pow p m' y, pow-pow u n' y) at (pow-le-pow_left second y))
    in
    ordered p a (m * z) (m' * y) pa less
    (le_of_mul-le-mul_right {k = c ^ N * u ^ N} (omega (arith, mul-le-mul one two)) (mul-pos (one-le-pow N c pc) (one-le-pow N u pu)))
