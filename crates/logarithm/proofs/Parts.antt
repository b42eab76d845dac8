-- The whole part and the number that is left of a ratio are settled by what is asked of them (`Quotient`), and grow
-- with the ratio: of two ratios the greater has the greater whole part, or the same and no smaller a number left. So
-- the code's are those of our figure. Assumes nothing.
use mathlib.Core.Path.{◌≡◌, refl, ap}
use mathlib.Core.Bool.{Bool, true, false, cond}
use mathlib.Core.Logic.{◌⊎◌, inl, inr}
use Prim.Native.Nat.{ℕ, zero, suc, ◌*◌, ◌^◌, ◌≤◌, ◌<◌}
use native.Mathlib.Decide.{dec_le}
use native.Mathlib.Nat.{div-lt_iff_lt-mul, div-mul-le_self, le_antisymm, le-div_iff_mul-le, le_of_mul-le-mul_right}
use native.Mathlib.Nat.{lt-div-mul-add, lt_of_mul-lt-mul_right, mul-le-mul_left, mul-le-mul_right, mul-pos, pow-suc}
use native.Mathlib.Omega.{arith}
use borrow.Author.Tests.{leb-false, leb-true, lt-leb, ne_eqb}
use lib.Dec.{leb}
use lib.Pow.{pow_mono, pow_pos}
use Rattle.logarithm.specs.Ours.{doublings, one, our_figure, part, squarings, whole}
use Rattle.logarithm.specs.Steps.{Quotient}

-- the figure m with the number x left comes not after n with y
abbrev pub NotAfter : ℕ → ℕ → ℕ → ℕ → Type 0
NotAfter m x n y = (m < n) ⊎ ((m ≡ n) × (x ≤ y))

pub both_ways : {m x n y : ℕ} → NotAfter m x n y → NotAfter n y m x → (m ≡ n) × (x ≡ y)
both_ways (inl l) (inl k) = absurd (omega arith)
both_ways (inl l) (inr k) = absurd (omega (arith, k.0))
both_ways (inr l) (inl k) = absurd (omega (arith, l.0))
both_ways (inr l) (inr k) = (l.0, le_antisymm l.1 k.1)

-- the power of two is within the ratio, twice it is not
within : {a b w p : ℕ} → Quotient a b w p → 2 ^ w * b ≤ a
within {a} {b} {w} q = le_of_mul-le-mul_right {k = one} (omega (arith, q.meets, mul-le-mul_left (2 ^ w * b) q.least)) (omega arith)

twice : {a b w p : ℕ} → Quotient a b w p → a < 2 * (2 ^ w * b)
twice {a} {b} {w} q = lt_of_mul-lt-mul_right one (omega (arith, q.none_above, mul-le-mul_left (2 ^ w * b) q.below_two))

module _ (a b c d w p v q : ℕ) (x : Quotient a b w p) (y : Quotient c d v q) (some : 1 ≤ b) (over : 1 ≤ d) (less : a * d ≤ c * b) where
  whole_grows : w ≤ v
  whole_grows = go (dec_le w v)
    where
      go : Dec (w ≤ v) → w ≤ v
      go (yes l) = l
      go (no l) =
          let B = 2 ^ v in
          let more : 2 * B ≤ 2 ^ w = omega (arith, pow_mono {i = suc v} {j = w} (omega arith), pow-suc 2 v) in
          absurd
          (omega (
            arith,
            mul-le-mul_right (b * d) more,
            mul-le-mul_right d (within x),
            mul-le-mul_right b (twice y),
            less,
            some,
          ))

  left_grows : w ≡ v → p ≤ q
  left_grows e =
      let E = 2 ^ v in
      let z : 2 ^ w ≡ E = ap (λ (t : ℕ). 2 ^ t) e in
      let pos : 0 < E * (b * d) = mul-pos (pow_pos v) (mul-pos some over) in
      let lt : p * (E * (b * d)) < suc q * (E * (b * d)) =
      omega (
        arith,
        mul-le-mul_right d x.meets,
        ap (λ (t : ℕ). t * b * p * d) z,
        mul-le-mul_right one less,
        mul-le-mul_right b y.none_above,
        some,
      ) in
      omega (arith, lt_of_mul-lt-mul_right (E * (b * d)) lt)

  pub quotient_grows : NotAfter w p v q
  quotient_grows = go (dec_le v w)
    where
      go : Dec (v ≤ w) → NotAfter w p v q
      go (yes l) = let e = le_antisymm whole_grows l in inr (e, left_grows e)
      go (no l) = inl (omega arith)

-- doubling goes on to the greatest power within the ratio
doubled : (n a b : ℕ) → b ≤ a → a < 2 ^ suc n * b → (2 ^ doublings n a b * b ≤ a) × (a < 2 * (2 ^ doublings n a b * b))
unfolding doublings
doubled zero a b l h = (omega arith, omega arith)
doubled (suc n) a b l h = go (leb (2 * b) a) refl (doubled n a (2 * b))
  where
    go : (t : Bool) → leb (2 * b) a ≡ t
        → (2 * b ≤ a → a < 2 ^ suc n * (2 * b) → (2 ^ doublings n a (2 * b) * (2 * b) ≤ a) × (a < 2 * (2 ^ doublings n a (2 * b) * (2 * b))))
        → (2 ^ cond t (suc (doublings n a (2 * b))) 0 * b ≤ a) × (a < 2 * (2 ^ cond t (suc (doublings n a (2 * b))) 0 * b))
    go true e i =
        let j = i (leb-true (2 * b) a e) (omega (arith, ap (λ (t : ℕ). t * b) (pow-suc 2 (suc n)))) in
        let z = ap (λ (t : ℕ). t * b) (pow-suc 2 (doublings n a (2 * b))) in
        (omega (arith, z, j.0), omega (arith, z, j.1))
    go false e i = (omega arith, omega (arith, leb-false (2 * b) a e))

fuel : (n a b : ℕ) → doublings n a b ≤ n
unfolding doublings
fuel zero a b = omega arith
fuel (suc n) a b = go (leb (2 * b) a) (fuel n a (2 * b))
  where
    go : (t : Bool) → doublings n a (2 * b) ≤ n → cond t (suc (doublings n a (2 * b))) 0 ≤ suc n
    go true l = omega arith
    go false l = omega arith

-- what our figure starts from is what is asked
pub ours_quotient : (a b : ℕ) → 1 ≤ b → b ≤ a → a < 2 ^ 32 → Quotient a b (whole a b) (part a b)
ours_quotient a b some l fits =
    let m = 2 ^ whole a b * b in
    let pos : 0 < m = mul-pos (pow_pos (whole a b)) some in
    let (low, high) = doubled 31 a b l (omega (arith, mul-le-mul_left (2 ^ 32) some)) in
    record {
      least = (le-div_iff_mul-le pos).1 (omega (arith, mul-le-mul_right one low));
      below_two = (div-lt_iff_lt-mul pos).1 (omega (arith, mul-le-mul_right one high));
      meets = omega (arith, div-mul-le_self (a * one) m);
      none_above = omega (arith, lt-div-mul-add {a = a * one} pos);
      small = omega (arith, fuel 31 a b);
    }

pub ours_from : (a b w p : ℕ) → 1 ≤ b → b < a → a < 2 ^ 32 → Quotient a b w p → squarings 16 w p ≡ our_figure a b
unfolding our_figure
ours_from a b w p some apart fits q =
    let o = ours_quotient a b some (omega arith) fits in
    let (e, f) = both_ways (quotient_grows a b a b w p (whole a b) (part a b) q o some some (omega arith))
    (quotient_grows a b a b (whole a b) (part a b) w p o q some some (omega arith)) in
    rw (ne_eqb b 0 (λ z. omega arith), lt-leb a b apart, e, f)
