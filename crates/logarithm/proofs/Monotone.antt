-- Our figure grows with the ratio: where a/b is at most c/d, so are the figures. A squaring keeps the order of what
-- is taken and left, since a greater square has the top bit or, with the same bit, leaves no less. Assumes nothing.
use mathlib.Core.Path.{◌≡◌}
use mathlib.Core.Bool.{Bool, true, false, cond}
use mathlib.Core.Logic.{inl, inr}
use Prim.Native.Nat.{ℕ, zero, suc, ◌+◌, ◌*◌, ◌/◌, ◌^◌, ◌≤◌, ◌<◌, zero-le}
use native.Mathlib.Decide.{dec_le}
use native.Mathlib.Nat.{le_of_lt, lt_of_mul-lt-mul_right, lt_of_not-le, mul-le-mul, mul-le-mul_left, mul-le-mul_right}
use native.Mathlib.Omega.{arith}
use borrow.Author.Tests.{le-leb, lt-leb, ne_eqb}
use lib.Dec.{eqb}
use lib.Pow.{shr_mono}
use Rattle.logarithm.specs.Logarithm.{Logarithm}
use Rattle.logarithm.specs.Ours.{halved, one, our_figure, part, rest, squarings, top_bit, whole}
use Rattle.logarithm.proofs.Parts.{NotAfter, ours_quotient, quotient_grows}
use Rattle.logarithm.proofs.Turn.{squares}
use Rattle.logarithm.proofs.Whole.{is_ours}

-- a number from one up to two
pub record Scaled (x : ℕ) : Type 0 where
  pub least : one ≤ x
  pub below_two : x < 2 * one

goes_on : {x : ℕ} → Scaled x → Scaled (rest (x * x))
goes_on {x} s = let c = squares x s.least s.below_two in record { least = c.least; below_two = c.below_two }

-- with the same bit a greater square leaves no less
left : (s t d : ℕ) → s ≤ t → halved s d ≤ halved t d
left s t d l = go (eqb d 1)
  where
    go : (b : Bool) → cond b (s / 2 ^ 32) (s / 2 ^ 31) ≤ cond b (t / 2 ^ 32) (t / 2 ^ 31)
    go true = shr_mono 32 l
    go false = shr_mono 31 l

turned : {m x n y : ℕ} → Scaled x → Scaled y → NotAfter m x n y
    → NotAfter (2 * m + top_bit (x * x)) (rest (x * x)) (2 * n + top_bit (y * y)) (rest (y * y))
turned {m} {x} {n} {y} s t (inl l) = inl (omega (arith, (squares x s.least s.below_two).bit))
turned {m} {x} {n} {y} s t (inr (e, l)) =
    let grows : x * x ≤ y * y = mul-le-mul l l in
    let bits : top_bit (x * x) ≤ top_bit (y * y) = shr_mono 63 grows in
    go grows bits (dec_le (top_bit (y * y)) (top_bit (x * x)))
  where
    go : x * x ≤ y * y → top_bit (x * x) ≤ top_bit (y * y) → Dec (top_bit (y * y) ≤ top_bit (x * x))
        → NotAfter (2 * m + top_bit (x * x)) (rest (x * x)) (2 * n + top_bit (y * y)) (rest (y * y))
    go grows bits (yes k) =
        let same : top_bit (x * x) ≡ top_bit (y * y) = omega arith in
        inr (omega (arith, e), rw same (left (x * x) (y * y) (top_bit (y * y)) grows))
    go grows bits (no k) = inl (omega (arith, e))

squarings_grow : (i : ℕ) {m x n y : ℕ} → Scaled x → Scaled y → NotAfter m x n y → squarings i m x ≤ squarings i n y
unfolding squarings
squarings_grow zero s t (inl l) = le_of_lt l
squarings_grow zero s t (inr (e, l)) = omega (arith, e)
squarings_grow (suc i) s t o = squarings_grow i (goes_on s) (goes_on t) (turned s t o)

module _ (a b c d : ℕ) (some : 1 ≤ b) (over : 1 ≤ d) (fits : a < 2 ^ 32) (hold : c < 2 ^ 32) (less : a * d ≤ c * b) where
  above_one : b < a → d < c
  above_one h = lt_of_mul-lt-mul_right b (omega (arith, mul-le-mul_right d h, less, over))

  pub figure_grows : our_figure a b ≤ our_figure c d
  unfolding our_figure
  figure_grows = go (dec_le a b)
    where
      go : Dec (a ≤ b) → our_figure a b ≤ our_figure c d
      go (yes l) = rw (ne_eqb b 0 (λ z. omega arith), le-leb a b l) zero-le
      go (no l) =
          let h = lt_of_not-le l in
          let k = above_one h in
          let x = ours_quotient a b some (le_of_lt h) fits in
          let y = ours_quotient c d over (le_of_lt k) hold in
          rw (ne_eqb b 0 (λ z. omega arith), lt-leb a b h, ne_eqb d 0 (λ z. omega arith), lt-leb c d k)
          (squarings_grow 16 (record { least = x.least; below_two = x.below_two }) (record { least = y.least; below_two = y.below_two })
          (quotient_grows a b c d (whole a b) (part a b) (whole c d) (part c d) x y some over less))

-- so of two answers: a ratio that is no smaller has no smaller figure
module _ (a b c d r q : ℕ) (x : Logarithm a b r) (y : Logarithm c d q) (fits : a < 2 ^ 32) (hold : c < 2 ^ 32) where
  pub log2_grows : 1 ≤ b → 1 ≤ d → a * d ≤ c * b → r ≤ q
  log2_grows some over less =
      rw (is_ours a b r x, is_ours c d q y) (figure_grows a b c d some over fits hold less)

  -- a greater value over the same one, or the same value over a smaller
  pub log2_by_value : 1 ≤ b → b ≡ d → a ≤ c → r ≤ q
  log2_by_value some e l = log2_grows some (rw e at some) (rw e (mul-le-mul_right d l))

  pub log2_by_divisor : 1 ≤ d → d ≤ b → a ≡ c → r ≤ q
  log2_by_divisor over l e = log2_grows (omega arith) over (rw e (mul-le-mul_left c l))
