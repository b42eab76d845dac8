-- From the bits taken to the exact figure: they are reached and two more are not, so the greatest number that is
-- reached is theirs or one more. Assumes nothing.
use mathlib.Core.Path.{◌≡◌, ap, refl}
use Prim.Native.Nat.{ℕ, zero, suc, ◌+◌, ◌*◌, ◌^◌, ◌≤◌, ◌<◌, zero-le}
use native.Mathlib.Nat.{le_refl, lt_of_not-le, mul-le-mul_right, one-le-pow, pow-suc}
use native.Mathlib.Decide.{dec_le}
use native.Mathlib.Numerals.{add-one}
use native.Mathlib.Omega.{arith}
use borrow.Author.Tests.{le-leb, ne_eqb}
use lib.Dec.{lit<, lit≤}
use lib.Pow.{pow_mono, pow_pos}
use Rattle.logarithm.specs.Logarithm.{ExactFigure, Near, Reaches, units}
use Rattle.logarithm.specs.Ours.{one, our_figure}
use Rattle.logarithm.proofs.Squaring.{State, not_reached, reached}

-- what is reached is at most m where m + 1 is not
pub none_past : (p q m : ℕ) → p < 2 ^ suc m * q → (n : ℕ) → 2 ^ n * q ≤ p → n ≤ m
none_past p q m h n l = go (dec_le n m)
  where
    go : Dec (n ≤ m) → n ≤ m
    go (yes e) = e
    go (no e) = absurd (omega (arith, mul-le-mul_right q (pow_mono {i = suc m} {j = n} (omega arith))))

none_of_one : (q n : ℕ) → 0 < q → 2 ^ n * q ≤ q → n ≤ 0
none_of_one q zero h l = le_refl 0
none_of_one q (suc n) h l = absurd (omega (arith, mul-le-mul_right q (pow_pos n), ap (λ (t : ℕ). t * q) (pow-suc 2 n)))

one_times : (n : ℕ) → 1 * n ≤ n
one_times n = omega arith

-- the exact figure of equal values is 0
pub equal_exact : (b : ℕ) → 1 ≤ b → ExactFigure b b 0
equal_exact b unit =
    record { reached = one_times (b ^ units); greatest = λ n h. none_of_one (b ^ units) n (one-le-pow units b unit) h }

-- and so is ours
pub equal_ours : (b : ℕ) → 1 ≤ b → 0 ≡ our_figure b b
unfolding our_figure
equal_ours b unit = rw (ne_eqb b 0 (λ z. omega arith), le-leb b b (le_refl b))

pub equal_near : (a b : ℕ) → 1 ≤ b → a ≡ b → Near a b 0
equal_near a b unit e =
    rw e
    (record {
      exact = 0;
      is_exact = equal_exact b unit;
      never_above = le_refl 0;
      one_below = zero-le;
      equal = λ _. refl;
      ours = equal_ours b unit;
    })

module _ (a b r : ℕ) (low : Reaches a b r) (high : a ^ units < 2 ^ (r + 2) * b ^ units) (apart : b < a) (is : r ≡ our_figure a b) where
  near : Dec (Reaches a b (r + 1)) → Near a b r
  near (yes l) =
      let e : suc (r + 1) ≡ r + 2 = omega arith in
      record {
        exact = r + 1;
        is_exact = record { reached = l; greatest = none_past (a ^ units) (b ^ units) (r + 1) (rw e high) };
        never_above = omega arith;
        one_below = le_refl (r + 1);
        equal = λ e. absurd (omega arith);
        ours = is;
      }
  near (no l) =
      record {
        exact = r;
        is_exact = record { reached = low; greatest = none_past (a ^ units) (b ^ units) r (rw (← add-one r) (lt_of_not-le l)) };
        never_above = le_refl r;
        one_below = omega arith;
        equal = λ e. absurd (omega arith);
        ours = is;
      }

-- the state after all squarings
pub figure : (a b r x : ℕ) → b < a → r ≡ our_figure a b → one ≤ x → x < 2 * one → State one a b units r x → Near a b r
figure a b r x apart is lo hi s =
    near a b r (reached one a b units r x (lit< tt) s lo) (not_reached one a b units r x (lit< tt) s (lit≤ tt) hi (omega arith)) apart is (dec_le _ _)
