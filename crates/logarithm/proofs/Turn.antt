-- One turn of the code's loop, from the state at 2 ^ i to the state at 2 ^ (i + 1). The square of a number from one up
-- to two lies from one up to four: its top bit says whether it is halved, and is the next bit of the figure. Assumes
-- nothing.
use mathlib.Core.Path.{◌≡◌, refl}
use Prim.Native.Nat.{ℕ, zero, suc, ◌+◌, ◌-◌, ◌*◌, ◌^◌, ◌≤◌, ◌<◌}
use native.Mathlib.Nat.{le_of_lt, le_of_suc-le-suc, mul-le-mul, two-pow-succ}
use native.Mathlib.Numerals.{add-one}
use native.Mathlib.Omega.{arith}
use lib.Dec.{lit<}
use lib.Pow.{pow_mono}
use Rattle.logarithm.specs.Logarithm.{Near, units}
use Rattle.logarithm.specs.Ours.{halved, one, our_figure, rest, squarings, top_bit}
use Rattle.logarithm.specs.Steps.{Quotient}
use Rattle.logarithm.proofs.Figure.{figure}
use Rattle.logarithm.proofs.Parts.{ours_from}
use Rattle.logarithm.proofs.Squaring.{State, squared, started}

-- the bit d that the square s yields, and the number y that is left
pub record Cut (s d y : ℕ) : Type 0 where
  pub bit : d ≤ 1
  pub least : one ≤ y
  pub below_two : y < 2 * one
  pub meets : y * (2 ^ d * one) ≤ s
  pub none_above : s ≤ suc y * (2 ^ d * one)

cut : (s d : ℕ) → one * one ≤ s → s < 2 ^ 64 → d ≡ top_bit s → Cut s d (halved s d)
cut s zero lo hi e = record { bit = omega arith; least = omega arith; below_two = omega arith; meets = omega arith; none_above = omega arith }
cut s (suc zero) lo hi e = record { bit = omega arith; least = omega arith; below_two = omega arith; meets = omega arith; none_above = omega arith }
cut s (suc (suc d)) lo hi e = absurd (omega arith)

short : (x : ℕ) → x < 2 * one → x * x < 2 ^ 64
short x h = omega (arith, mul-le-mul (le_of_suc-le-suc h) (le_of_suc-le-suc h))

pub squares : (x : ℕ) → one ≤ x → x < 2 * one → Cut (x * x) (top_bit (x * x)) (rest (x * x))
squares x l h = cut (x * x) (top_bit (x * x)) (mul-le-mul l l) (short x h) refl

-- the code after i squarings, with the figure m of so many bits and the number x left: what the others make of them
-- is our figure
pub record After (a b i m x : ℕ) : Type 0 where
  pub state : State one a b (2 ^ i) m x
  pub least : one ≤ x
  pub below_two : x < 2 * one
  pub small : m < 32 * 2 ^ i
  pub turns : i ≤ 16
  pub to_come : squarings (16 - i) m x ≡ our_figure a b

module _ (a b i m x : ℕ) (s : After a b i m x) where
  pub square_fits : x * x < 2 ^ 64
  square_fits = short x s.below_two

  pub square_cut : Cut (x * x) (top_bit (x * x)) (rest (x * x))
  square_cut = squares x s.least s.below_two

  pub figure_fits : m < 32 * units
  figure_fits = omega (arith, s.small, pow_mono s.turns)

  next : (n k : ℕ) → n ≡ suc k → squarings n m x ≡ our_figure a b
      → squarings k (2 * m + top_bit (x * x)) (rest (x * x)) ≡ our_figure a b
  unfolding squarings
  next n k e t = rw e at t

  pub turn : i < 16 → After a b (i + 1) (2 * m + top_bit (x * x)) (rest (x * x))
  turn h =
      let d = top_bit (x * x) in
      let c = square_cut in
      let twice : 2 ^ (i + 1) ≡ 2 ^ i + 2 ^ i = rw add-one (two-pow-succ i) in
      let bits : 2 * m + d ≡ m + m + d = omega arith in
      record {
        state = rw (twice, bits) (squared one a b (2 ^ i) m x d (rest (x * x)) (lit< tt) c.least c.meets c.none_above s.state);
        least = c.least;
        below_two = c.below_two;
        small = rw twice (omega (arith, c.bit, s.small));
        turns = omega arith;
        to_come = next (16 - i) (16 - (i + 1)) (omega arith) s.to_come;
      }

  taken : (n : ℕ) → n ≡ 0 → squarings n m x ≡ our_figure a b → m ≡ our_figure a b
  unfolding squarings
  taken n e t = rw e at t

  pub ends : b < a → 16 ≤ i → Near a b m
  ends apart end =
      let e : i ≡ 16 = omega (arith, s.turns) in
      figure a b m x apart (taken (16 - i) (omega arith) s.to_come) s.least s.below_two (rw e at s.state)

pub starts : (a b whole part : ℕ) → 1 ≤ b → b < a → a < 2 ^ 32 → Quotient a b whole part → After a b 0 whole part
starts a b whole part some apart fits q =
    record {
      state = started one a b whole part q.least q.meets (le_of_lt q.none_above);
      least = q.least;
      below_two = q.below_two;
      small = q.small;
      turns = omega arith;
      to_come = ours_from a b whole part some apart fits q;
    }
