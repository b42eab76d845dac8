-- A product of two mantissas lies from one * one up to 2 ^ 64: its top bit says whether it is halved, and what is left
-- is cut to 32 bits, downwards or upwards. Assumes nothing.
use mathlib.Core.Path.{◌≡◌, refl}
use Prim.Native.Nat.{ℕ, zero, suc, ◌+◌, ◌*◌, ◌^◌, ◌≤◌, ◌<◌}
use native.Mathlib.Nat.{le_of_suc-le-suc, mul-le-mul}
use native.Mathlib.Omega.{arith}
use Rattle.exponential.specs.Exponential.{one}
use Rattle.exponential.specs.Ours.{down_to, top_bit, up_to}
use Rattle.exponential.specs.Steps.{CutDown, CutUp, Factors}

module _ (m s r t : ℕ) (f : Factors m s r t) where
  pub product_least : one * one ≤ m * r
  product_least = mul-le-mul f.least f.row_least

  pub product_fits : m * r + 4294967295 < 2 ^ 64
  product_fits = omega (arith, mul-le-mul f.most (le_of_suc-le-suc f.row_most))

down_at : (n s d : ℕ) → one * one ≤ n → n < 2 ^ 64 → d ≡ top_bit n → CutDown n s (down_to n d) (s + d)
down_at n s zero lo hi e =
    record { bit = 0; shift = refl; small = omega arith; least = omega arith; below_two = omega arith; meets = omega arith; none_above = omega arith }
down_at n s (suc zero) lo hi e =
    record { bit = 1; shift = refl; small = omega arith; least = omega arith; below_two = omega arith; meets = omega arith; none_above = omega arith }
down_at n s (suc (suc d)) lo hi e = absurd (omega arith)

pub cut_down : (n s : ℕ) → one * one ≤ n → n < 2 ^ 64 → CutDown n s (down_to n (top_bit n)) (s + top_bit n)
cut_down n s lo hi = down_at n s (top_bit n) lo hi refl

up_at : (n s d : ℕ) → one * one ≤ n → n + 4294967295 < 2 ^ 64 → d ≡ top_bit n → CutUp n s (up_to n d) (s + d)
up_at n s zero lo hi e =
    record {
      bit = 0;
      shift = refl;
      small = omega arith;
      least = omega arith;
      at_most_two = omega arith;
      meets = omega arith;
      none_below = omega arith;
      enough = omega arith;
    }
up_at n s (suc zero) lo hi e =
    record {
      bit = 1;
      shift = refl;
      small = omega arith;
      least = omega arith;
      at_most_two = omega arith;
      meets = omega arith;
      none_below = omega arith;
      enough = omega arith;
    }
up_at n s (suc (suc d)) lo hi e = absurd (omega arith)

pub cut_up : (n s : ℕ) → one * one ≤ n → n + 4294967295 < 2 ^ 64 → CutUp n s (up_to n (top_bit n)) (s + top_bit n)
cut_up n s lo hi = up_at n s (top_bit n) lo hi refl
