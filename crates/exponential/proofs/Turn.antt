-- One turn of the loop of `down` and of `up`, from the bits below i to the bits below i + 1: a bit that is not set
-- leaves the figure, one that is set multiplies it by row i. At the end no bit is left. Assumes nothing.
use mathlib.Core.Path.{◌≡◌, ap}
use Prim.Native.Nat.{ℕ, suc, ◌+◌, ◌*◌, ◌/◌, ◌^◌, ◌≤◌, ◌<◌}
use native.Mathlib.Nat.{le_refl, mul-le-mul_left, mul-le-mul_right, pow-zero, two-pow-succ}
use native.Mathlib.Numerals.{add-one}
use native.Mathlib.Omega.{arith}
use lib.Dec.{lit<}
use Rattle.exponential.specs.Exponential.{one, past}
use Rattle.exponential.specs.Steps.{CutDown, CutUp, Factors, Row}
use Rattle.exponential.proofs.Bounds.{Above, Below, above_more, below_less, from_not_passed, from_reached}
use Rattle.exponential.proofs.Product.{State, multiplied, started}

module _ (α β γ δ top : ℕ) where
  -- the code after i turns: the figure of the bits `done`, the others in `rest`
  pub record After (x i rest m s : ℕ) : Type 0 where
    pub done : ℕ
    pub cuts : ℕ
    pub state : State α β γ δ done cuts m s
    pub split : done + rest * 2 ^ i ≡ x
    pub few : cuts ≤ 2 * i
    pub least : one ≤ m
    pub most : m ≤ top
    pub small : s ≤ 47 * i
    pub turns : i ≤ 26

  pub starts : one ≤ top → (x : ℕ) → After x 0 x one 0
  starts h x =
      record {
        done = 0;
        cuts = 0;
        state = started α β γ δ;
        split = rw pow-zero (omega arith);
        few = omega arith;
        least = le_refl one;
        most = h;
        small = omega arith;
        turns = omega arith;
      }

  module _ (x i rest m s : ℕ) (a : After x i rest m s) (left : i < 26) where
    twice : 2 ^ (i + 1) ≡ 2 ^ i + 2 ^ i
    twice = rw add-one (two-pow-succ i)

    pub skipped : rest ≡ rest / 2 + rest / 2 → After x (i + 1) (rest / 2) m s
    skipped e =
        record {
          done = a.done;
          cuts = a.cuts;
          state = a.state;
          split = rw twice (omega (arith, a.split, ap (λ (t : ℕ). t * 2 ^ i) e));
          few = omega (arith, a.few);
          least = a.least;
          most = a.most;
          small = omega (arith, a.small);
          turns = omega arith;
        }

    pub taken : rest ≡ suc (rest / 2 + rest / 2) → 0 < β → 0 < δ → (r t y d : ℕ)
        → Below (r * 2 ^ t * α) (one * β) (2 ^ i) → Above (r * 2 ^ t * γ) (one * δ) (2 ^ i)
        → α * (y * (2 ^ d * one)) ≤ β * (m * r) → δ * (m * r) ≤ γ * (y * (2 ^ d * one))
        → one ≤ y → y ≤ top → t ≤ 46 → d ≤ 1 → After x (i + 1) (rest / 2) y (s + t + d)
    taken e pβ pδ r t y d lo hi cut-lo cut-hi least most ht hd =
        record {
          done = a.done + 2 ^ i;
          cuts = a.cuts + 2;
          state = multiplied α β γ δ pβ pδ a.done a.cuts m s (2 ^ i) r t y d a.state lo hi cut-lo cut-hi;
          split = rw twice (omega (arith, a.split, ap (λ (t : ℕ). t * 2 ^ i) e));
          few = omega (arith, a.few);
          least = least;
          most = most;
          small = omega (arith, a.small);
          turns = omega arith;
        }

  pub all_done : (x i rest m s : ℕ) (a : After x i rest m s) → 26 ≤ i → x < past → a.done ≡ x
  all_done x i rest m s a end h =
      let e : i ≡ 26 = omega (arith, a.turns) in
      omega (arith, rw e at a.split)

-- a row of at least one, and one more, differ by at most a factor 1 + 1/one
next : (r e : ℕ) → one ≤ r → suc r * e * one ≤ r * e * suc one
next r e h = omega (arith, mul-le-mul_right e h)

abbrev pub AfterDown : ℕ → ℕ → ℕ → ℕ → ℕ → Type 0
AfterDown x i rest m s = After 1 1 (suc one) one 4294967295 x i rest m s

abbrev pub AfterUp : ℕ → ℕ → ℕ → ℕ → ℕ → Type 0
AfterUp x i rest m s = After one (suc one) 1 1 4294967296 x i rest m s

pub taken_down : (x i rest m s r t y z : ℕ) → AfterDown x i rest m s → i < 26 → rest ≡ suc (rest / 2 + rest / 2)
    → Row i r t → CutDown (m * r) (s + t) y z → AfterDown x (i + 1) (rest / 2) y z
taken_down x i rest m s r t y z a left e row cut =
    let D = 2 ^ cut.bit * one in
    rw cut.shift
    (taken 1 1 (suc one) one 4294967295 x i rest m s a left e (lit< tt) (lit< tt) r t y cut.bit
    (below_less (r * 2 ^ t * 1) (one * 1) (lit< tt) (omega arith) (from_reached (r * 2 ^ t) one (2 ^ i) row.meets))
    (above_more (r * 2 ^ t * suc one) (one * one) (lit< tt)
    (omega (arith, mul-le-mul_right one (next r (2 ^ t) row.least)))
    (from_not_passed (suc r * 2 ^ t) one (2 ^ i) row.none_above))
    (omega (arith, cut.meets))
    (omega (arith, mul-le-mul_left one cut.none_above, next y D cut.least))
    cut.least
    (omega (arith, cut.below_two))
    row.small
    cut.small)

pub taken_up : (x i rest m s r t y z : ℕ) → AfterUp x i rest m s → i < 26 → rest ≡ suc (rest / 2 + rest / 2)
    → Row i r t → CutUp (m * suc r) (s + t) y z → AfterUp x (i + 1) (rest / 2) y z
taken_up x i rest m s r t y z a left e row cut =
    let D = 2 ^ cut.bit * one in
    rw cut.shift
    (taken one (suc one) 1 1 4294967296 x i rest m s a left e (lit< tt) (lit< tt) (suc r) t y cut.bit
    (below_less (suc r * 2 ^ t * one) (one * suc one) (lit< tt)
    (omega (arith, mul-le-mul_right one (next r (2 ^ t) row.least)))
    (from_reached (r * 2 ^ t) one (2 ^ i) row.meets))
    (above_more (suc r * 2 ^ t * 1) (one * 1) (lit< tt) (omega arith) (from_not_passed (suc r * 2 ^ t) one (2 ^ i) row.none_above))
    (omega (arith, mul-le-mul_left one cut.none_below, cut.enough))
    (omega (arith, cut.meets))
    cut.least
    cut.at_most_two
    row.small
    cut.small)

-- what a product asks of the figure so far and of the row
pub factors_down : (x i rest m s r t : ℕ) → AfterDown x i rest m s → Row i r t → Factors m s r t
factors_down x i rest m s r t a row =
    record {
      least = a.least;
      most = omega (arith, a.most);
      row_least = row.least;
      row_most = omega (arith, row.below_two);
      small = omega (arith, a.small, a.turns);
      row_small = row.small;
    }

pub factors_up : (x i rest m s r t : ℕ) → AfterUp x i rest m s → Row i r t → Factors m s (suc r) t
factors_up x i rest m s r t a row =
    record {
      least = a.least;
      most = a.most;
      row_least = omega (arith, row.least);
      row_most = row.below_two;
      small = omega (arith, a.small, a.turns);
      row_small = row.small;
    }
