-- From the figures to the longest and the shortest standard: each exponent is rounded to its side, and the last
-- division is exact. Assumes nothing.
use mathlib.Core.Path.{◌≡◌}
use mathlib.Core.Bool.{cond}
use Prim.Native.Nat.{ℕ, suc, ◌+◌, ◌*◌, ◌/◌, ◌%◌, ◌≤◌, ◌<◌}
use native.Mathlib.Nat.{div-add-mod', div-lt_iff_lt-mul, div-mul-le_self, le_antisymm, le-div_iff_mul-le, le_of_lt}
use native.Mathlib.Nat.{le_refl, le_trans}
use native.Mathlib.Nat.{lt-div-mul-add, mod-lt, mul-le-mul, mul-le-mul_left, mul-le-mul_right, mul-pos}
use native.Mathlib.Omega.{arith}
use borrow.Author.Tests.{eqb-false, eqb-true, leb-false, leb-true, lt-ltb, ltb-true}
use lib.Dec.{eqb, leb, lit<, ltb}
use Rattle.truth.proofs.Cases.{by_order, by_test}
use Rattle.exponential.specs.Exponential.{one, units}
use Rattle.peak_reach.specs.Figures.{divided_up, lesser, longest_standard, longest_within, shortest_after}
use Rattle.peak_reach.specs.Steps.{Division, Within}

-- ---- the lesser of two
pub lesser_left : (a b : ℕ) → lesser a b ≤ a
lesser_left a b = by_test (leb a b) (λ e. rw e (le_refl a)) (λ e. rw e (le_of_lt (leb-false a b e)))

pub lesser_right : (a b : ℕ) → lesser a b ≤ b
lesser_right a b = by_test (leb a b) (λ e. rw e (leb-true a b e)) (λ e. rw e (le_refl b))

pub lesser_most : (a b q : ℕ) → q ≤ a → q ≤ b → q ≤ lesser a b
lesser_most a b q l r = by_test (leb a b) (λ e. rw e l) (λ e. rw e r)

pub lesser_grows : (a b c : ℕ) → b ≤ c → lesser a b ≤ lesser a c
lesser_grows a b c l = lesser_most a c (lesser a b) (lesser_left a b) (le_trans (lesser_right a b) l)

-- ---- exponents: X d is at most N, and N is below (X + 1) d; and rounded up
module _ (N d : ℕ) (some : 1 ≤ d) where
  pub down_low : N / d * d ≤ N
  down_low = div-mul-le_self N d

  pub down_high : N < suc (N / d) * d
  down_high = omega (arith, lt-div-mul-add {a = N} {b = d} some)

  some_left : (N % d ≡ 0 → ⊥) → 1 ≤ N % d
  some_left f = by_order 0 (N % d) (λ l. l) (λ l. absurd (f (omega arith)))

  pub up_low : N ≤ divided_up N d * d
  up_low =
      by_test (eqb (N % d) 0)
      (λ t. rw t (omega (arith, div-add-mod' N d, eqb-true (N % d) 0 t)))
      (λ t. rw t (omega (arith, div-add-mod' N d, mod-lt N some)))

  pub up_high : divided_up N d * d < N + d
  up_high =
      by_test (eqb (N % d) 0)
      (λ t. rw t (omega (arith, div-add-mod' N d, eqb-true (N % d) 0 t)))
      (λ t. rw t (omega (arith, div-add-mod' N d, some_left (eqb-false (N % d) 0 t))))

  -- an X that meets both is the quotient
  pub only_down : (x : ℕ) → x * d ≤ N → N < suc x * d → x ≡ N / d
  only_down x low high =
      let l : x ≤ N / d = (le-div_iff_mul-le some).1 low in
      let h : N / d < suc x = (div-lt_iff_lt-mul some).1 high in
      omega arith

pub divided_grows : (N M d : ℕ) → 1 ≤ d → N ≤ M → N / d ≤ M / d
divided_grows N M d some l = (le-div_iff_mul-le some).1 (le_trans (div-mul-le_self N d) l)

-- a greater divisor
pub divided_falls : (N d e : ℕ) → 1 ≤ d → d ≤ e → N / e ≤ N / d
divided_falls N d e some l =
    (le-div_iff_mul-le some).1 (le_trans (mul-le-mul_left (N / e) l) (div-mul-le_self N e))

-- a number at least N / d is at least what that is rounded up
pub least_up : (N d x : ℕ) → 1 ≤ d → N ≤ x * d → divided_up N d ≤ x
least_up N d x some l =
    by_order x (divided_up N d)
    (λ h. absurd (omega (arith, up_high N d some, mul-le-mul_right d h)))
    (λ h. h)

pub divided_up_grows : (N M d : ℕ) → 1 ≤ d → N ≤ M → divided_up N d ≤ divided_up M d
divided_up_grows N M d some l = least_up N d (divided_up M d) some (le_trans l (up_low M d some))

pub divided_up_falls : (N d e : ℕ) → 1 ≤ d → d ≤ e → divided_up N e ≤ divided_up N d
divided_up_falls N d e some l =
    least_up N e (divided_up N d) (le_trans some l) (le_trans (up_low N d some) (mul-le-mul_left (divided_up N d) l))

-- what the code's division leaves is the quotient, and the quotient rounded up
module _ (a d x rest : ℕ) (some : 1 ≤ d) (v : Division 20 a d x rest) where
  pub whole_is : x ≡ units * a / d
  whole_is = only_down (units * a) d some x (omega (arith, v.whole)) (omega (arith, v.whole, v.less))

  rest-is : rest ≡ units * a % d
  rest-is =
      let e : x * d + rest ≡ units * a = omega (arith, v.whole) in
      omega (arith, rw whole_is at e, div-add-mod' (units * a) d)

  pub up_is : x + cond (eqb rest 0) 0 1 ≡ divided_up (units * a) d
  up_is = rw (whole_is, rest-is)

-- ---- standards
-- q n is at most v 2 ^ -31, and so it is of no longer standard
pub record Most (v n q : ℕ) : Type 0 where
  pub reached : q * n * one ≤ v
  pub longest : (p : ℕ) → p ≤ longest_standard → p * n * one ≤ v → p ≤ q
  pub bound : q ≤ longest_standard

-- q n is more than v 2 ^ -31, and so it is of no shorter standard
pub record After (v n q : ℕ) : Type 0 where
  pub long : v < q * n * one
  pub shortest : (p : ℕ) → v < p * n * one → q ≤ p
  pub bound : q ≤ longest_standard

some_one : (n : ℕ) → 1 ≤ n → 1 ≤ n * one
some_one n some = mul-pos some (lit< tt)

module _ (v n : ℕ) (some : 1 ≤ n) where
  of_quotient : (q : ℕ) → q ≤ v / (n * one) → q * n * one ≤ v
  of_quotient q l = omega (arith, (le-div_iff_mul-le {k = n * one} {x = q} {y = v} (some_one n some)).0 l)

  to_quotient : (q : ℕ) → q * n * one ≤ v → q ≤ v / (n * one)
  to_quotient q l = (le-div_iff_mul-le (some_one n some)).1 (omega arith)

  pub most_within : Most v n (longest_within v n)
  most_within =
      record {
        reached = of_quotient (longest_within v n) (lesser_right longest_standard (v / (n * one)));
        longest = λ p l h. lesser_most longest_standard (v / (n * one)) p l (to_quotient p h);
        bound = lesser_left longest_standard (v / (n * one));
      }

  pub only_most : (q : ℕ) → Most v n q → q ≡ longest_within v n
  only_most q m =
      let d = most_within in
      le_antisymm (d.longest q m.bound m.reached) (m.longest (longest_within v n) d.bound d.reached)

  -- the code's product, cut and divided
  pub settles : (f : ℕ) → n ≤ 10000000 → Within v f → lesser longest_standard (f / n) ≡ longest_within v n
  settles f few w =
      only_most (lesser longest_standard (f / n))
      (record {
        reached = omega (arith, w.reached, mul-le-mul_right one ((le-div_iff_mul-le {k = n} {x = lesser longest_standard (f / n)} {y = f} some).0 (lesser_right longest_standard (f / n))));
        longest = λ p l h. lesser_most longest_standard (f / n) p l ((le-div_iff_mul-le some).1 (w.longest (p * n) (omega (arith, mul-le-mul l few)) h));
        bound = lesser_left longest_standard (f / n);
      })

  -- the next standard is too long, and the shortest such; or there is none
  pub after_some : longest_within v n < longest_standard → After v n (longest_within v n + 1)
  after_some h =
      let d = most_within in
      record {
        long = by_order v ((longest_within v n + 1) * n * one)
            (λ l. l)
            (λ l. absurd (omega (arith, d.longest (longest_within v n + 1) (omega arith) l)));
        shortest = λ p l.
            by_order (longest_within v n) p
            (λ k. omega arith)
            (λ k. absurd (omega (arith, d.reached, mul-le-mul_right one (mul-le-mul_right n k))));
        bound = omega arith;
      }

  pub after_none : longest_standard ≤ longest_within v n → (p : ℕ) → p ≤ longest_standard → v < p * n * one → ⊥
  after_none h p l less =
      absurd (omega (arith, most_within.reached, mul-le-mul_right one (mul-le-mul_right n (le_trans l h))))

-- greater products and smaller counts have longer standards
pub within_grows : (v u n : ℕ) → 1 ≤ n → v ≤ u → longest_within v n ≤ longest_within u n
within_grows v u n some l =
    lesser_grows longest_standard (v / (n * one)) (u / (n * one)) (divided_grows v u (n * one) (some_one n some) l)

pub within_falls : (v n m : ℕ) → 1 ≤ n → n ≤ m → longest_within v m ≤ longest_within v n
within_falls v n m some l =
    lesser_grows longest_standard (v / (m * one)) (v / (n * one)) (divided_falls v (n * one) (m * one) (some_one n some) (mul-le-mul_right one l))

-- what comes after a longer one is longer, 0 standing for none
pub after_grows : (q p : ℕ) → q ≤ p → 1 ≤ shortest_after p → (1 ≤ shortest_after q) × (shortest_after q ≤ shortest_after p)
after_grows q p l some =
    by_test (ltb p longest_standard)
    (λ e. rw (e, lt-ltb q longest_standard (le_trans (omega arith) (ltb-true p longest_standard e))) (omega arith, omega arith))
    (λ e. absurd (omega (arith, rw e at some)))
