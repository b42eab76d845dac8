-- Laws of a number's reading: the reader takes the digits that a text starts with, 12 at most. Assumes nothing.
use mathlib.Core.Path.{◌≡◌, refl, ◌∙◌}
use mathlib.Core.Bool.{true, false, not, ◌&&◌}
use mathlib.Core.List.{List, [], ◌∷◌}
use Prim.Native.Nat.{ℕ, zero, suc, ◌+◌, ◌-◌, ◌≤◌, ◌<◌, min}
use native.Mathlib.Nat.{add-zero, not-suc-le-zero}
use native.Mathlib.Numerals.{add-one}
use native.Mathlib.Omega.{arith}
use lib.Dec.{leb, ltb, eqb}
use lib.ListN.{length, get_or, drop, length-drop, drop_of_length-le}
use lib.Seq.{drop-cons, get_or-drop}
use borrow.Author.Tests.{lt-leb, le-leb}
use Rattle.truth.proofs.Cases.{by_order, by_test}
use Rattle.decimal.specs.Decimal.{zero_byte, longest, is_digit, all_digits, leading_digits, is_number}

-- the digits that a text starts with are digits, and no more than were asked for
pub leading_all : (n : ℕ) (text : List ℕ) → all_digits (leading_digits n text) ≡ true
unfolding leading_digits all_digits
leading_all zero text = refl
leading_all (suc n) [] = refl
leading_all (suc n) (b ∷ text) = by_test (is_digit b) (λ d. rw (d, d, leading_all n text)) (λ d. rw d)

pub leading_few : (n : ℕ) (text : List ℕ) → length (leading_digits n text) ≤ n
unfolding leading_digits
leading_few zero text = omega arith
leading_few (suc n) [] = omega arith
leading_few (suc n) (b ∷ text) = by_test (is_digit b) (λ d. rw d (omega (arith, leading_few n text))) (λ d. rw d (omega arith))

of_nothing : (n : ℕ) → leading_digits n [] ≡ []
unfolding leading_digits
of_nothing zero = refl
of_nothing (suc n) = refl

leading_within : (n : ℕ) (text : List ℕ) → length (leading_digits n text) ≤ length text
unfolding leading_digits
leading_within zero text = omega arith
leading_within (suc n) [] = omega arith
leading_within (suc n) (b ∷ text) = by_test (is_digit b) (λ d. rw d (omega (arith, leading_within n text))) (λ d. rw d (omega arith))

leading_first : (n : ℕ) (text : List ℕ) → 1 ≤ length (leading_digits n text) → get_or (leading_digits n text) 0 0 ≡ get_or text 0 0
unfolding leading_digits
leading_first zero text h = absurd (not-suc-le-zero h)
leading_first (suc n) [] h = absurd (not-suc-le-zero h)
leading_first (suc n) (b ∷ text) h = by_test (is_digit b) (λ d. rw d) (λ d. absurd (not-suc-le-zero (rw d at h)))

-- the digits that stand at a place
module _ (s : List ℕ) (at : ℕ) where
  abbrev pub run : List ℕ
  run = leading_digits longest (drop at s)

  pub run_within : 1 ≤ length run → at < length s
  run_within h = omega (arith, leading_within longest (drop at s), length-drop at s)

  -- whether the run is a number
  pub run_number : is_number run ≡ (leb 1 (length run) && not (ltb 1 (length run) && eqb (get_or s at 0) zero_byte))
  unfolding is_number
  run_number =
      rw (leading_all longest (drop at s), le-leb (length run) longest (leading_few longest (drop at s)))
      (by_order (length run) 1 (λ l. rw (lt-leb 1 (length run) l)) (λ l. rw (leading_first longest (drop at s) l, get_or-drop, add-zero)))

-- one turn of the run of digits: what is left of it at i, of 12 from `at` on
module _ (s : List ℕ) (at i : ℕ) where
  abbrev pub left : List ℕ
  left = leading_digits (at + longest - i) (drop i s)

  next : i < length s → i < at + longest → leading_digits (at + longest - i) (drop i s) ≡ leading_digits (suc (at + longest - (i + 1))) (get_or s i 0 ∷ drop (i + 1) s)
  next more few =
      let e : at + longest - i ≡ suc (at + longest - (i + 1)) = omega arith in
      rw (e, drop-cons s i 0 more, add-one)

  pub left_digit : i < length s → i < at + longest → is_digit (get_or s i 0) ≡ true
      → left ≡ get_or s i 0 ∷ leading_digits (at + longest - (i + 1)) (drop (i + 1) s)
  unfolding leading_digits
  left_digit more few d = next more few ∙ rw d

  pub left_other : i < length s → i < at + longest → is_digit (get_or s i 0) ≡ false → left ≡ []
  unfolding leading_digits
  left_other more few d = next more few ∙ rw d

  pub left_none : min (length s) (at + longest) ≤ i → left ≡ []
  unfolding leading_digits
  left_none h =
      by_order i (length s)
      (λ l. let e : at + longest - i ≡ 0 = omega arith in rw e)
      (λ l. rw (drop_of_length-le s l) (of_nothing (at + longest - i)))
