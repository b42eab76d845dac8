-- Laws of the number that a text starts with. The reader takes at most 12 digits and looks at the byte after them: is
-- it no digit, they are all the digits that the text starts with; is it one, there are more than 12. Assumes nothing.
use mathlib.Core.Path.{◌≡◌, refl, sym, ap, ◌∙◌}
use mathlib.Core.Bool.{Bool, true, false, cond, not, ◌&&◌, and-false, true≢false}
use mathlib.Core.List.{List, [], ◌∷◌, ◌++◌, append-nil}
use Prim.Native.Nat.{ℕ, zero, suc, ◌+◌, ◌^◌, ◌≤◌, ◌<◌}
use native.Mathlib.Omega.{arith}
use lib.ListN.{length, get_or, take, drop, drop_of_length-le, length-append, length-drop, get_or-eq_default}
use lib.Dec.{eqb, leb, ltb}
use lib.Seq.{get_or-drop}
use borrow.Author.Tests.{lt-leb, lt-ltb, le-ltb, ltb-true, ne_eqb}
use Rattle.truth.proofs.Cases.{by_test, by_order}
use Rattle.truth.proofs.Laws.{and-true}
use Rattle.decimal.specs.Decimal.{zero_byte, longest, is_digit, all_digits, leading_digits, is_number, value_of}
use Rattle.decimal.specs.Leading.{stands_at, leading, after_leading, leading_at}
use Rattle.decimal.proofs.Text.{sound, number_below}
use Rattle.decimal.proofs.Reading.{run, run_number}
use Rattle.std.specs.Prelude.{Some, None}
use Rattle.truth.proofs.Answers.{none_not_some, same_first, same_second, same_some, some_not_none}

-- up to a byte that is no digit, digits are what a text starts with
pub leading_is : (digits after : List ℕ) → all_digits digits ≡ true → is_digit (get_or after 0 0) ≡ false → leading (digits ++ after) ≡ digits
unfolding all_digits leading
leading_is [] [] ds e = refl
leading_is [] (b ∷ after) ds e = rw e
leading_is (b ∷ digits) after ds e =
    let (d, rest) = and-true (is_digit b) (all_digits digits) ds in
    rw (d, leading_is digits after rest e)

-- they and what stands after them are the text; and no digit stands after them
pub record Led (text : List ℕ) : Type 0 where
  pub parts : text ≡ leading text ++ after_leading text
  pub all : all_digits (leading text) ≡ true
  pub stops : is_digit (get_or (after_leading text) 0 0) ≡ false

pub led : (text : List ℕ) → Led text
unfolding leading all_digits
led [] = record { parts = refl; all = refl; stops = refl }
led (b ∷ text) =
    by_test (is_digit b)
    (λ d. record { parts = rw d (rw (← (led text).parts)); all = rw (d, d) (led text).all; stops = rw d (led text).stops })
    (λ d. record { parts = rw d; all = rw d; stops = rw d d })

-- of a number they are all
pub all_lead : (text : List ℕ) → is_number text ≡ true → leading text ≡ text
all_lead text number = ap leading (sym (append-nil text)) ∙ leading_is text [] (sound text number).all refl

-- and where they go up to the end, too
pub led_all : (text : List ℕ) → length text ≤ length (leading text) → leading text ≡ text
led_all text h = sym ((led text).parts ∙ rw (drop_of_length-le text h) (append-nil (leading text)))

-- at most n of them are a front of them
pub leading_front : (n : ℕ) (text : List ℕ) → leading_digits n text ≡ take n (leading text)
unfolding leading leading_digits
leading_front zero text = refl
leading_front (suc n) [] = refl
leading_front (suc n) (b ∷ text) = by_test (is_digit b) (λ d. rw (d, leading_front n text)) (λ d. rw d)

-- at most n of them, and the byte after
leads_to : (n : ℕ) (text : List ℕ) → is_digit (get_or text (length (leading_digits n text)) 0) ≡ false → leading text ≡ leading_digits n text
unfolding leading leading_digits
leads_to zero [] e = refl
leads_to zero (b ∷ text) e = rw e
leads_to (suc n) [] e = refl
leads_to (suc n) (b ∷ text) e = by_test (is_digit b) (λ d. rw (d, leads_to n text (rw d at e))) (λ d. rw d)

leads_on : (n : ℕ) (text : List ℕ) → is_digit (get_or text (length (leading_digits n text)) 0) ≡ true → n < length (leading text)
unfolding leading leading_digits
leads_on zero [] e = absurd (true≢false (rw e))
leads_on zero (b ∷ text) e = rw e (omega arith)
leads_on (suc n) [] e = absurd (true≢false (rw e))
leads_on (suc n) (b ∷ text) e =
    by_test (is_digit b)
    (λ d. rw d (omega (arith, leads_on n text (rw d at e))))
    (λ d. absurd (true≢false (rw (← rw d at e) d)))

long : (a s l z : Bool) → l ≡ false → (a && (s && (l && z))) ≡ false
long a s l z e = rw (e, and-false, and-false)

-- what a number at a place reads as, by its digits, 12 at most, and the byte after them
module _ (s : List ℕ) (at end : ℕ) (e : end ≡ at + length (run s at)) where
  byte : get_or (drop at s) (length (run s at)) 0 ≡ get_or s end 0
  byte = rw (get_or-drop, ← e)

  pub leads_bad : is_digit (get_or s end 0) ≡ true → leading_at s at ≡ None
  unfolding leading_at is_number
  leads_bad d = rw (long (all_digits (leading (drop at s))) _ _ _ (lt-leb _ _ (leads_on longest (drop at s) (rw byte d))))

  pub leads_read : is_digit (get_or s end 0) ≡ false → (value : ℕ) → value ≡ value_of (run s at)
      → leading_at s at ≡ cond (leb 1 (length (run s at)) && not (ltb 1 (length (run s at)) && eqb (get_or s at 0) zero_byte)) (Some (value, end)) None
  unfolding leading_at
  leads_read d value v = rw (leads_to longest (drop at s) (rw byte d), v, e) (rw run_number)

-- what a number at a place says of the digits there
pub record LeadsTo (s : List ℕ) (at v end : ℕ) : Type 0 where
  pub number : is_number (leading (drop at s)) ≡ true
  pub value : v ≡ value_of (leading (drop at s))
  pub place : end ≡ at + length (leading (drop at s))
  pub small : v < 10 ^ longest
  pub within : end ≤ length s

module _ (s : List ℕ) (at : ℕ) where
  abbrev Digits : List ℕ
  Digits = leading (drop at s)

  -- the digits stand in the text
  inside : 1 ≤ length Digits → at + length Digits ≤ length s
  inside some = omega (arith, length-drop at s, simp length-append at (ap length (led (drop at s)).parts))

  pub leads_number : (v end : ℕ) → leading_at s at ≡ Some (v, end) → LeadsTo s at v end
  unfolding leading_at
  leads_number v end r =
      by_test (is_number Digits)
      (λ n.
      let both : ◌≡◌ {A = ℕ × ℕ} (value_of Digits, at + length Digits) (v, end) = same_some (rw n at r) in
      let value : v ≡ value_of Digits = sym (same_first both) in
      let place : end ≡ at + length Digits = sym (same_second both) in
      record { number = n; value = value; place = place; small = rw value (number_below Digits n); within = omega (arith, inside (sound Digits n).some) })
      (λ n. absurd (none_not_some (rw n at r)))

  pub leads_none : leading_at s at ≡ None → is_number Digits ≡ false
  unfolding leading_at
  leads_none r = by_test (is_number Digits) (λ n. absurd (some_not_none (rw n at r))) (λ n. n)

-- a byte other than 0 stands at a place if it is what is read there; and it stands inside
module _ (s : List ℕ) (at b : ℕ) (some : 1 ≤ b) where
  pub stands_byte : stands_at s at b ≡ eqb (get_or s at 0) b
  stands_byte =
      by_order at (length s)
      (λ l. rw (lt-ltb at (length s) l))
      (λ l. rw (le-ltb at (length s) l, get_or-eq_default s 0 {n = at} l, ne_eqb 0 b (λ e. omega arith)))

  pub stands_inside : eqb (get_or s at 0) b ≡ true → at < length s
  stands_inside e = ltb-true at (length s) (and-true (ltb at (length s)) (eqb (get_or s at 0) b) (stands_byte ∙ e)).0
