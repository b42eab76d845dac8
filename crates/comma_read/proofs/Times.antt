-- The time of a line by its width. In a right line it is the digits of the time that is due, so a width that is not too
-- large and has the comma after it is theirs; and times that grow get no narrower. Assumes nothing.
use Rattle.std.proofs.Common.{◌≡◌, ℕ, zero, suc, ◌+◌, ◌-◌, ◌^◌, ◌<◌, ◌≤◌, Bool, true, false, ◌&&◌, eqb, ltb, List, [], ◌∷◌, length, get_or, take, drop, sym, refl, ap, ◌∙◌, add-zero, add_assoc, arith, length-drop, take-append-drop, length-take-le, get_or-drop, drop-drop, eqb-true, le-leb}
use Rattle.truth.proofs.Cases.{by_test, by_order}
use Rattle.truth.proofs.Laws.{and-true, true≢false}
use Rattle.decimal.specs.Decimal.{zero_byte, longest, is_digit, all_digits, is_number, value_of, digits_of}
use Rattle.decimal.specs.Leading.{leading, after_leading}
use Rattle.decimal.proofs.Text.{digits_some, digits_above, digits_below, digits_value, number_below}
use Rattle.decimal.proofs.Leading.{LeadsTo, leading_is}
use Rattle.comma_line.specs.Line.{comma, roll, is_comma_line, right, line_length}
use Rattle.comma_read.specs.Plain.{Narrow}
use Rattle.degrees.specs.Degrees.{first, is_degrees, degrees_at}
use Rattle.degrees.proofs.Signs.{ReadsAs, degrees_none}
use Rattle.comma_line.proofs.At.{LineRead}
use Rattle.std.specs.Prelude.{None}

pub time_is : (time : ℕ) (text : List ℕ) → right time text ≡ true → leading text ≡ digits_of time
unfolding right is_comma_line
time_is time text h =
    let (line, due) = and-true (is_comma_line text) _ h in
    let number = (and-true (is_number (leading text)) _ line).0 in
    sym (digits_value (leading text) number) ∙ ap digits_of (eqb-true _ _ due)

digit_in : (text : List ℕ) (i : ℕ) → i < length (leading text) → is_digit (get_or text i 0) ≡ true
unfolding leading
digit_in [] i l = absurd (omega arith)
digit_in (b ∷ text) zero l = by_test (is_digit b) (λ d. d) (λ d. absurd (omega (arith, rw d at l)))
digit_in (b ∷ text) (suc i) l = by_test (is_digit b) (λ d. digit_in text i (omega (arith, rw d at l))) (λ d. absurd (omega (arith, rw d at l)))

pub as_wide : (time : ℕ) (text : List ℕ) (width : ℕ) → width ≤ length (digits_of time) → get_or text width 0 ≡ comma → right time text ≡ true
    → width ≡ length (digits_of time)
as_wide time text width few mark r =
    by_order width (length (digits_of time))
    (λ l. let d = digit_in text width (rw (time_is time text r) l) in absurd (true≢false (sym (rw mark at d))))
    (λ l. omega arith)

digits_grow : (a b : ℕ) → a ≤ b → length (digits_of a) ≤ length (digits_of b)
digits_grow a b le =
    by_order (length (digits_of a)) 2
    (λ l. omega (arith, digits_some b))
    (λ l.
    let k = length (digits_of a) - 2 in
    by_order a (10 ^ suc k)
    (λ h. absurd (omega (arith, digits_below k a h)))
    (λ h. omega (arith, digits_above (suc k) b (omega arith))))

-- what is read after the time and the comma is said of the line
module _ (s : List ℕ) (at time width : ℕ) (r : right time (drop at s) ≡ true) (e : width ≡ length (digits_of time)) where
  roll_there : roll (drop at s) ≡ drop (at + width + 1) s
  roll_there = rw (time_is time (drop at s) r, ← e) (simp (drop-drop, add_assoc))

  pub line_by_roll : {b : Bool} {n next : ℕ} → ReadsAs s (at + width + 1) b n next → LineRead s at time b n (next + 1)
  unfolding line_length
  line_by_roll d =
      record { is = r; sign = rw roll_there d.sign; value = rw roll_there d.value; place = rw (roll_there, time_is time (drop at s) r, ← e) (omega (arith, d.place)) }

  pub roll_good : ¬ (degrees_at s (at + width + 1) ≡ None)
  unfolding right is_comma_line
  roll_good bad =
      let line = (and-true (is_comma_line (drop at s)) _ r).0 in
      let after = (and-true (is_number (leading (drop at s))) _ line).1 in
      let rest = (and-true (eqb (first (after_leading (drop at s))) comma) _ after).1 in
      let good = (and-true (is_degrees (roll (drop at s))) _ rest).0 in
      true≢false (sym (rw roll_there at good) ∙ degrees_none s (at + width + 1) bad)

-- the width of a time serves the next
pub narrow_on : {width time : ℕ} (D : ℕ) → Narrow width time → Narrow width (time + D)
narrow_on {width} {time} D n = record { some = n.some; few = omega (arith, n.few, digits_grow time (time + D) (omega arith)) }

take_first : (l : List ℕ) (n : ℕ) → 1 ≤ n → get_or (take n l) 0 0 ≡ get_or l 0 0
take_first l zero some = absurd (omega arith)
take_first [] (suc n) some = refl
take_first (b ∷ l) (suc n) some = refl

module _ (s : List ℕ) (at width : ℕ) (room : at + width ≤ length s) where
  -- digits of a width, with the comma after them
  pub time_leads : (due : ℕ) → 1 ≤ width → width ≤ longest → get_or s (at + width) 0 ≡ comma → (ltb 1 width && eqb (get_or s at 0) zero_byte) ≡ false
      → all_digits (take width (drop at s)) ≡ true → value_of (take width (drop at s)) ≡ due → LeadsTo s at due (at + width)
  unfolding is_number
  time_leads due some few mark plain all worth =
      let wide : length (take width (drop at s)) ≡ width = length-take-le width (drop at s) (omega (arith, length-drop at s)) in
      let after_it : get_or (drop width (drop at s)) 0 0 ≡ comma = rw (get_or-drop, get_or-drop, add-zero) mark in
      let digits : leading (drop at s) ≡ take width (drop at s) =
      ap leading (sym (take-append-drop width (drop at s))) ∙ leading_is (take width (drop at s))
      (drop width (drop at s)) all (rw after_it) in
      let first : get_or (take width (drop at s)) 0 0 ≡ get_or s at 0 = rw (take_first (drop at s) width some, get_or-drop, add-zero) in
      let number : is_number (leading (drop at s)) ≡ true = rw (digits, all, wide, le-leb 1 width some, le-leb width longest few, first, plain) in
      record { number = number; value = rw digits (sym worth); place = rw (digits, wide); small = rw (← worth, ← digits) (number_below (leading (drop at s)) number); within = room }
