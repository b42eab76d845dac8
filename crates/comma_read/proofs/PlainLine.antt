-- A plain line: the digits of the time that is due, a comma, and plain degrees are the line of that time, its sample in
-- range. Assumes nothing.
use Rattle.std.proofs.Common.{◌≡◌, ℕ, zero, suc, ◌+◌, ◌-◌, ◌/◌, ◌%◌, ◌^◌, ◌<◌, ◌≤◌, true, false, not, ◌&&◌, eqb, ltb, List, ◌∷◌, length, get_or, take, drop, sym, refl, ap, arith, length-drop, length-take-le, get_or-drop, drop-cons, eq-eqb, ne_eqb, eqb-true}
use mathlib.Core.Bool.{and-false}
use Rattle.truth.proofs.Cases.{by_test}
use Rattle.truth.proofs.Laws.{and-true}
use Rattle.decimal.specs.Decimal.{zero_byte, longest, is_digit, all_digits, value_of, digits_of}
use Rattle.decimal.proofs.Text.{digits_below, value_below}
use Rattle.decimal.specs.Field.{line_feed}
use Rattle.degrees.specs.Degrees.{sign_length, size}
use Rattle.degrees.proofs.Signs.{degrees_read}
use Rattle.comma_line.specs.Line.{comma, right}
use Rattle.comma_word.specs.Plain.{Plain}
use Rattle.comma_word.proofs.Plain.{plain_facts, plain_read}
use Rattle.comma_line.proofs.At.{LineRead, whole_line, line_read}
use Rattle.comma_read.specs.Roll.{PlainRoll}
use Rattle.comma_read.specs.Plain.{Narrow, PlainLine, RollLine}
use Rattle.comma_read.proofs.Times.{time_leads, line_by_roll, as_wide}

pub plain_line : (s : List ℕ) (at width due : ℕ) → 1 ≤ width → width ≤ longest → at + width < length s → get_or s (at + width) 0 ≡ comma
    → (ltb 1 width && eqb (get_or s at 0) zero_byte) ≡ false → all_digits (take width (drop at s)) ≡ true → value_of (take width (drop at s)) ≡ due
    → (from : ℕ) {bytes : ℕ} → from ≡ at + width + 1 + sign_length (drop (at + width + 1) s) → Plain s from bytes → PlainLine s at due (from + bytes + 1)
plain_line s at width due some few inside mark led all worth from {bytes} e p =
    let f = plain_facts s from p in
    let time = time_leads s at width (omega arith) due some few mark led all worth in
    let roll = degrees_read s (at + width + 1) _ _ _ (sym (plain_read s (at + width + 1) from e p)) in
    let line = line_read s at due _ _ _ (sym (whole_line s at due due (at + width) time _ _ _ roll refl (eq-eqb _ comma mark) (eq-eqb _ line_feed f.feed))) in
    record { is = line.is; place = line.place; small = rw line.value (omega (arith, f.small)) }

-- digits that are worth the time that is due, no more of them than it has, do not start with a 0
worth_less : (b : ℕ) (rest : List ℕ) (k due : ℕ) → all_digits (b ∷ rest) ≡ true → value_of (zero_byte ∷ rest) ≡ due → length rest ≡ suc k → due < 10 ^ suc k
unfolding all_digits value_of
worth_less b rest k due all worth wide = rw (← wide, ← worth) (value_below rest (and-true (is_digit b) _ all).1)

no_zero : (s : List ℕ) (at due width : ℕ) → Narrow width due → at + width ≤ length s → all_digits (take width (drop at s)) ≡ true → value_of (take width (drop at s)) ≡ due
    → (ltb 1 width && eqb (get_or s at 0) zero_byte) ≡ false
no_zero s at due zero n room all worth = absurd (omega (arith, n.some))
no_zero s at due (suc zero) n room all worth = refl
no_zero s at due (suc (suc k)) n room all worth =
    by_test (eqb (get_or s at 0) zero_byte)
    (λ e.
    let rest = take (suc k) (drop (suc at) s) in
    let first : take (suc (suc k)) (drop at s) ≡ get_or s at 0 ∷ rest = ap (take (suc (suc k))) (drop-cons s at 0 (omega arith)) in
    let wide : length rest ≡ suc k = length-take-le (suc k) (drop (suc at) s) (omega (arith, length-drop (suc at) s)) in
    let small = worth_less (get_or s at 0) rest k due (rw first at all) (rw (eqb-true (get_or s at 0) zero_byte e) at (rw first at worth)) wide in
    absurd (omega (arith, n.few, digits_below k due small)))
    (λ e. rw (e, and-false))

-- plain degrees after the comma that stands after the time
module _ (s : List ℕ) (at width : ℕ) {roll : ℕ} (p : PlainRoll s (at + width) roll) where
  abbrev From : ℕ
  From = at + width + 1 + roll % 2

  from_sign : From ≡ at + width + 1 + sign_length (drop (at + width + 1) s)
  from_sign = rw p.sign

  place : From + (roll / 2 - 2 - roll % 2) + 1 ≡ at + width + roll / 2
  place = omega (arith, p.ends)

  pub roll_within : at + width + roll / 2 ≤ length s
  roll_within = omega (arith, place, (plain_facts s From p.plain).room)

  roll_line : (due : ℕ) → Narrow width due → width ≤ longest → all_digits (take width (drop at s)) ≡ true → value_of (take width (drop at s)) ≡ due
      → PlainLine s at due (at + width + roll / 2)
  roll_line due n few all worth =
      let f = plain_facts s From p.plain in
      let inside : at + width < length s = omega (arith, f.room) in
      rw place at (plain_line s at width due n.some few inside p.mark (no_zero s at due width n (omega arith) all worth) all worth From from_sign p.plain)

  pub whole_roll : (due : ℕ) → Narrow width due → width ≤ longest → all_digits (take width (drop at s)) ≡ true → value_of (take width (drop at s)) ≡ due
      → RollLine s at due (at + width + roll / 2)
  whole_roll due n few all worth =
      let l = roll_line due n few all worth in
      let wide : width ≡ length (digits_of due) = as_wide due (drop at s) width n.few (rw get_or-drop p.mark) l.is in
      record { line = l; roll = roll; found = rw (← wide) p }

  -- and what it says of its line
  told : (m a : ℕ) → m < 2 → not (eqb (a + m) a) ≡ eqb m 1
  told zero a l = rw (eq-eqb (a + 0) a (omega arith))
  told (suc zero) a l = rw (ne_eqb (a + 1) a (λ e. omega arith))
  told (suc (suc m)) a l = absurd (omega arith)

  pub roll_read : (time : ℕ) → right time (drop at s) ≡ true → width ≡ length (digits_of time) → LineRead s at time (eqb (roll % 2) 1) (size (drop From s)) (at + width + roll / 2)
  roll_read time r wide =
      let line = line_by_roll s at time width r wide (degrees_read s (at + width + 1) _ _ _ (sym (plain_read s (at + width + 1) From from_sign p.plain))) in
      rw (told (roll % 2) (at + width + 1) (omega arith), place) at line
