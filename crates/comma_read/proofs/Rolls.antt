-- The four forms of plain degrees after a comma, as eight bytes side by side are held against them. Assumes nothing.
use Rattle.std.proofs.Common.{◌≡◌, ℕ, ◌+◌, ◌-◌, ◌/◌, ◌%◌, ◌<◌, ◌≤◌, true, eqb, List, [], length, get_or, drop, refl, ap, ◌∙◌, add-zero, add_assoc, arith, get_or-drop, eq-eqb, ne_eqb, eqb-true}
use borrow.Author.Tests.{eqb-false}
use Rattle.truth.proofs.Cases.{by_test}
use Rattle.decimal.specs.Decimal.{zero_byte, is_digit, all_digits}
use Rattle.decimal.specs.Field.{line_feed}
use Rattle.decimal.proofs.Text.{digit_range}
use Rattle.degrees.specs.Degrees.{minus, point, sign_length}
use Rattle.comma_word.specs.Plain.{byte_at, Form, short, long, Plain}
use Rattle.comma_word.proofs.Plain.{four, long_of}
use Rattle.comma_word.specs.Word.{word}
use Rattle.comma_word.specs.Form.{digit}
use Rattle.comma_read.specs.Forms.{plus_long, plus_short, minus_long, minus_short}
use Rattle.comma_word.proofs.Row.{row}
use Rattle.comma_word.proofs.Form.{Is, Are, first-is, others_are, the_byte, a_digit}
use Rattle.comma_read.specs.Roll.{PlainRoll}

-- ---- plain degrees by their bytes
module _ (s : List ℕ) (from : ℕ) (room : from + 7 ≤ length s) (a : is_digit (get_or s from 0) ≡ true) where
  short_at : byte_at s from 1 ≡ point → is_digit (byte_at s from 2) ≡ true → is_digit (byte_at s from 3) ≡ true → is_digit (byte_at s from 4) ≡ true → byte_at s from 5 ≡ line_feed
      → Plain s from 5
  unfolding all_digits
  short_at mark b c d feed = record { room = room; form = short mark (rw (a, b, c, d, eq-eqb _ line_feed feed)) }

  long_at : ¬ (get_or s from 0 ≡ zero_byte) → is_digit (byte_at s from 1) ≡ true → byte_at s from 2 ≡ point → is_digit (byte_at s from 3) ≡ true → is_digit (byte_at s from 4) ≡ true
      → is_digit (byte_at s from 5) ≡ true → byte_at s from 6 ≡ line_feed → Plain s from 6
  unfolding all_digits
  long_at some b mark c d e feed = record { room = room; form = long mark (rw (a, ne_eqb _ zero_byte some, b, c, d, e, eq-eqb _ line_feed feed)) }

most : {b : ℕ} → Is digit b → b < 58
most {b} i = (digit_range b (a_digit i)).1

module _ (s : List ℕ) (c : ℕ) where
  pub unsigned_roll : ¬ (get_or s (c + 1) 0 ≡ minus) → sign_length (drop (c + 1) s) ≡ 0
  unsigned_roll h = rw (get_or-drop, add-zero, ne_eqb (get_or s (c + 1) 0) minus h)

  pub signed_roll : get_or s (c + 1) 0 ≡ minus → sign_length (drop (c + 1) s) ≡ 1
  signed_roll h = rw (get_or-drop, add-zero, eq-eqb (get_or s (c + 1) 0) minus h)

-- the form of plain degrees by its second byte
module _ (s : List ℕ) (c : ℕ) {roll : ℕ} (p : PlainRoll s c roll) where
  abbrev From : ℕ
  From = c + 1 + roll % 2

  abbrev Width : ℕ
  Width = roll / 2 - 2 - roll % 2

  no_point : ¬ (Width ≡ 5) → ¬ (byte_at s From 1 ≡ point)
  no_point h e =
      let d : is_digit (byte_at s From 1) ≡ true = (four (byte_at s From 1) (byte_at s From 3) (byte_at s From 4) (byte_at s From 5) [] (long_of s From p.plain h).0.digits).0 in
      absurd (omega (arith, (digit_range (byte_at s From 1) d).0))

  pub short_roll : byte_at s From 1 ≡ point → Width ≡ 5
  short_roll e = by_test (eqb Width 5) (λ t. eqb-true Width 5 t) (λ t. absurd (no_point (eqb-false Width 5 t) e))

  pub long_roll : ¬ (byte_at s From 1 ≡ point) → Width ≡ 6
  long_roll h = by_form p.plain.form refl
    where
      by_form : {bytes : ℕ} → Form s From bytes → bytes ≡ Width → Width ≡ 6
      by_form (short m t) e = absurd (h m)
      by_form (long m t) e = omega arith

module _ (s : List ℕ) (c : ℕ) (room : c + 9 ≤ length s) where
  -- a byte after a place that is after the comma
  near : (k n : ℕ) → get_or s (c + k + n) 0 ≡ get_or s (c + (k + n)) 0
  near k n = ap (λ (i : ℕ). get_or s i 0) (add_assoc c k n)

  near₂ : (n : ℕ) → get_or s (c + 1 + 1 + n) 0 ≡ get_or s (c + (2 + n)) 0
  near₂ n = ap (λ (i : ℕ). get_or s i 0) (add_assoc (c + 1) 1 n ∙ add_assoc c 1 (1 + n) ∙ ap (λ (i : ℕ). c + i) (omega arith))

  no_minus : (b : ℕ) → is_digit b ≡ true → ¬ (b ≡ minus)
  no_minus b d e = absurd (omega (arith, (digit_range b d).0))

  module _ (v : ℕ) (is : v ≡ word (row s c 0 8)) where
    pub plus_short_lem : Are plus_short (row s c 0 8) → PlainRoll s c 14
    unfolding row
    plus_short_lem r =
        let r₁ = others_are r in
        let r₂ = others_are r₁ in
        let r₃ = others_are r₂ in
        let r₄ = others_are r₃ in
        let r₅ = others_are r₄ in
        let a = a_digit (first-is r₁) in
        let p = short_at s (c + 1) (omega arith) a (rw (near 1 1) (the_byte (first-is r₂)))
        (rw (near 1 2) (a_digit (first-is r₃))) (rw (near 1 3) (a_digit (first-is r₄)))
        (rw (near 1 4) (a_digit (first-is r₅))) (rw (near 1 5) (the_byte (first-is (others_are r₅)))) in
        record { mark = rw add-zero at (the_byte (first-is r)); sign = unsigned_roll s c (no_minus (get_or s (c + 1) 0) a); plain = rw add-zero p; ends = refl }

    pub minus_short_lem : Are minus_short (row s c 0 8) → PlainRoll s c 17
    unfolding row
    minus_short_lem r =
        let r₁ = others_are r in
        let r₂ = others_are r₁ in
        let r₃ = others_are r₂ in
        let r₄ = others_are r₃ in
        let r₅ = others_are r₄ in
        let r₆ = others_are r₅ in
        let p = short_at s (c + 1 + 1) (omega arith) (rw (near 1 1) (a_digit (first-is r₂)))
        (rw (near₂ 1) (the_byte (first-is r₃))) (rw (near₂ 2) (a_digit (first-is r₄)))
        (rw (near₂ 3) (a_digit (first-is r₅))) (rw (near₂ 4) (a_digit (first-is r₆)))
        (rw (near₂ 5) (the_byte (first-is (others_are r₆)))) in
        record { mark = rw add-zero at (the_byte (first-is r)); sign = signed_roll s c (the_byte (first-is r₁)); plain = p; ends = refl }

    -- ,10.000 and what follows: the first digit is no 0
    pub plus_long_lem : Are plus_long (row s c 0 8) → 0x2C30392E3939390A < v → PlainRoll s c 16
    unfolding row word
    plus_long_lem r ten =
        let r₁ = others_are r in
        let r₂ = others_are r₁ in
        let r₃ = others_are r₂ in
        let r₄ = others_are r₃ in
        let r₅ = others_are r₄ in
        let r₆ = others_are r₅ in
        let feed = the_byte (first-is (others_are r₆)) in
        let a = a_digit (first-is r₁) in
        let some : ¬ (get_or s (c + 1) 0 ≡ zero_byte) = λ z. absurd (omega (
          arith,
          is,
          the_byte (first-is r),
          z,
          most (first-is r₂),
          the_byte (first-is r₃),
          most (first-is r₄),
          most (first-is r₅),
          most (first-is r₆),
          feed,
        )) in
        let p = long_at s (c + 1) (omega arith) a some (rw (near 1 1) (a_digit (first-is r₂)))
        (rw (near 1 2) (the_byte (first-is r₃))) (rw (near 1 3) (a_digit (first-is r₄)))
        (rw (near 1 4) (a_digit (first-is r₅))) (rw (near 1 5) (a_digit (first-is r₆))) (rw (near 1 6) feed) in
        record { mark = rw add-zero at (the_byte (first-is r)); sign = unsigned_roll s c (no_minus (get_or s (c + 1) 0) a); plain = rw add-zero p; ends = refl }

    pub minus_long_lem : Are minus_long (row s c 0 8) → 0x2C2D30392E393939 < v → get_or s (c + 8) 0 ≡ line_feed → PlainRoll s c 19
    unfolding row word
    minus_long_lem r ten feed =
        let r₁ = others_are r in
        let r₂ = others_are r₁ in
        let r₃ = others_are r₂ in
        let r₄ = others_are r₃ in
        let r₅ = others_are r₄ in
        let r₆ = others_are r₅ in
        let r₇ = others_are r₆ in
        let some : ¬ (get_or s (c + 1 + 1) 0 ≡ zero_byte) = λ z. absurd (omega (
          arith,
          is,
          the_byte (first-is r),
          the_byte (first-is r₁),
          rw (near 1 1) at z,
          most (first-is r₃),
          the_byte (first-is r₄),
          most (first-is r₅),
          most (first-is r₆),
          most (first-is r₇),
        )) in
        let p = long_at s (c + 1 + 1) (omega arith) (rw (near 1 1) (a_digit (first-is r₂))) some
        (rw (near₂ 1) (a_digit (first-is r₃))) (rw (near₂ 2) (the_byte (first-is r₄)))
        (rw (near₂ 3) (a_digit (first-is r₅))) (rw (near₂ 4) (a_digit (first-is r₆)))
        (rw (near₂ 5) (a_digit (first-is r₇))) (rw (near₂ 6) feed) in
        record { mark = rw add-zero at (the_byte (first-is r)); sign = signed_roll s c (the_byte (first-is r₁)); plain = p; ends = refl }
