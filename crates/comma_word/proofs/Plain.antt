-- Laws of plain degrees: the bytes of each form are degrees of that size and length. Assumes nothing.
use mathlib.Core.Path.{◌≡◌, refl, sym, ◌∙◌}
use mathlib.Core.Bool.{true, false, not, ◌&&◌}
use mathlib.Core.List.{List, [], ◌∷◌}
use Prim.Native.Nat.{ℕ, ◌+◌, ◌-◌, ◌*◌, ◌≤◌, ◌<◌}
use native.Mathlib.Nat.{add_assoc}
use native.Mathlib.Numerals.{add-one}
use native.Mathlib.Omega.{arith}
use lib.Dec.{eqb, leb}
use lib.ListN.{length, get_or, drop}
use lib.Seq.{drop-cons}
use borrow.Author.Tests.{eqb-true, eqb-false, not-true, leb-true, le-leb}
use Rattle.truth.proofs.Cases.{by_test}
use Rattle.truth.proofs.Laws.{and-true}
use Rattle.decimal.specs.Decimal.{zero_byte, is_digit, all_digits, is_number, value_of}
use Rattle.decimal.specs.Field.{line_feed}
use Rattle.decimal.proofs.Text.{digit_range, value_below}
use Rattle.degrees.specs.Degrees.{point, filled, sign_length, size, degrees_at}
use Rattle.degrees.proofs.Forms.{Sized, with_point, sized_at}
use Rattle.degrees.proofs.Signs.{after_sign}
use Rattle.comma_word.specs.Plain.{byte_at, short_digits, long_digits, short_at, long_at, Form, short, long, Plain, plain_bytes, short_size, long_size, plain_size}
use Rattle.std.specs.Prelude.{Some}

-- the bytes from a place on, one by one
next_byte : (s : List ℕ) (at : ℕ) → at < length s → drop at s ≡ get_or s at 0 ∷ drop (at + 1) s
next_byte s at h = rw (add-one) (drop-cons s at 0 h)

module _ (s : List ℕ) (at : ℕ) (h : at + 7 ≤ length s) where
  step : (n : ℕ) → n < 7 → drop (at + n) s ≡ get_or s (at + n) 0 ∷ drop (at + (n + 1)) s
  step n l = rw (← add_assoc at n 1) (next_byte s (at + n) (omega arith))

  seven : drop at s
      ≡ get_or s at 0 ∷ get_or s (at + 1) 0 ∷ get_or s (at + 2) 0 ∷ get_or s (at + 3) 0 ∷ get_or s (at + 4) 0 ∷ get_or s (at + 5) 0 ∷ get_or s (at + 6) 0 ∷ drop (at + 7) s
  seven = rw (next_byte s at (omega arith), step 1 (omega arith), step 2 (omega arith), step 3 (omega arith), step 4 (omega arith), step 5 (omega arith), step 6 (omega arith))

module _ (a b c d : ℕ) (rest : List ℕ) (ds : all_digits (a ∷ b ∷ c ∷ d ∷ []) ≡ true) where
  -- each of the four
  pub four : (is_digit a ≡ true) × (is_digit b ≡ true) × (is_digit c ≡ true) × (is_digit d ≡ true)
  unfolding all_digits
  four =
      let (one, rest₁) = and-true (is_digit a) (all_digits (b ∷ c ∷ d ∷ [])) ds in
      let (two, rest₂) = and-true (is_digit b) (all_digits (c ∷ d ∷ [])) rest₁ in
      let (three, rest₃) = and-true (is_digit c) (all_digits (d ∷ [])) rest₂ in
      (one, two, three, (and-true (is_digit d) true rest₃).0)

  last_three : all_digits (b ∷ c ∷ d ∷ []) ≡ true
  unfolding all_digits
  last_three = (and-true (is_digit a) (all_digits (b ∷ c ∷ d ∷ [])) ds).1

  one_number : is_number (a ∷ []) ≡ true
  unfolding is_number all_digits
  one_number = rw four.0

  short_sum : value_of (a ∷ b ∷ c ∷ d ∷ []) ≡ value_of (a ∷ []) * 1000 + value_of (filled (b ∷ c ∷ d ∷ []))
  unfolding value_of filled
  short_sum = omega arith

  -- 4.250
  short_form : Sized (a ∷ point ∷ b ∷ c ∷ d ∷ 10 ∷ rest) (value_of (a ∷ b ∷ c ∷ d ∷ [])) 5
  short_form = rw short_sum (with_point (a ∷ []) one_number (b ∷ c ∷ d ∷ []) (10 ∷ rest) last_three (omega arith) (omega arith) refl)

  module _ (t : ℕ) (digit : is_digit t ≡ true) (some : eqb t zero_byte ≡ false) where
    two_number : is_number (t ∷ a ∷ []) ≡ true
    unfolding is_number all_digits
    two_number = rw (digit, four.0, some)

    long_sum : (t - zero_byte) * 10000 + value_of (a ∷ b ∷ c ∷ d ∷ []) ≡ value_of (t ∷ a ∷ []) * 1000 + value_of (filled (b ∷ c ∷ d ∷ []))
    unfolding value_of filled
    long_sum = omega arith

    -- 41.500
    long_form : Sized (t ∷ a ∷ point ∷ b ∷ c ∷ d ∷ 10 ∷ rest) ((t - zero_byte) * 10000 + value_of (a ∷ b ∷ c ∷ d ∷ [])) 6
    long_form = rw long_sum (with_point (t ∷ a ∷ []) two_number (b ∷ c ∷ d ∷ []) (10 ∷ rest) last_three (omega arith) (omega arith) refl)

-- ---- at a place of a text
module _ (s : List ℕ) (at : ℕ) where
  -- what the tests of the short form say
  pub record ShortFacts : Type 0 where
    pub digits : all_digits (short_digits s at) ≡ true
    pub feed : byte_at s at 5 ≡ line_feed

  short_facts : short_at s at ≡ true → ShortFacts
  short_facts h =
      let (digits, feed) = and-true (all_digits (short_digits s at)) _ h in
      record { digits = digits; feed = eqb-true _ _ feed }

  -- and those of the long one
  pub record LongFacts : Type 0 where
    pub tens : is_digit (get_or s at 0) ≡ true
    pub some : eqb (get_or s at 0) zero_byte ≡ false
    pub digits : all_digits (long_digits s at) ≡ true
    pub feed : byte_at s at 6 ≡ line_feed

  long_facts : long_at s at ≡ true → LongFacts
  long_facts h =
      let (first, rest) = and-true (is_digit (get_or s at 0) && not (eqb (get_or s at 0) zero_byte)) _ h in
      let (tens, other) = and-true (is_digit (get_or s at 0)) _ first in
      let (digits, feed) = and-true (all_digits (long_digits s at)) _ rest in
      record { tens = tens; some = not-true _ other; digits = digits; feed = eqb-true _ _ feed }

  short_sized : at + 7 ≤ length s → byte_at s at 1 ≡ point → (f : ShortFacts)
      → Sized (drop at s) (short_size s at) 5
  short_sized room mark f =
      let bytes = rw (mark, f.feed) at (seven s at room) in
      rw bytes (short_form (get_or s at 0) (byte_at s at 2) (byte_at s at 3) (byte_at s at 4) (byte_at s at 6 ∷ drop (at + 7) s) f.digits)

  long_sized : at + 7 ≤ length s → byte_at s at 2 ≡ point → (f : LongFacts)
      → Sized (drop at s) (long_size s at) 6
  long_sized room mark f =
      let bytes = rw (mark, f.feed) at (seven s at room) in
      rw bytes (long_form (byte_at s at 1) (byte_at s at 3) (byte_at s at 4) (byte_at s at 5) (drop (at + 7) s) f.digits (get_or s at 0) f.tens f.some)

  pub short_of : {bytes : ℕ} → Plain s at bytes → bytes ≡ 5 → ShortFacts × Sized (drop at s) (short_size s at) 5
  short_of p e = by_form p.form e
    where
      by_form : {bytes : ℕ} → Form s at bytes → bytes ≡ 5 → ShortFacts × Sized (drop at s) (short_size s at) 5
      by_form (short mark h) e = (short_facts h, short_sized p.room mark (short_facts h))
      by_form (long mark h) e = absurd (omega arith)

  pub long_of : {bytes : ℕ} → Plain s at bytes → ¬ (bytes ≡ 5) → LongFacts × Sized (drop at s) (long_size s at) 6
  long_of p e = by_form p.form e
    where
      by_form : {bytes : ℕ} → Form s at bytes → ¬ (bytes ≡ 5) → LongFacts × Sized (drop at s) (long_size s at) 6
      by_form (short mark h) e = absurd (e refl)
      by_form (long mark h) e = (long_facts h, long_sized p.room mark (long_facts h))

  -- the digits of plain degrees are worth their thousandths
  pub plain_size_lem : {bytes : ℕ} → Plain s at bytes → plain_size s at bytes ≡ size (drop at s)
  unfolding plain_size
  plain_size_lem {bytes} p =
      by_test (eqb bytes 5)
      (λ e. rw (le-leb _ _ p.room, e) (sym (short_of p (eqb-true _ _ e)).1.value))
      (λ e. rw (le-leb _ _ p.room, e) (sym (long_of p (eqb-false _ _ e)).1.value))

  -- what plain degrees are: a size in range, and LF after it
  pub record PlainFacts (bytes : ℕ) : Type 0 where
    pub is : Sized (drop at s) (size (drop at s)) bytes
    pub small : size (drop at s) < 100000
    pub feed : get_or s (at + bytes) 0 ≡ line_feed
    pub room : at + bytes < length s

  pub plain_facts : {bytes : ℕ} → Plain s at bytes → PlainFacts bytes
  plain_facts {bytes} p = by_form p.form
    where
      by_form : {bytes : ℕ} → Form s at bytes → PlainFacts bytes
      by_form (short mark h) =
          let f = short_facts h in
          let z = short_sized p.room mark f in
          record {
            is = record { right = z.right; value = refl; count = z.count };
            small = rw z.value
                (omega (arith, value_below (short_digits s at) f.digits));
            feed = f.feed;
            room =
                omega (arith, p.room);
          }
      by_form (long mark h) =
          let f = long_facts h in
          let z = long_sized p.room mark f in
          record {
            is = record { right = z.right; value = refl; count = z.count };
            small = rw z.value
                (omega (arith, value_below (long_digits s at) f.digits, (digit_range (get_or s at 0) f.tens).1));
            feed = f.feed;
            room = omega (arith, p.room);
          }

  -- what an answer other than 0 says
  stands : 1 ≤ plain_bytes s at → Plain s at (plain_bytes s at)
  unfolding plain_bytes
  stands some =
      by_test (leb (at + 7) (length s))
      (λ r.
      by_test (eqb (byte_at s at 2) point)
      (λ m.
      by_test (long_at s at)
      (λ h. rw (r, m, h) (record { room = leb-true _ _ r; form = long (eqb-true _ _ m) h }))
      (λ h. absurd (omega (arith, rw (r, m, h) at some))))
      (λ m.
      by_test (eqb (byte_at s at 1) point)
      (λ n.
      by_test (short_at s at)
      (λ h. rw (r, m, n, h) (record { room = leb-true _ _ r; form = short (eqb-true _ _ n) h }))
      (λ h. absurd (omega (arith, rw (r, m, n, h) at some))))
      (λ n. absurd (omega (arith, rw (r, m, n) at some)))))
      (λ r. absurd (omega (arith, rw r at some)))

  pub plain_of : {bytes : ℕ} → bytes ≡ plain_bytes s at → 1 ≤ bytes → Plain s at bytes
  plain_of e some = rw e (stands (rw (← e) some))

-- plain degrees after a sign are what is read
pub plain_read : (s : List ℕ) (at from : ℕ) {bytes : ℕ} → from ≡ at + sign_length (drop at s) → Plain s from bytes
    → Some (not (eqb from at), size (drop from s), from + bytes) ≡ degrees_at s at
plain_read s at from e p = sized_at s from (not (eqb from at)) refl (plain_facts s from p).is ∙ after_sign s at from e
