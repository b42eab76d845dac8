-- Laws of what is wrong with a field: its digits go up to the first byte that is none, which ends the field or is
-- strange in it. Assumes nothing.
use mathlib.Core.Path.{◌≡◌, refl, sym, ◌∙◌}
use mathlib.Core.Bool.{true, false, true≢false}
use mathlib.Core.List.{List, [], ◌∷◌}
use Prim.Native.Nat.{ℕ, ◌+◌, ◌≤◌, ◌<◌}
use native.Mathlib.Nat.{add-zero}
use native.Mathlib.Omega.{arith}
use lib.Dec.{eqb}
use lib.ListN.{length, get_or, drop, length-drop, drop_of_length-le}
use lib.Seq.{drop-drop, get_or-drop}
use borrow.Author.Tests.{eq-eqb, ne_eqb, le-leb, le-ltb, lt-ltb}
use Rattle.truth.proofs.Cases.{by_order, by_test}
use Rattle.decimal.specs.Decimal.{zero_byte, longest, is_digit, all_digits, is_number, leading_zero}
use Rattle.decimal.specs.Leading.{leading}
use Rattle.sheet_line.specs.Field.{is_end, ends_here, field_of, strange_in, fault_in, read_as, field_at}
use Rattle.sheet_line.specs.declared.Field.{Field}
use Rattle.sheet_line.specs.declared.Field.TheVariants.{Number, Empty, Strange, LeadingZero, TooLong}
use Rattle.sheet_line.proofs.Reading.{digit_no_end}

end_no_digit : (b : ℕ) → is_end b ≡ true → is_digit b ≡ false
end_no_digit b e = by_test (is_digit b) (λ d. absurd (true≢false (sym e ∙ digit_no_end b d))) (λ d. d)

strange_field : (text : List ℕ) → strange_in (field_of text) ≡ strange_in text
unfolding leading field_of
strange_field [] = refl
strange_field (b ∷ text) =
    by_test (is_end b)
    (λ e. rw (e, end_no_digit b e))
    (λ e. by_test (is_digit b) (λ d. rw (e, d, strange_field text)) (λ d. rw (e, d)))

all_digits_up : (text : List ℕ) → all_digits (field_of text) ≡ ends_here (drop (strange_in text) text)
unfolding leading field_of all_digits ends_here
all_digits_up [] = refl
all_digits_up (b ∷ text) =
    by_test (is_end b)
    (λ e. rw (e, end_no_digit b e) (sym e))
    (λ e. by_test (is_digit b) (λ d. rw (e, d) (all_digits_up text)) (λ d. rw (e, d) (sym e)))

none_there : (text : List ℕ) → eqb (length (field_of text)) 0 ≡ ends_here text
unfolding field_of ends_here
none_there [] = refl
none_there (b ∷ text) = by_test (is_end b) (λ e. rw e) (λ e. rw (e, ne_eqb (length (b ∷ field_of text)) 0 (λ z. omega arith)))

first_byte : (text : List ℕ) → ends_here text ≡ false → (1 ≤ length (field_of text)) × (get_or (field_of text) 0 0 ≡ get_or text 0 0)
unfolding field_of ends_here
first_byte [] e = absurd (true≢false e)
first_byte (b ∷ text) e = rw e (omega arith, refl)

-- digits that are no number, though they are some and not too many, start with 0 and go on
zero_first : (field : List ℕ) → is_number field ≡ false → all_digits field ≡ true → 1 ≤ length field → get_or field 0 0 ≡ zero_byte → leading_zero field ≡ true
unfolding is_number
zero_first field n all some z =
    by_order 1 (length field)
    (λ l. rw (lt-ltb 1 (length field) l, eq-eqb (get_or field 0 0) zero_byte z))
    (λ l. absurd (true≢false (rw (all, le-leb 1 (length field) some, le-leb (length field) longest (omega arith), le-ltb 1 (length field) l) at n)))

other_first : (field : List ℕ) → ¬ (get_or field 0 0 ≡ zero_byte) → leading_zero field ≡ false
other_first field z = by_order 1 (length field) (λ l. rw (lt-ltb 1 (length field) l, ne_eqb (get_or field 0 0) zero_byte z)) (λ l. rw (le-ltb 1 (length field) l))

module _ (s : List ℕ) (at : ℕ) (n : is_number (field_of (drop at s)) ≡ false) where
  pub is_empty : ends_here (drop at s) ≡ true → Empty ≡ field_at s at
  unfolding field_at read_as fault_in
  is_empty e = rw (n, none_there (drop at s), e)

  module _ (some : ends_here (drop at s) ≡ false) where
    pub inside : at < length s
    unfolding ends_here
    inside = by_order at (length s) (λ l. l) (λ l. absurd (true≢false (rw (drop_of_length-le s l) at some)))

    module _ (end : ℕ) (e : end ≡ at + strange_in (drop at s)) where
      pub is_strange : ends_here (drop end s) ≡ false → Strange end ≡ field_at s at
      unfolding field_at read_as fault_in
      is_strange f = rw (n, none_there (drop at s), some, all_digits_up (drop at s), drop-drop, ← e, f, strange_field (drop at s), ← e)

      module _ (all : ends_here (drop end s) ≡ true) where
        digits : all_digits (field_of (drop at s)) ≡ true
        digits = all_digits_up (drop at s) ∙ rw (drop-drop, ← e) all

        byte : get_or (field_of (drop at s)) 0 0 ≡ get_or s at 0
        byte = (first_byte (drop at s) some).1 ∙ rw (get_or-drop, add-zero)

        pub is_leading_zero : get_or s at 0 ≡ zero_byte → LeadingZero ≡ field_at s at
        unfolding field_at read_as fault_in
        is_leading_zero z = rw (n, none_there (drop at s), some, digits, zero_first (field_of (drop at s)) n digits (first_byte (drop at s) some).0 (byte ∙ z))

        pub is_too_long : ¬ (get_or s at 0 ≡ zero_byte) → TooLong ≡ field_at s at
        unfolding field_at read_as fault_in
        is_too_long z = rw (n, none_there (drop at s), some, digits, other_first (field_of (drop at s)) (λ k. z (sym byte ∙ k)))

-- a strange byte stands in the text
strange_few : (text : List ℕ) → strange_in text ≤ length text
unfolding leading
strange_few [] = omega arith
strange_few (b ∷ text) = by_test (is_digit b) (λ d. rw d (omega (arith, strange_few text))) (λ d. rw d (omega arith))

abbrev pub strange_place : Field → ℕ
strange_place (Strange place) = place
strange_place (Number v next) = 0
strange_place Empty = 0
strange_place LeadingZero = 0
strange_place TooLong = 0

pub strange_within : (s : List ℕ) (at : ℕ) → strange_place (field_at s at) ≤ at + length s
unfolding field_at read_as fault_in
strange_within s at =
    let field = field_of (drop at s) in
    by_test (is_number field)
    (λ n. rw n (omega arith))
    (λ n. by_test (eqb (length field) 0)
    (λ e. rw (n, e) (omega arith))
    (λ e. by_test (all_digits field) (λ f. by_test (leading_zero field) (λ g. rw (n, e, f, g) (omega arith))
    (λ g. rw (n, e, f, g) (omega arith))) (λ f. rw (n, e, f) (omega (
      arith,
      strange_few (drop at s),
      length-drop
          at s,
      strange_field (drop at s),
    )))))
