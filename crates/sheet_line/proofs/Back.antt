-- Reading and writing are inverse. `read_back`: the digits of a number below ten to the 12, in any text and followed by
-- a tab, LF or the end, read as that number. `read_only`: a field that reads as a number is its digits and nothing
-- else, so that no two texts read as one number. Assumes nothing.
use mathlib.Core.Path.{◌≡◌, refl, sym, ap, ◌∙◌}
use mathlib.Core.Bool.{Bool, true, false, false≢true}
use mathlib.Core.List.{List, [], ◌∷◌, ◌++◌}
use Prim.Native.Nat.{ℕ, ◌+◌, ◌^◌, ◌≤◌, ◌<◌}
use native.Mathlib.Omega.{arith}
use lib.Dec.{eqb}
use lib.ListN.{length, take, drop, length-append, length-drop}
use lib.Seq.{length-take-le, take-append_seam, drop-append_seam, drop-drop}
use Rattle.text.specs.Write.{laid, written, place_after}
use Rattle.truth.proofs.Cases.{by_test}
use Rattle.truth.proofs.Laws.{and-true}
use Rattle.text.proofs.Laws.{written_fits, after_fits}
use Rattle.decimal.specs.Decimal.{longest, is_digit, all_digits, is_number, leading_zero, value_of, digits_of}
use Rattle.sheet_line.specs.Field.{is_end, ends_here, field_of, fault_in, read_as, field_at}
use Rattle.sheet_line.specs.declared.Field.{Field}
use Rattle.sheet_line.specs.declared.Field.TheVariants.{Number, Empty, Strange, LeadingZero, TooLong}
use Rattle.decimal.proofs.Text.{value_digits, all_digits_lem, number_digits, sound, digits_value, number_below}
use Rattle.sheet_line.proofs.Reading.{digit_no_end}

-- digits up to the end of a field are that field
field_is : (text after : List ℕ) → all_digits text ≡ true → ends_here after ≡ true → field_of (text ++ after) ≡ text
unfolding all_digits field_of ends_here
field_is [] [] ds e = refl
field_is [] (b ∷ after) ds e = rw e
field_is (b ∷ text) after ds e =
    let (d, rest) = and-true (is_digit b) (all_digits text) ds in
    rw (digit_no_end b d, field_is text after rest e)

pub read_back : (before after : List ℕ) (v : ℕ) → v < 10 ^ longest → ends_here after ≡ true
    → field_at (before ++ (digits_of v ++ after)) (length before) ≡ Number v (length before + length (digits_of v))
unfolding field_at read_as
read_back before after v h e =
    rw (
      drop-append_seam before (digits_of v ++ after),
      field_is (digits_of v) after (all_digits_lem v) e,
      number_digits v h,
      value_digits v,
    )

-- so what a number's writing leaves reads as that number, up to the place that the writing answers
pub read_written : (out : List ℕ) (at v : ℕ) → v < 10 ^ longest → at + length (digits_of v) ≤ length out
    → ends_here (drop (at + length (digits_of v)) out) ≡ true
    → field_at (written out at (digits_of v)) at ≡ Number v (place_after out at (digits_of v))
unfolding laid
read_written out at v h room e =
    let before : length (take at out) ≡ at = length-take-le at out (omega arith) in
    rw (written_fits out at (digits_of v) room, after_fits out at (digits_of v) room)
    (rw before at (read_back (take at out) (drop (at + length (digits_of v)) out) v h e))

-- a field and what follows it make up the text, and a field's end is there
field_rest : (text : List ℕ) → (text ≡ field_of text ++ drop (length (field_of text)) text) × (ends_here (drop (length (field_of text)) text) ≡ true)
unfolding field_of ends_here
field_rest [] = (refl, refl)
field_rest (b ∷ text) =
    by_test (is_end b)
    (λ e. rw e (refl, e))
    (λ e. rw e (rw (← (field_rest text).0), (field_rest text).1))

-- what a field that reads as the number v, up to `next`, is
pub record ReadAs (text : List ℕ) (at v next : ℕ) : Type 0 where
  pub small : v < 10 ^ longest
  pub after : next ≡ at + length (digits_of v)
  pub within : next ≤ length text
  pub bytes : take (length (digits_of v)) (drop at text) ≡ digits_of v
  pub ended : ends_here (drop next text) ≡ true

-- a fault is no number
abbrev numbered : Field → Bool
numbered (Number v next) = true
numbered Empty = false
numbered (Strange place) = false
numbered LeadingZero = false
numbered TooLong = false

fault : (field : List ℕ) (at : ℕ) → numbered (fault_in field at) ≡ false
unfolding fault_in
fault field at =
    by_test (eqb (length field) 0)
    (λ e. rw e)
    (λ e. by_test (all_digits field) (λ f. by_test (leading_zero field) (λ g. rw (e, f, g)) (λ g. rw (e, f, g))) (λ f. rw (e, f)))

pub read_only : (text : List ℕ) (at v next : ℕ) → field_at text at ≡ Number v next → ReadAs text at v next
unfolding field_at read_as
read_only text at v next r = by_test (is_number field) (λ n. number n (rw n at r)) (λ n. absurd (false≢true (sym (fault field at) ∙ ap numbered (rw n at r))))
  where
    field : List ℕ
    field = field_of (drop at text)

    number : is_number field ≡ true → Number (value_of field) (at + length field) ≡ Number v next → ReadAs text at v next
    number n e =
        let (parts, ended) = field_rest (drop at text) in
        let value : value_of field ≡ v = cc in
        let place : at + length field ≡ next = cc in
        let digits : digits_of v ≡ field = rw value at (digits_value field n) in
        let whole = simp length-append at (ap length parts) in
        record {
          small = rw value at (number_below field n);
          after = rw digits (sym place);
          within = omega (arith, (sound field n).some, length-drop at text, whole);
          bytes = rw digits (ap (take (length field)) parts ∙ take-append_seam field _);
          ended = rw (← place) (rw drop-drop at ended);
        }
