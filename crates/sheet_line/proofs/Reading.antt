-- Laws of a field's reading. The reader takes the digits that a text starts with, 12 at most, and looks at what comes
-- after them: either the field ends there, and is those digits, or the byte there makes it no number, being no digit or
-- the 13th. Assumes nothing.
use mathlib.Core.Path.{◌≡◌, refl}
use mathlib.Core.Bool.{Bool, true, false, not, ◌&&◌, and-false, true≢false}
use mathlib.Core.List.{List, [], ◌∷◌}
use Prim.Native.Nat.{ℕ, zero, suc, ◌+◌}
use native.Mathlib.Omega.{arith}
use lib.Dec.{leb, ltb, eqb, leb-suc-suc}
use lib.ListN.{length, get_or, drop}
use lib.Seq.{drop-drop}
use borrow.Author.Tests.{lt-leb, ne_eqb}
use Rattle.truth.proofs.Cases.{by_test}
use Rattle.decimal.specs.Decimal.{zero_byte, longest, is_digit, all_digits, leading_digits, is_number, value_of}
use Rattle.decimal.proofs.Text.{digit_range}
use Rattle.decimal.proofs.Reading.{run, run_number}
use Rattle.sheet_line.specs.Field.{is_end, ends_here, field_of, read_as, field_at}
use Rattle.sheet_line.specs.declared.Field.TheVariants.{Number}

pub digit_no_end : (b : ℕ) → is_digit b ≡ true → is_end b ≡ false
digit_no_end b d = let range = digit_range b d in rw (ne_eqb b 9 (λ e. omega arith), ne_eqb b 10 (λ e. omega arith))

-- where a field ends after them, they are the field
pub field_ends : (n : ℕ) (text : List ℕ) → ends_here (drop (length (leading_digits n text)) text) ≡ true → field_of text ≡ leading_digits n text
unfolding leading_digits ends_here field_of
field_ends zero [] e = refl
field_ends zero (b ∷ text) e = rw e
field_ends (suc n) [] e = refl
field_ends (suc n) (b ∷ text) e =
    by_test (is_digit b)
    (λ d. rw (d, digit_no_end b d, field_ends n text (rw d at e)))
    (λ d. rw (d, rw d at e))

-- where none does, the field has another byte than a digit, or too many
pub field_goes_on : (n : ℕ) (text : List ℕ) → ends_here (drop (length (leading_digits n text)) text) ≡ false
    → (all_digits (field_of text) && leb (length (field_of text)) n) ≡ false
unfolding leading_digits ends_here field_of all_digits
field_goes_on zero [] e = absurd (true≢false e)
field_goes_on zero (b ∷ text) e = rw (e, lt-leb (length (b ∷ field_of text)) 0 (omega arith), and-false)
field_goes_on (suc n) [] e = absurd (true≢false e)
field_goes_on (suc n) (b ∷ text) e =
    by_test (is_digit b)
    (λ d. rw (digit_no_end b d, d, leb-suc-suc) (field_goes_on n text (rw d at e)))
    (λ d. rw (rw d at e, d))

without : (a s l z : Bool) → (a && l) ≡ false → (a && (s && (l && z))) ≡ false
without false s l z e = refl
without true s false z e = and-false s
without true s true z e = absurd (true≢false e)

-- what a field reads as, by the digits that stand at its place and the byte after them
module _ (s : List ℕ) (at : ℕ) where
  abbrev pub is_one : Bool
  is_one = is_number (field_of (drop at s))

  pub no_number : (end : ℕ) → end ≡ at + length (run s at) → ends_here (drop end s) ≡ false → is_one ≡ false
  unfolding is_number
  no_number end e goes_on = rw (without (all_digits (field_of (drop at s))) _ _ _ (field_goes_on longest (drop at s) (rw (drop-drop, ← e) goes_on)))

  module _ (end : ℕ) (e : end ≡ at + length (run s at)) (ends : ends_here (drop end s) ≡ true) where
    field-run : field_of (drop at s) ≡ run s at
    field-run = field_ends longest (drop at s) (rw (drop-drop, ← e) ends)

    pub number_is : is_one ≡ (leb 1 (length (run s at)) && not (ltb 1 (length (run s at)) && eqb (get_or s at 0) zero_byte))
    number_is = rw field-run (run_number s at)

    pub read_number : (value : ℕ) → value ≡ value_of (run s at) → is_one ≡ true → Number value end ≡ field_at s at
    unfolding field_at read_as
    read_number value v n = rw (n, field-run, v, e)
