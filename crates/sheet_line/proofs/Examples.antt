-- The definitions at work, as one table: texts that a clerk could type, and what each reads as; and 01's last exposure,
-- written. It computes, so that a slip in a definition shows here. Assumes nothing.
use mathlib.Core.Path.{◌≡◌, refl}
use mathlib.Core.List.{List, [], ◌∷◌, map}
use Prim.Native.Nat.{ℕ}
use Rattle.decimal.specs.Decimal.{all_digits, is_number, value_of, digits_within, digits_of}
use Rattle.decimal.specs.Leading.{leading}
use Rattle.sheet_line.specs.Field.{field_of, fault_in, read_as, field_at}
use Rattle.sheet_line.specs.declared.Field.TheVariants.{Number, Empty, Strange, LeadingZero, TooLong}

abbrev texts : List (List ℕ)
texts =
    (48 ∷ 9 ∷ 49 ∷ [])  -- 0, a tab, 1
    ∷ (52 ∷ 48 ∷ 10 ∷ [])  -- 40, LF
    ∷ (52 ∷ 48 ∷ [])  -- 40
    ∷ (57 ∷ 57 ∷ 57 ∷ 57 ∷ 57 ∷ 57 ∷ 57 ∷ 57 ∷ 57 ∷ 57 ∷ 57 ∷ 57 ∷ 10 ∷ [])  -- 12 digits
    ∷ (57 ∷ 57 ∷ 57 ∷ 57 ∷ 57 ∷ 57 ∷ 57 ∷ 57 ∷ 57 ∷ 57 ∷ 57 ∷ 57 ∷ 57 ∷ 10 ∷ [])  -- 13
    ∷ (48 ∷ 48 ∷ 10 ∷ [])  -- 00
    ∷ (48 ∷ 52 ∷ 10 ∷ [])  -- 04
    ∷ (9 ∷ 52 ∷ 10 ∷ [])  -- nothing before the tab
    ∷ (52 ∷ 13 ∷ 10 ∷ [])  -- 4, CR LF
    ∷ (45 ∷ 52 ∷ 10 ∷ [])  -- -4
    ∷ (48 ∷ 120 ∷ 121 ∷ 10 ∷ [])  -- 0xy
    ∷ (48 ∷ 57 ∷ 57 ∷ 57 ∷ 57 ∷ 57 ∷ 57 ∷ 57 ∷ 57 ∷ 57 ∷ 57 ∷ 57 ∷ 57 ∷ 10 ∷ [])  -- 13 digits, the first of them 0
    ∷ (57 ∷ 57 ∷ 57 ∷ 57 ∷ 57 ∷ 57 ∷ 57 ∷ 57 ∷ 57 ∷ 57 ∷ 57 ∷ 57 ∷ 57 ∷ 32 ∷ 10 ∷ [])  -- 13 digits and a blank
    ∷ []

pub readings : map (λ text. field_at text 0) texts ≡ Number 0 1 ∷ Number 40 2 ∷ Number 40 2 ∷ Number 999999999999 12
    ∷ TooLong ∷ LeadingZero ∷ LeadingZero ∷ Empty ∷ Strange 1 ∷ Strange 0 ∷ Strange 1 ∷ LeadingZero ∷ Strange 13 ∷ []
unfolding field_at read_as fault_in leading field_of is_number all_digits value_of
readings = refl

pub exposure_written : digits_of 2733980 ≡ 50 ∷ 55 ∷ 51 ∷ 51 ∷ 57 ∷ 56 ∷ 48 ∷ []
unfolding digits_of digits_within
exposure_written = refl
