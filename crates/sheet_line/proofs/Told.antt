-- Document 02, request 10: each of the five cases of a field comes exactly where it is told, and every field is one of
-- them. Assumes nothing.
use mathlib.Core.Path.{◌≡◌, refl, ap}
use mathlib.Core.Bool.{true, false, and-false}
use mathlib.Core.List.{List, [], ◌∷◌, ◌++◌}
use Prim.Native.Nat.{ℕ, ◌≤◌}
use native.Mathlib.Omega.{arith}
use lib.Dec.{eqb, leb, ltb}
use lib.ListN.{length, get_or}
use borrow.Author.Tests.{eqb-true, eqb-false, ne_eqb, le-leb, lt-leb, lt-ltb}
use Rattle.truth.proofs.Cases.{by_order, by_test}
use Rattle.truth.proofs.Laws.{true≢false}
use Rattle.decimal.specs.Decimal.{all_digits, is_digit, is_number, zero_byte}
use Rattle.decimal.proofs.Text.{all_append}
use Rattle.decimal.proofs.Leading.{leading_is}
use Rattle.sheet_line.specs.Field.{fault_in, read_as, strange_in}
use Rattle.sheet_line.specs.Told.{FieldIs, FirstStrange, empty, leading_zero, number, strange, too_long}
use Rattle.sheet_line.specs.declared.Field.{Field}
use Rattle.sheet_line.specs.declared.Field.TheVariants.{Number, Empty, Strange, LeadingZero, TooLong}

strange_parts : (field : List ℕ) → all_digits field ≡ false → (before : List ℕ) × FirstStrange field before
unfolding all_digits
strange_parts [] e = absurd (true≢false e)
strange_parts (b ∷ field) e =
    by_test (is_digit b)
    (λ d.
    let (before, f) = strange_parts field (rw d at e) in
    (b ∷ before, record { byte = f.byte; after = f.after; parts = ap (λ (l : List ℕ). b ∷ l) f.parts; digits = rw (d, f.digits); strange = f.strange }))
    (λ d. ([], record { byte = b; after = field; parts = refl; digits = refl; strange = d }))

strange_place : (before : List ℕ) (b : ℕ) (after : List ℕ) → all_digits before ≡ true → is_digit b ≡ false
    → strange_in (before ++ (b ∷ after)) ≡ length before
strange_place before b after ds d = ap length (leading_is before (b ∷ after) ds d)

strange_not_all : (before : List ℕ) (b : ℕ) (after : List ℕ) → is_digit b ≡ false
    → all_digits (before ++ (b ∷ after)) ≡ false
unfolding all_digits
strange_not_all before b after d = rw (all_append before (b ∷ after), d) (and-false (all_digits before))

not_empty : (before : List ℕ) (b : ℕ) (after : List ℕ) → eqb (length (before ++ (b ∷ after))) 0 ≡ false
not_empty [] b after = ne_eqb (length (b ∷ after)) 0 (λ e. omega arith)
not_empty (c ∷ before) b after = ne_eqb (length (c ∷ (before ++ (b ∷ after)))) 0 (λ e. omega arith)

number_from : (b : ℕ) (field : List ℕ) → all_digits (b ∷ field) ≡ true → length (b ∷ field) ≤ 12 → eqb b zero_byte ≡ false
    → is_number (b ∷ field) ≡ true
unfolding is_number
number_from b field d l z = rw (d, le-leb 1 (length (b ∷ field)) (omega arith), le-leb (length (b ∷ field)) 12 l, z, and-false (ltb 1 (length (b ∷ field))))

zero_number : is_number (zero_byte ∷ []) ≡ true
unfolding is_number all_digits
zero_number = refl

-- each case is told where it holds
pub is_told : (field : List ℕ) (at : ℕ) {f : Field} → FieldIs field at f → read_as field at ≡ f
unfolding read_as fault_in is_number all_digits
is_told field at (number n) = rw n
is_told field at (empty e) = rw e
is_told field at (strange before s) =
    rw (s.parts, strange_not_all before s.byte s.after s.strange, not_empty before s.byte s.after, strange_place before s.byte s.after s.digits s.strange)
is_told field at (leading_zero z) = go z.next z.more z.parts z.digits
  where
    go : (next : ℕ) (more : List ℕ) → field ≡ zero_byte ∷ (next ∷ more) → all_digits field ≡ true
        → read_as field at ≡ LeadingZero
    go next more p d =
        rw (
          d,
          p,
          lt-ltb 1 (length (zero_byte ∷ (next ∷ more))) (omega arith),
          ne_eqb (length (zero_byte ∷ (next ∷ more))) 0 (λ e. omega arith),
          and-false (leb (length (zero_byte ∷ (next ∷ more))) 12),
          and-false (leb 1 (length (zero_byte ∷ (next ∷ more)))),
        )
is_told field at (too_long t) =
    rw (
      t.digits,
      lt-leb (length field) 12 t.many,
      and-false (leb 1 (length field)),
      ne_eqb (length field) 0 (λ e. omega (arith, t.many)),
      ne_eqb (get_or field 0 0) zero_byte t.first,
      and-false (ltb 1 (length field)),
    )

-- every field is one of them
pub field_told : (field : List ℕ) (at : ℕ) → (f : Field) × FieldIs field at f
field_told [] at = (Empty, empty refl)
field_told (b ∷ field) at =
    by_test (all_digits (b ∷ field))
    (λ d.
    by_test (eqb b zero_byte)
    (λ z. zero field (eqb-true b zero_byte z) d)
    (λ z. by_order 12 (length (b ∷ field)) (λ l. (TooLong, too_long (record { digits = d; first = eqb-false b zero_byte z; many = l }))) (λ l. (Number _ _, number (number_from b field d l z)))))
    (λ d. let (before, s) = strange_parts (b ∷ field) d in (Strange _, strange before s))
  where
    zero : (rest : List ℕ) → b ≡ zero_byte → all_digits (b ∷ rest) ≡ true → (f : Field) × FieldIs (b ∷ rest) at f
    zero [] z d = (Number _ _, number (rw z zero_number))
    zero (c ∷ more) z d = (LeadingZero, leading_zero (record { next = c; more = more; parts = ap (λ (x : ℕ). x ∷ (c ∷ more)) z; digits = d }))

-- and is told to be it
pub told_is : (field : List ℕ) (at : ℕ) → FieldIs field at (read_as field at)
told_is field at = let (f, t) = field_told field at in rw (is_told field at t) t
