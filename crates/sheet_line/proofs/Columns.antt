-- The first bad field from the left, by what the looks at the fields gave; and that a column is small. Assumes nothing.
use Prim.Native.Nat.{ℕ, ◌≤◌, ◌<◌}
use mathlib.Core.Path.{◌≡◌, refl, sym, ap, ◌∙◌}
use mathlib.Core.Bool.{true, ◌&&◌}
use mathlib.Core.List.{List}
use native.Mathlib.Omega.{arith}
use lib.Dec.{eqb, leb}
use lib.ListN.{length}
use borrow.Author.Tests.{eq-eqb, ne_eqb, leb-true}
use Rattle.truth.proofs.Cases.{by_test}
use Rattle.truth.proofs.Laws.{and-true}
use Rattle.sheet_line.specs.declared.Field.{Field}
use Rattle.sheet_line.specs.declared.Field.TheVariants.{Number, Empty, Strange, LeadingZero, TooLong}
use Rattle.sheet_line.specs.Field.{field_at}
use Rattle.sheet_line.proofs.Back.{read_only}
use Rattle.sheet_line.proofs.Faults.{strange_place, strange_within}
use Rattle.sheet_line.specs.Form.{longest_sheet_line, begins, ends_line, is_sheet_line, standard_start}
use Rattle.sheet_line.specs.Column.{next_field, column_in, first_of, is_parted, most_number, record_column, record_fields, standard_column, standard_fields}

pub line_short : (line : List ℕ) → is_sheet_line line ≡ true → length line ≤ longest_sheet_line
line_short line e = leb-true (length line) longest_sheet_line (and-true (leb (length line) longest_sheet_line) (ends_line line) e).0

module _ (due : ℕ) (line : List ℕ) {number : ℕ} (first : number ≡ column_in due due 0 (field_at line 0)) where
  pub by_number : ¬ (number ≡ 0) → number ≡ record_fields due line
  unfolding record_fields
  by_number bad = rw (ne_eqb (column_in due due 0 (field_at line 0)) 0 (λ z. bad (first ∙ z))) first

  module _ (good : number ≡ 0) {next flag : ℕ} (place : next ≡ next_field (field_at line 0)) (second : flag ≡ column_in 0 1 next (field_at line next)) where
    abbrev Start : ℕ
    Start = next_field (field_at line 0)

    moved : flag ≡ column_in 0 1 Start (field_at line Start)
    moved = rw place at second

    none : column_in due due 0 (field_at line 0) ≡ 0
    none = sym first ∙ good

    pub by_flag : ¬ (flag ≡ 0) → flag ≡ record_fields due line
    unfolding record_fields
    by_flag bad = rw (eq-eqb (column_in due due 0 (field_at line 0)) 0 none, ne_eqb (column_in 0 1 Start (field_at line Start)) 0 (λ z. bad (moved ∙ z))) moved

    pub by_exposure : flag ≡ 0 → {last exposure : ℕ} → last ≡ next_field (field_at line next) → exposure ≡ column_in 0 most_number last (field_at line last) → exposure ≡ record_fields due line
    unfolding record_fields
    by_exposure fine there third =
        rw (eq-eqb (column_in due due 0 (field_at line 0)) 0 none, eq-eqb (column_in 0 1 Start (field_at line Start)) 0 (sym moved ∙ fine)) (rw (there, place) at third)

-- ---- a column is small, as a line is short
module _ (line : List ℕ) (short : length line ≤ longest_sheet_line) where
  column_few : (low high at : ℕ) (f : Field) → field_at line at ≡ f → at ≤ 100 → column_in low high at f < 1000
  column_few low high at (Number v next) e h = by_test (leb low v && leb v high) (λ t. rw t (omega arith)) (λ t. rw t (omega arith))
  column_few low high at (Strange place) e h = omega (arith, strange_within line at, ap strange_place e)
  column_few low high at Empty e h = omega arith
  column_few low high at LeadingZero e h = omega arith
  column_few low high at TooLong e h = omega arith

  after_few : (at : ℕ) (f : Field) → field_at line at ≡ f → next_field f ≤ 100
  after_few at (Number v next) e = omega (arith, (read_only line at v next e).within)
  after_few at (Strange place) e = omega arith
  after_few at Empty e = omega arith
  after_few at LeadingZero e = omega arith
  after_few at TooLong e = omega arith

  look_few : (low high at : ℕ) → at ≤ 100 → column_in low high at (field_at line at) < 1000
  look_few low high at h = column_few low high at (field_at line at) refl h

  next_few : (at : ℕ) → next_field (field_at line at) ≤ 100
  next_few at = after_few at (field_at line at) refl

first_few : (a b : ℕ) → a < 1000 → b < 1000 → first_of a b < 1000
first_few a b h k = by_test (eqb a 0) (λ e. rw e k) (λ e. rw e h)

pub standard_few : (line : List ℕ) → standard_column line < 1000
unfolding standard_column standard_fields
standard_few line =
    by_test (is_sheet_line line)
    (λ l. by_test (is_parted 1 line)
    (λ p. rw (l, p) (by_test (begins standard_start line) (λ w. rw w (look_few line (line_short line l) 0 most_number 9 (omega arith))) (λ w. rw w (omega arith))))
    (λ p. rw (l, p) (omega arith)))
    (λ l. rw l (omega arith))

pub record_few : (due : ℕ) (line : List ℕ) → record_column due line < 1000
unfolding record_column record_fields
record_few due line =
    by_test (is_sheet_line line)
    (λ l. by_test (is_parted 2 line)
    (λ p.
    let short = line_short line l in
    let second = next_few line short 0 in
    rw (l, p)
    (first_few _ _ (look_few line short due due 0 (omega arith))
    (first_few _ _ (look_few line short 0 1 (next_field (field_at line 0)) second) (look_few line short 0 most_number
    (next_field (field_at line (next_field (field_at line 0)))) (next_few line short (next_field (field_at line 0)))))))
    (λ p. rw (l, p) (omega arith)))
    (λ l. rw l (omega arith))
