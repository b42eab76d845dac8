-- Reading what was written gives the samples back (`read_back`); and what a text reads as, written and read again, is
-- the same (`read_again`). Assumes nothing.
use mathlib.Core.Path.{◌≡◌, refl, sym, ap, subst, ◌∙◌}
use mathlib.Core.Bool.{Bool, true, false}
use mathlib.Core.List.{List, [], ◌∷◌, ◌++◌, append_assoc}
use Prim.Native.Nat.{ℕ, zero, suc, ◌+◌, ◌-◌, ◌*◌, ◌/◌, ◌%◌, ◌^◌, ◌≤◌, ◌<◌}
use native.Mathlib.Nat.{suc-mul, mul-le-mul_right}
use native.Mathlib.Omega.{arith}
use lib.IntN.{ℤ, pos, negsuc, nat_abs}
use borrow.Author.Tests.{leb-true, le-ltb}
use lib.ListN.{length}
use Rattle.truth.proofs.Cases.{by_test}
use Rattle.sample_items.specs.Limits.{step_in_range}
use Rattle.sample_range.specs.Range.{first_bad, sample_in_range}
use Rattle.decimal.specs.Decimal.{longest, all_digits, value_of, digits_of}
use Rattle.decimal.specs.Field.{line_feed}
use Rattle.decimal.specs.Lines.{lines_of}
use Rattle.decimal.proofs.Lines.{lines_front}
use Rattle.decimal.proofs.Text.{value_digits, number_digits, digit_byte}
use Rattle.degrees.specs.Degrees.{point, filled, sign, signed, sample_of, three_digits, degrees_text}
use Rattle.degrees.proofs.Parts.{IsSize, pointed_by, sign_bytes}
use Rattle.comma_line.specs.Line.{roll, right, sample_text}
use Rattle.comma_line.specs.Text.{first_wrong, samples_of, text_from, text_of}
use Rattle.comma_read.specs.Answers.{reading_lines, reading_comma}
use Rattle.comma_write.specs.Answers.{last_time}
use Rattle.comma_read.proofs.Shape.{Front, LineFacts, front_line}
use Rattle.comma_read.proofs.Lines.{turn, front_none}
use Rattle.comma_read.proofs.Answered.{samples_number, samples_read}
use Rattle.std.specs.Prelude.{Ok}

-- ---- the degrees of a sample, as they are written
is_below : ℤ → Bool
is_below (pos n) = false
is_below (negsuc n) = true

sign-is : (x : ℤ) → sign x ≡ sign_bytes (is_below x)
unfolding is_below
sign-is (pos n) = refl
sign-is (negsuc n) = refl

signed_is : (x : ℤ) → signed (is_below x) (nat_abs x) ≡ x
unfolding is_below
signed_is (pos n) = refl
signed_is (negsuc n) = refl

-- three digits are a number of thousandths below one degree
three_value : (n : ℕ) → n / 100 % 10 * 100 + (n / 10 % 10 * 10 + n % 10) ≡ n % 1000
three_value n =
    let hundreds : n / 100 ≡ n / 10 / 10 = omega arith in
    let thousands : n / 1000 ≡ n / 10 / 10 / 10 = omega arith in
    let rest : n % 1000 + 1000 * (n / 1000) ≡ n = omega arith in
    rw hundreds (omega (arith, thousands, rest))

three_digits_lem : (n : ℕ) → all_digits (three_digits n) ≡ true
unfolding all_digits
three_digits_lem n = rw (digit_byte (n / 100 % 10) (omega arith), digit_byte (n / 10 % 10) (omega arith), digit_byte (n % 10) (omega arith))

three_filled : (n : ℕ) → value_of (filled (three_digits n)) ≡ n % 1000
unfolding value_of filled
three_filled n = let v = three_value n in omega (arith, v)

size_written : (n : ℕ) → n < 10 ^ longest → IsSize (digits_of (n / 1000) ++ (point ∷ three_digits n)) n
size_written n h =
    let whole = value_digits (n / 1000) in
    let value : value_of (digits_of (n / 1000)) * 1000 + value_of (filled (three_digits n)) ≡ n = omega (arith, three_filled n) in
    subst (IsSize (digits_of (n / 1000) ++ (point ∷ three_digits n))) value
    (pointed_by (digits_of (n / 1000)) (three_digits n) (number_digits (n / 1000) (omega arith)) (three_digits_lem n) (omega arith) (omega arith))

-- ---- a line, as it is written
abbrev Bytes : ℤ → List ℕ
Bytes x = digits_of (nat_abs x / 1000) ++ (point ∷ three_digits (nat_abs x))

abbrev Written : ℕ → ℤ → List ℕ
Written time x = Front (digits_of time) (is_below x) (Bytes x)

line-is : (time : ℕ) (x : ℤ) → sample_text time x ≡ Written time x ++ (line_feed ∷ [])
unfolding sample_text degrees_text
line-is time x = rw (sign-is, append_assoc (digits_of time))

small_sample : (x : ℤ) → sample_in_range x ≡ true → nat_abs x < 10 ^ longest
small_sample x e = omega (arith, leb-true (nat_abs x) 1000000 e)

module _ (time : ℕ) (x : ℤ) (due : time < 10 ^ longest) (in_range : sample_in_range x ≡ true) where
  abbrev Size : IsSize (Bytes x) (nat_abs x)
  Size = size_written (nat_abs x) (small_sample x in_range)

  facts : LineFacts (value_of (digits_of time)) (Written time x ++ (line_feed ∷ [])) (is_below x) (nat_abs x) (length (Written time x) + 1)
  facts = front_line (digits_of time) (number_digits time due) (is_below x) Size []

  line_right : right time (sample_text time x) ≡ true
  line_right = rw line-is (subst (λ t. right t (Written time x ++ (line_feed ∷ [])) ≡ true) (value_digits time) facts.is)

  line_sample : sample_of (roll (sample_text time x)) ≡ x
  line_sample = rw line-is (rw (facts.value, facts.sign) (signed_is x))

  first_line : (rest : List ℕ) → lines_of (sample_text time x ++ rest) ≡ sample_text time x ∷ lines_of rest
  first_line rest =
      rw (line-is, append_assoc (Written time x))
      (lines_front (Written time x) rest (front_none (digits_of time) (number_digits time due) (is_below x) Size))

-- ---- all lines
bad_first : (x : ℤ) (xs : List ℤ) → first_bad (x ∷ xs) ≡ length (x ∷ xs) → (sample_in_range x ≡ true) × (first_bad xs ≡ length xs)
unfolding first_bad
bad_first x xs e = by_test (sample_in_range x) (λ t. (t, omega (arith, rw t at e))) (λ t. absurd (omega (arith, rw t at e)))

-- n times from this one on have at most 12 digits
abbrev Due : ℕ → ℕ → ℕ → Type 0
Due D time n = (k : ℕ) → k < n → time + k * D < 10 ^ longest

module _ (D : ℕ) where
  -- what the lines of a text that was written are
  record Read (time : ℕ) (xs : List ℤ) : Type 0 where
    count : length (lines_of (text_from D time xs)) ≡ length xs
    all : first_wrong D time (lines_of (text_from D time xs)) ≡ length xs
    samples : samples_of (lines_of (text_from D time xs)) ≡ xs

  read : (time : ℕ) (xs : List ℤ) → first_bad xs ≡ length xs → Due D time (length xs) → Read time xs
  unfolding text_from lines_of first_wrong
  read time [] good due = record { count = refl; all = refl; samples = refl }
  read time (x ∷ xs) good due =
      let (here, rest) = bad_first x xs good in
      let now : time < 10 ^ longest = omega (arith, due 0 (omega arith)) in
      let r = read (time + D) xs rest (λ k h. omega (arith, due (suc k) (omega arith), suc-mul k D)) in
      let lines = first_line time x now here (text_from D (time + D) xs) in
      record {
        count = ap length lines ∙ ap suc r.count;
        all = ap (first_wrong D time) lines ∙ rw (line_right time x now here) (ap suc r.all);
        samples = ap samples_of lines ∙ rw (line_sample time x now here, r.samples);
      }

  -- what lines that are all right say of their times
  lines_due : (time : ℕ) (lines : List (List ℕ)) → first_wrong D time lines ≡ length lines → Due D time (length lines)
  unfolding first_wrong
  lines_due time [] e = λ k h. absurd (omega arith)
  lines_due time (line ∷ lines) e =
      by_test (right time line)
      (λ r. cases (turn time line r).small (lines_due (time + D) lines (omega (arith, rw r at e))))
      (λ r. absurd (omega (arith, rw r at e)))
    where
      cases : time < 10 ^ longest → Due D (time + D) (length lines) → Due D time (length (line ∷ lines))
      cases now later zero h = omega arith
      cases now later (suc k) h = omega (arith, later k (omega arith), suc-mul k D)

last_due : (D n : ℕ) → (n - 1) * D < 10 ^ longest → Due D 0 n
last_due D n h k l = omega (arith, mul-le-mul_right {m = k} {n = n - 1} D (omega arith))

back : (D : ℕ) (xs : List ℤ) (places : ℕ) → step_in_range D ≡ true → first_bad xs ≡ length xs → Due D 0 (length xs) → length xs ≤ places
    → (reading_comma D (text_of D xs) places ≡ Ok (length xs)) × (samples_of (lines_of (text_of D xs)) ≡ xs)
unfolding reading_lines
back D xs places step good due room =
    let r = read D 0 xs good due in
    (rw (step, r.count, r.all, r.samples, good, le-ltb (length xs) (length xs) (omega arith), le-ltb places (length xs) room), r.samples)

-- READING WHAT WAS WRITTEN gives the samples back, where there is room for them
pub read_back : (D : ℕ) (xs : List ℤ) (places : ℕ) → step_in_range D ≡ true → first_bad xs ≡ length xs → last_time D xs < 10 ^ longest → length xs ≤ places
    → (reading_comma D (text_of D xs) places ≡ Ok (length xs)) × (samples_of (lines_of (text_of D xs)) ≡ xs)
read_back D xs places step good due room = back D xs places step good (last_due D (length xs) due) room

-- WHAT A TEXT READS AS, WRITTEN AND READ AGAIN, is the same
pub read_again : (D : ℕ) (text : List ℕ) (places n : ℕ) → reading_comma D text places ≡ Ok n
    → (reading_comma D (text_of D (samples_of (lines_of text))) places ≡ Ok n) × (samples_of (lines_of (text_of D (samples_of (lines_of text)))) ≡ samples_of (lines_of text))
read_again D text places n e =
    let r = samples_read D (lines_of text) places n e in
    let few = samples_number (lines_of text) in
    let (answer, samples) = back D (samples_of (lines_of text)) places r.step (r.good ∙ sym few) (rw few (lines_due D 0 (lines_of text) r.all)) (rw few r.room) in
    (answer ∙ ap Ok (few ∙ r.count), samples)
