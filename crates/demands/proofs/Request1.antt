-- Document 02, [1]: comma files. Reading and writing are decided by their tests in 02's order, each over all lines or
-- samples (demand 1), and a refusal leaves what was lent as it stood; what was written reads back, and what a text
-- reads as, written and read again, is the same. A file that comes in pieces ends as it reads whole. Assumes nothing.
use mathlib.Core.Path.{◌≡◌, refl}
use mathlib.Core.Bool.{not, true, false}
use mathlib.Core.List.{List, [], ◌∷◌, ◌++◌, map}
use Prim.Native.Nat.{ℕ, ◌+◌, ◌^◌, ◌≤◌, ◌<◌}
use native.Mathlib.Omega.{arith}
use lib.Dec.{leb, ltb}
use lib.IntN.{ℤ, pos, negsuc}
use lib.ListN.{length, drop, take}
use lib.Seq.{take-append_seam}
use borrow.Author.Tests.{leb-false, ltb-false}
use Rattle.truth.proofs.Laws.{impossible}
use Rattle.truth.proofs.Cases.{by_test}
use Rattle.refusal.specs.declared.Refusal.{Refusal}
use Rattle.refusal.specs.declared.Refusal.TheVariants.{CommaLine, Item, Room, Sample, TooLong}
use Rattle.sample_items.specs.Limits.{step_in_range}
use Rattle.sample_range.specs.Range.{first_bad}
use Rattle.sample_range.proofs.Bad.{bad_within}
use Rattle.decimal.specs.Decimal.{all_digits, is_number, longest, value_of}
use Rattle.decimal.specs.Leading.{leading}
use Rattle.decimal.specs.Lines.{lines_of}
use Rattle.comma_line.specs.Line.{is_comma_line, right}
use Rattle.comma_line.specs.Text.{first_wrong, samples_of, text_of}
use Rattle.degrees.specs.Degrees.{filled, is_size, size, size_length}
use Rattle.comma_read.specs.Answers.{filled_by, reading_comma, reading_lines}
use Rattle.comma_stream.specs.Follow.{may_begin}
use Rattle.text.specs.Pieces.{joined}
use Rattle.comma_stream.specs.Pieces.{nothing, passing, ending}
use Rattle.comma_stream.proofs.Pieces.{followed_whole, followed_samples}
use Rattle.comma_stream.proofs.Begun.{wrong_stays}
use Rattle.text.specs.Write.{laid_by}
use Rattle.comma_write.specs.Answers.{last_time, writing_comma}
use Rattle.comma_write.proofs.Back.{read_again, read_back}
use Rattle.demands.proofs.Demand1.{Decides, Test, ◌gives◌, decide, decided}
use Rattle.std.specs.Prelude.{Ok, Err}
use Rattle.truth.proofs.Answers.{same_err}

-- ---- the statement
-- reading 1, 10 with the line's number, 2 with the sample's place, 7 with the number of samples
abbrev pub read_tests : ℕ → List (List ℕ) → ℕ → List Test
read_tests D lines places =
    not (step_in_range D) gives Item 1
    ∷ (ltb (first_wrong D 0 lines) (length lines) gives CommaLine (first_wrong D 0 lines + 1)
    ∷ (ltb (first_bad (samples_of lines)) (length lines) gives Sample (first_bad (samples_of lines))
    ∷ (ltb places (length lines) gives Room (length lines)
    ∷ [])))

-- writing 1, 2, 3 where the last time needs more than 12 digits, 7 with the bytes needed
abbrev pub write_tests : ℕ → List ℤ → ℕ → List Test
write_tests D xs room =
    not (step_in_range D) gives Item 1
    ∷ (ltb (first_bad xs) (length xs) gives Sample (first_bad xs)
    ∷ (leb (10 ^ longest) (last_time D xs) gives TooLong
    ∷ (ltb room (length (text_of D xs)) gives Room (length (text_of D xs))
    ∷ [])))

-- every form of a number, at the step 500:
-- 0,-41.5, 500,41.5, 1000,0.05, 1500,7, 2000,-0, 2500,-0.000
-- 3000,12.345, 3500,1000, 4000,-1000.0, 4500,0.5, 5000,-0.001, 5500,9.99
unfoldable pub every_form : List ℕ
every_form =
    48 ∷ 44 ∷ 45 ∷ 52 ∷ 49 ∷ 46 ∷ 53 ∷ 10 ∷
    53 ∷ 48 ∷ 48 ∷ 44 ∷ 52 ∷ 49 ∷ 46 ∷ 53 ∷ 10 ∷
    49 ∷ 48 ∷ 48 ∷ 48 ∷ 44 ∷ 48 ∷ 46 ∷ 48 ∷ 53 ∷ 10 ∷
    49 ∷ 53 ∷ 48 ∷ 48 ∷ 44 ∷ 55 ∷ 10 ∷
    50 ∷ 48 ∷ 48 ∷ 48 ∷ 44 ∷ 45 ∷ 48 ∷ 10 ∷
    50 ∷ 53 ∷ 48 ∷ 48 ∷ 44 ∷ 45 ∷ 48 ∷ 46 ∷ 48 ∷ 48 ∷ 48 ∷ 10 ∷
    51 ∷ 48 ∷ 48 ∷ 48 ∷ 44 ∷ 49 ∷ 50 ∷ 46 ∷ 51 ∷ 52 ∷ 53 ∷ 10 ∷
    51 ∷ 53 ∷ 48 ∷ 48 ∷ 44 ∷ 49 ∷ 48 ∷ 48 ∷ 48 ∷ 10 ∷
    52 ∷ 48 ∷ 48 ∷ 48 ∷ 44 ∷ 45 ∷ 49 ∷ 48 ∷ 48 ∷ 48 ∷ 46 ∷ 48 ∷ 10 ∷
    52 ∷ 53 ∷ 48 ∷ 48 ∷ 44 ∷ 48 ∷ 46 ∷ 53 ∷ 10 ∷
    53 ∷ 48 ∷ 48 ∷ 48 ∷ 44 ∷ 45 ∷ 48 ∷ 46 ∷ 48 ∷ 48 ∷ 49 ∷ 10 ∷
    53 ∷ 53 ∷ 48 ∷ 48 ∷ 44 ∷ 57 ∷ 46 ∷ 57 ∷ 57 ∷ 10 ∷ []

-- no form, each a text of one line:
-- 0,+1  0,1.  0,1.2345  0,.5  0,01  0,1.5.5  0, 1 with a blank  0,--1  0,1e2  0,1 with CR  0;1  00,1
-- 1,1 (a wrong time)  ,1 and 0, (a field empty)  0,1234567890123 (13 digits)  an empty line  0,1 without LF
unfoldable pub no_form : List (List ℕ)
no_form =
    (48 ∷ 44 ∷ 43 ∷ 49 ∷ 10 ∷ [])
    ∷ (48 ∷ 44 ∷ 49 ∷ 46 ∷ 10 ∷ [])
    ∷ (48 ∷ 44 ∷ 49 ∷ 46 ∷ 50 ∷ 51 ∷ 52 ∷ 53 ∷ 10 ∷ [])
    ∷ (48 ∷ 44 ∷ 46 ∷ 53 ∷ 10 ∷ [])
    ∷ (48 ∷ 44 ∷ 48 ∷ 49 ∷ 10 ∷ [])
    ∷ (48 ∷ 44 ∷ 49 ∷ 46 ∷ 53 ∷ 46 ∷ 53 ∷ 10 ∷ [])
    ∷ (48 ∷ 44 ∷ 32 ∷ 49 ∷ 10 ∷ [])
    ∷ (48 ∷ 44 ∷ 45 ∷ 45 ∷ 49 ∷ 10 ∷ [])
    ∷ (48 ∷ 44 ∷ 49 ∷ 101 ∷ 50 ∷ 10 ∷ [])
    ∷ (48 ∷ 44 ∷ 49 ∷ 13 ∷ 10 ∷ [])
    ∷ (48 ∷ 59 ∷ 49 ∷ 10 ∷ [])
    ∷ (48 ∷ 48 ∷ 44 ∷ 49 ∷ 10 ∷ [])
    ∷ (49 ∷ 44 ∷ 49 ∷ 10 ∷ [])
    ∷ (44 ∷ 49 ∷ 10 ∷ [])
    ∷ (48 ∷ 44 ∷ 10 ∷ [])
    ∷ (48 ∷ 44 ∷ 49 ∷ 50 ∷ 51 ∷ 52 ∷ 53 ∷ 54 ∷ 55 ∷ 56 ∷ 57 ∷ 48 ∷ 49 ∷ 50 ∷ 51 ∷ 10 ∷ [])
    ∷ (10 ∷ [])
    ∷ (48 ∷ 44 ∷ 49 ∷ [])
    ∷ []

pub record Request1 : Type 0 where
  pub read : (D : ℕ) (text : List ℕ) (places : ℕ) → Decides Err (read_tests D (lines_of text) places) (Ok (length (lines_of text))) (reading_comma D text places)
  pub write : (D : ℕ) (xs : List ℤ) (out : List ℕ) → Decides Err (write_tests D xs (length out)) (Ok (length (text_of D xs))) (writing_comma D xs out)
  -- a refusal leaves what was lent as it stood
  pub samples_kept : (r : Refusal) (xs slice : List ℤ) → filled_by (Err r) xs slice ≡ slice
  pub bytes_kept : (r : Refusal) (text out : List ℕ) → laid_by (Err r) text out ≡ out
  -- each form reads as its sample, and what has no form is refused by 10 on its line
  pub forms : (reading_comma 500 every_form 12 ≡ Ok 12)
      × (samples_of (lines_of every_form)
      ≡ negsuc 41499 ∷ pos 41500 ∷ pos 50 ∷ pos 7000 ∷ pos 0 ∷ pos 0
      ∷ pos 12345 ∷ pos 1000000 ∷ negsuc 999999 ∷ pos 500 ∷ negsuc 0 ∷ pos 9990 ∷ [])
  pub formless : map (λ (text : List ℕ). reading_comma 500 text 1) no_form
      ≡ map (λ (text : List ℕ). Err (CommaLine 1)) no_form
  -- reading what was written gives the samples back
  pub back : (D : ℕ) (xs : List ℤ) (out : List ℕ) (n places : ℕ) → writing_comma D xs out ≡ Ok n → length xs ≤ places
      → let text = take n (laid_by (Ok n) (text_of D xs) out) in
      (reading_comma D text places ≡ Ok (length xs)) × (samples_of (lines_of text) ≡ xs)
  -- what a text reads as, written and read again, is the same
  pub again : (D : ℕ) (text : List ℕ) (places n : ℕ) → reading_comma D text places ≡ Ok n
      → (reading_comma D (text_of D (samples_of (lines_of text))) places ≡ Ok n) × (samples_of (lines_of (text_of D (samples_of (lines_of text)))) ≡ samples_of (lines_of text))
  -- in whatever pieces a file comes, it ends as it reads whole, with the same samples; and a line that is told to be
  -- wrong before its end is wrong with anything after it
  pub pieces : (D places : ℕ) (pieces : List (List ℕ)) → step_in_range D ≡ true → length (lines_of (joined pieces)) ≤ places
      → ending (passing (nothing D) pieces) ≡ reading_comma D (joined pieces) places
  pub same_samples : (D : ℕ) (pieces : List (List ℕ)) → let p = passing (nothing D) pieces in p.left ≡ [] → p.samples ≡ samples_of (lines_of (joined pieces))
  pub early : (time : ℕ) (text more : List ℕ) → may_begin text ≡ false → right time text ≡ false → right time (text ++ more) ≡ false

-- ---- the proof
-- what was written keeps the tests, and is the text
pub record Wrote (D : ℕ) (xs : List ℤ) (n : ℕ) : Type 0 where
  pub step : step_in_range D ≡ true
  pub good : first_bad xs ≡ length xs
  pub short : last_time D xs < 10 ^ longest
  pub bytes : n ≡ length (text_of D xs)

wrote : (D : ℕ) (xs : List ℤ) (out : List ℕ) (n : ℕ) → writing_comma D xs out ≡ Ok n → Wrote D xs n
unfolding writing_comma
wrote D xs out n e =
    by_test (step_in_range D)
    (λ a.
    by_test (ltb (first_bad xs) (length xs))
    (λ b. impossible (cc (rw (a, b) at e)))
    (λ b.
    by_test (leb (10 ^ longest) (last_time D xs))
    (λ c. impossible (cc (rw (a, b, c) at e)))
    (λ c.
    by_test (ltb (length out) (length (text_of D xs)))
    (λ d. impossible (cc (rw (a, b, c, d) at e)))
    (λ d. record {
      step = a;
      good = omega (arith, bad_within xs, ltb-false (first_bad xs) (length xs) b);
      short = leb-false (10 ^ longest) (last_time D xs) c;
      bytes = cc (rw (a, b, c, d) at e);
    }))))
    (λ a. impossible (cc (rw a at e)))

written_back : (D : ℕ) (xs : List ℤ) (out : List ℕ) (n places : ℕ) → writing_comma D xs out ≡ Ok n → length xs ≤ places
    → let text = take n (laid_by (Ok n) (text_of D xs) out) in
    (reading_comma D text places ≡ Ok (length xs)) × (samples_of (lines_of text) ≡ xs)
unfolding laid_by
written_back D xs out n places e room =
    let w = wrote D xs out n e in
    let front : take n (text_of D xs ++ drop n out) ≡ text_of D xs = rw w.bytes (take-append_seam (text_of D xs) _) in
    rw front (read_back D xs places w.step w.good w.short room)

computed_forms : (reading_comma 500 every_form 12 ≡ Ok 12)
    × (samples_of (lines_of every_form)
    ≡ negsuc 41499 ∷ pos 41500 ∷ pos 50 ∷ pos 7000 ∷ pos 0 ∷ pos 0
    ∷ pos 12345 ∷ pos 1000000 ∷ negsuc 999999 ∷ pos 500 ∷ negsuc 0 ∷ pos 9990 ∷ [])
unfolding every_form reading_lines lines_of first_wrong right is_comma_line is_number all_digits leading value_of is_size size_length filled size
    first_bad
computed_forms = (refl, refl)

computed_formless : map (λ (text : List ℕ). reading_comma 500 text 1) no_form ≡ map (λ (text : List ℕ). Err (CommaLine 1)) no_form
unfolding no_form reading_lines lines_of first_wrong right is_comma_line is_number all_digits leading value_of is_size size_length filled size
    first_bad
computed_formless = refl

pub request_1 : Request1
unfolding decide reading_lines writing_comma filled_by laid_by
request_1 =
    record {
      read = λ D text places. decided Err (Ok (length (lines_of text))) (λ r s. same_err) (λ r e. impossible (cc)) (read_tests D (lines_of text) places) (reading_comma D text places) refl;
      write = λ D xs out. decided Err (Ok (length (text_of D xs))) (λ r s. same_err) (λ r e. impossible (cc)) (write_tests D xs (length out)) (writing_comma D xs out) refl;
      samples_kept = λ r xs slice. refl;
      bytes_kept = λ r text out. refl;
      forms = computed_forms;
      formless = computed_formless;
      back = written_back;
      again = read_again;
      pieces = followed_whole;
      same_samples = followed_samples;
      early = wrong_stays;
    }
