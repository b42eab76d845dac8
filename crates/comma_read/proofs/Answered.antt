-- What a reading answers, by what the first pass over its lines found. Assumes nothing.
use Rattle.std.proofs.Common.{◌≡◌, ℕ, ◌+◌, ◌<◌, ◌≤◌, true, false, eqb, ltb, List, [], ◌∷◌, length, ℤ, sym, refl, ◌∙◌, zero-add, arith, ltb-false, ltb-true, le-ltb, lt-ltb}
use lib.Seq.{sets, sets-eq}
use Rattle.truth.proofs.Cases.{by_test}
use Rattle.refusal.specs.declared.Refusal.TheVariants.{Item, Sample, Room, CommaLine}
use Rattle.sample_items.specs.Limits.{step_in_range}
use Rattle.sample_range.specs.Range.{sample_in_range, first_bad}
use Rattle.decimal.specs.Field.{line_feed}
use Rattle.decimal.specs.Lines.{start_line, lines_of}
use Rattle.comma_line.specs.Line.{right}
use Rattle.comma_line.specs.Text.{first_wrong, samples_of}
use Rattle.comma_read.specs.Survey.{surveyed}
use Rattle.comma_read.specs.Answers.{reading_lines, filled_by}
use Rattle.std.specs.Prelude.{Ok, Err}
use Rattle.truth.proofs.Answers.{err_not_ok, same_err, same_first, same_ok, same_second}

wrong_within : (D time : ℕ) (lines : List (List ℕ)) → first_wrong D time lines ≤ length lines
unfolding first_wrong
wrong_within D time [] = omega arith
wrong_within D time (line ∷ lines) = by_test (right time line) (λ e. rw e (omega (arith, wrong_within D (time + D) lines))) (λ e. rw e (omega arith))

pub samples_number : (lines : List (List ℕ)) → length (samples_of lines) ≡ length lines
samples_number [] = refl
samples_number (line ∷ lines) = omega (arith, samples_number lines)

bad_within : (xs : List ℤ) → first_bad xs ≤ length xs
unfolding first_bad
bad_within [] = omega arith
bad_within (x ∷ xs) = by_test (sample_in_range x) (λ e. rw e (omega (arith, bad_within xs))) (λ e. rw e (omega arith))

-- a text has no more lines than bytes
pub lines_few : (text : List ℕ) → length (lines_of text) ≤ length text
unfolding lines_of
lines_few [] = omega arith
lines_few (b ∷ text) =
    by_test (eqb b line_feed)
    (λ e. rw e (omega (arith, lines_few text)))
    (λ e. rw e (omega (arith, lines_few text, start_few b (lines_of text))))
  where
    start_few : (b : ℕ) (lines : List (List ℕ)) → length (start_line b lines) ≤ length lines + 1
    start_few b [] = omega arith
    start_few b (line ∷ lines) = omega arith

-- what was found
pub record FoundWrong (D : ℕ) (lines : List (List ℕ)) (n : ℕ) : Type 0 where
  pub place : first_wrong D 0 lines ≡ n
  pub some : n < length lines

pub record FoundRight (D : ℕ) (lines : List (List ℕ)) (n s : ℕ) : Type 0 where
  pub all : first_wrong D 0 lines ≡ n
  pub number : length lines ≡ n
  pub bad : first_bad (samples_of lines) ≡ s
  pub low : s ≤ n

module _ (D : ℕ) (lines : List (List ℕ)) where
  pub found_wrong : (n : ℕ) → surveyed D lines ≡ Err n → FoundWrong D lines n
  unfolding surveyed
  found_wrong n e =
      by_test (ltb (first_wrong D 0 lines) (length lines))
      (λ t.
      let p : first_wrong D 0 lines ≡ n = same_err (rw t at e) in
      record { place = p; some = omega (arith, ltb-true (first_wrong D 0 lines) (length lines) t) })
      (λ t. absurd (err_not_ok (sym (rw t at e))))

  pub found_right : (n s : ℕ) → surveyed D lines ≡ Ok (n, s) → FoundRight D lines n s
  unfolding surveyed
  found_right n s e =
      by_test (ltb (first_wrong D 0 lines) (length lines))
      (λ t. absurd (err_not_ok (rw t at e)))
      (λ t.
      let both : ◌≡◌ {A = ℕ × ℕ} (length lines, first_bad (samples_of lines)) (n, s) = same_ok (rw t at e) in
      let number : length lines ≡ n = same_first both in
      let bad : first_bad (samples_of lines) ≡ s = same_second both in
      record {
        all = omega (arith, ltb-false (first_wrong D 0 lines) (length lines) t, wrong_within D 0 lines);
        number = number;
        bad = bad;
        low = omega (arith, bad_within (samples_of lines), samples_number lines);
      })

  module _ (places : ℕ) where
    pub bad_step : step_in_range D ≡ false → Err (Item 1) ≡ reading_lines D lines places
    unfolding reading_lines
    bad_step e = rw e

    module _ (step : step_in_range D ≡ true) where
      pub wrong_line : (n : ℕ) → FoundWrong D lines n → Err (CommaLine (n + 1)) ≡ reading_lines D lines places
      unfolding reading_lines
      wrong_line n w = rw (step, w.place, lt-ltb n (length lines) w.some)

      module _ (n s : ℕ) (r : FoundRight D lines n s) where
        pub bad_sample : s < n → Err (Sample s) ≡ reading_lines D lines places
        unfolding reading_lines
        bad_sample h = rw (step, r.all, r.number, r.bad, le-ltb n n (omega arith), lt-ltb s n h)

        pub no_room : n ≤ s → places < n → Err (Room n) ≡ reading_lines D lines places
        unfolding reading_lines
        no_room g h = rw (step, r.all, r.number, r.bad, le-ltb n n (omega arith), le-ltb s n g, lt-ltb places n h)

        pub all_read : n ≤ s → n ≤ places → Ok n ≡ reading_lines D lines places
        unfolding reading_lines
        all_read g h = rw (step, r.all, r.number, r.bad, le-ltb n n (omega arith), le-ltb s n g, le-ltb places n h)

-- the places after the second pass
pub samples_put : (lines : List (List ℕ)) (samples : List ℤ) (n : ℕ) → length lines ≡ n → n ≤ length samples
    → sets samples 0 (samples_of lines) ≡ filled_by (Ok n) (samples_of lines) samples
unfolding filled_by
samples_put lines samples n e h =
    let k : length (samples_of lines) ≡ n = samples_number lines ∙ e in
    sets-eq (samples_of lines) samples 0 (omega arith) ∙ rw (zero-add, k)

-- what a text that was read is
pub record AllRead (D : ℕ) (lines : List (List ℕ)) (places n : ℕ) : Type 0 where
  pub step : step_in_range D ≡ true
  pub all : first_wrong D 0 lines ≡ length lines
  pub good : first_bad (samples_of lines) ≡ length lines
  pub room : length lines ≤ places
  pub count : length lines ≡ n

pub samples_read : (D : ℕ) (lines : List (List ℕ)) (places n : ℕ) → reading_lines D lines places ≡ Ok n → AllRead D lines places n
unfolding reading_lines
samples_read D lines places n e =
    by_test (step_in_range D)
    (λ s.
    by_test (ltb (first_wrong D 0 lines) (length lines))
    (λ w. absurd (err_not_ok (rw (s, w) at e)))
    (λ w.
    by_test (ltb (first_bad (samples_of lines)) (length lines))
    (λ b. absurd (err_not_ok (rw (s, w, b) at e)))
    (λ b.
    by_test (ltb places (length lines))
    (λ p. absurd (err_not_ok (rw (s, w, b, p) at e)))
    (λ p.
    let c : length lines ≡ n = same_ok (rw (s, w, b, p) at e) in
    record {
      step = s;
      all = omega (arith, ltb-false (first_wrong D 0 lines) (length lines) w, wrong_within D 0 lines);
      good = omega (arith, ltb-false (first_bad (samples_of lines)) (length lines) b, bad_within (samples_of lines), samples_number lines);
      room = ltb-false places (length lines) p;
      count = c;
    }))))
    (λ s. absurd (err_not_ok (rw s at e)))
