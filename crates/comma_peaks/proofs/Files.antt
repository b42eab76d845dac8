-- A file that comes in pieces, cut anywhere (`passing` of `comma_stream`), is judged at its end as its whole text is
-- (`file_judged`). Assumes nothing.
use Rattle.std.proofs.Common.{◌≡◌, ℕ, suc, ◌+◌, ◌-◌, ◌*◌, ◌<◌, ◌≤◌, Bool, true, false, cond, not, eqb, ltb, List, [], ◌∷◌, map, length, take, drop, ℤ, sym, refl, ap, ◌∙◌, subst, zero-mul, arith, length-take-le, take_all, le-ltb, lt-ltb, eq-eqb, eqb-true}
use borrow.Author.Tests.{eqb-false}
use Rattle.truth.proofs.Laws.{impossible}
use Rattle.truth.proofs.Cases.{by_test, by_order}
use Rattle.refusal.specs.declared.Refusal.TheVariants.{Sample, CommaLine}
use Rattle.sample_items.specs.Limits.{step_in_range, most_in_range}
use Rattle.sample_range.specs.Range.{first_bad}
use Rattle.text.specs.Pieces.{joined}
use Rattle.decimal.specs.Lines.{lines_of}
use Rattle.comma_line.specs.Text.{first_wrong, samples_of}
use Rattle.comma_read.specs.Answers.{reading_lines}
use Rattle.comma_stream.specs.declared.Follow.{Follow}
use Rattle.comma_stream.specs.Follow.{bytes_of, right_lines, after_lines}
use Rattle.comma_stream.specs.Pieces.{Passed, nothing, with_piece, passing, ending}
use Rattle.comma_stream.proofs.Pieces.{pieces_whole, followed_whole}
use Rattle.comma_peaks.specs.Judged.{comes_to, judging}
use Rattle.comma_peaks.proofs.Judges.{fresh, right_judged, wrong_judged}
use Rattle.refusal.specs.declared.Refusal.{Refusal}
use Rattle.std.specs.Prelude.{Result, Ok, Err}

yes : (b : Bool) (x y : Result ℕ Refusal) → b ≡ true → cond b x y ≡ x
yes b x y e = rw e

no : (b : Bool) (x y : Result ℕ Refusal) → b ≡ false → cond b x y ≡ y
no b x y e = rw e

-- 10 is neither 2 nor a number of samples
not_both : (b c : Bool) (n m i j k : ℕ) → cond b (Err (Sample i)) (Ok n) ≡ Err (CommaLine k) → ⊥
not_both true c n m i j k e = impossible (cc)
not_both false c n m i j k e = impossible (cc)

not_other : (b : Bool) (n i k : ℕ) → cond b (Ok n) (Err (Sample i)) ≡ Err (CommaLine k) → ⊥
not_other true n i k e = impossible (cc)
not_other false n i k e = impossible (cc)

module _ (D : ℕ) (lines : List (List ℕ)) (step : step_in_range D ≡ true) where
  reading_wrong : first_wrong D 0 lines < length lines → reading_lines D lines (length lines) ≡ Err (CommaLine (first_wrong D 0 lines + 1))
  unfolding reading_lines
  reading_wrong h = rw (step, lt-ltb (first_wrong D 0 lines) (length lines) h)

  reading_right : length lines ≤ first_wrong D 0 lines → let b = first_bad (samples_of lines) in
      reading_lines D lines (length lines) ≡ cond (ltb b (length lines)) (Err (Sample b)) (Ok (length lines))
  unfolding reading_lines
  reading_right h = rw (step, le-ltb (first_wrong D 0 lines) (length lines) h, le-ltb (length lines) (length lines) (omega arith))

-- how a reading ended
module _ (p : Passed) where
  ended_none : length p.left ≡ 0 → cond (eqb p.stands.outside 0) (Ok p.stands.lines) (Err (Sample (p.stands.outside - 1))) ≡ ending p
  unfolding ending
  ended_none e = sym (yes (eqb (length p.left) 0) _ _ (eq-eqb (length p.left) 0 e))

  ended_some : eqb (length p.left) 0 ≡ false → ending p ≡ Err (CommaLine (p.stands.lines + 1))
  unfolding ending
  ended_some e = no (eqb (length p.left) 0) _ _ e

module _ (D : ℕ) (pieces : List (List ℕ)) (step : step_in_range D ≡ true) where
  abbrev L : List (List ℕ)
  L = lines_of (joined pieces)

  abbrev p : Passed
  p = passing (nothing D) pieces

  whole : ending p ≡ reading_lines D L (length L)
  whole = followed_whole D (length L) pieces step (omega arith)

  -- a line is wrong exactly if bytes are left
  none_left : length p.left ≡ 0 → length L ≤ first_wrong D 0 L
  none_left e =
      by_order (first_wrong D 0 L) (length L)
      (λ h. absurd (not_other (eqb p.stands.outside 0) _ _ _ (ended_none p e ∙ whole ∙ reading_wrong D L step h)))
      (λ h. h)

  pub some_left : eqb (length p.left) 0 ≡ false → first_wrong D 0 L < length L
  some_left e =
      by_order (first_wrong D 0 L) (length L) (λ h. h)
      (λ h. absurd (not_both (ltb (first_bad (samples_of L)) (length L)) true (length L) 0 (first_bad (samples_of L)) 0 _ (sym (reading_right D L step h) ∙ sym whole ∙ ended_some p e)))

  -- the right lines
  abbrev us : List (List ℕ)
  us = take (first_wrong D 0 L) L

  stands_is : p.stands ≡ after_lines (fresh D 0 L) us
  unfolding right_lines
  stands_is =
      let z : 0 * D ≡ 0 = zero-mul D in
      ap (λ (q : Passed). q.stands) (pieces_whole D pieces) ∙ ap (λ (k : ℕ). after_lines (fresh D 0 L) (take (first_wrong D k L) L)) z

  -- A FILE IN PIECES, cut anywhere, is judged at its end as its text is
  pub file_judged : (R : ℕ) → length L < 18446744073709551615 → judging p.stands R (not (eqb (length p.left) 0)) ≡ comes_to D R L
  file_judged R small =
      ap (λ (f : Follow). judging f R (not (eqb (length p.left) 0))) stands_is
      ∙ by_test (eqb (length p.left) 0)
      (λ e.
      let r = none_left (eqb-true (length p.left) 0 e) in
      ap (λ (b : Bool). judging (after_lines (fresh D 0 L) us) R (not b)) e
      ∙ ap (λ (l : List (List ℕ)). judging (after_lines (fresh D 0 L) l) R false) (take_all (first_wrong D 0 L) L r)
      ∙ right_judged D R L r)
      (λ e.
      let w = some_left e in
      let n : length us ≡ first_wrong D 0 L = length-take-le (first_wrong D 0 L) L (omega arith) in
      ap (λ (b : Bool). judging (after_lines (fresh D 0 L) us) R (not b)) e
      ∙ wrong_judged D R L us (sym n) (omega (arith, n)) (omega (arith, n)))
