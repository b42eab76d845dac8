-- A count after all lines of a text comes to what the text comes to: where its lines are all right (`end_right`), and
-- where one is wrong (`end_wrong`). And what is said of a text is what is said of what it comes to (`said_end_lem`).
-- Assumes nothing.
use Prim.Native.Nat.{ℕ, ◌+◌, ◌-◌, ◌≤◌, ◌<◌}
use mathlib.Core.Path.{◌≡◌, refl, sym, ap, ◌∙◌}
use mathlib.Core.Bool.{Bool, true, false, cond, not}
use mathlib.Core.List.{List, [], foldl}
use native.Mathlib.Nat.{zero-add}
use native.Mathlib.Omega.{arith}
use lib.Dec.{eqb, ltb}
use lib.IntN.{ℤ}
use lib.ListN.{length, length-map}
use borrow.Author.Tests.{eq-eqb, eqb-true, ne_eqb, lt-ltb, le-ltb, le-leb}
use Rattle.truth.proofs.Cases.{by_test, by_order}
use Rattle.truth.proofs.Laws.{both_true}
use Rattle.refusal.specs.declared.Refusal.{Refusal}
use Rattle.refusal.specs.declared.Refusal.TheVariants.{Sample, TooLong, TooShort, BrokenState, CommaLine}
use Rattle.sample_channels.specs.declared.Moment.{Moment}
use Rattle.sample_items.specs.Limits.{step_in_range, item_outside, most_samples}
use Rattle.sample_items.proofs.Ranges.{within_ranges}
use Rattle.sample_range.specs.Range.{first_bad}
use Rattle.sample_range.proofs.Bad.{bad_within}
use Rattle.crossing_places.specs.Reading.{too_few}
use Rattle.record_state.specs.declared.Record.{Record}
use Rattle.record_state.specs.State.{state_of, sound}
use Rattle.record_state.specs.Answers.{opened}
use Rattle.record_state.proofs.Opening.{opened_sound}
use Rattle.record_step.specs.Step.{stepped}
use Rattle.record_step.proofs.Whole.{state}
use Rattle.record_feed.specs.Answers.{fed}
use Rattle.record_end.specs.declared.RecordResult.{RecordResult}
use Rattle.record_end.specs.Result.{ending, result_of}
use Rattle.degrees.specs.Degrees.{sample_of}
use Rattle.comma_line.specs.Line.{roll}
use Rattle.comma_line.specs.Text.{first_wrong, samples_of}
use Rattle.comma_stream.specs.declared.Follow.{Follow}
use Rattle.comma_stream.specs.Follow.{after_lines}
use Rattle.sample_items.specs.declared.Items.{Items}
use Rattle.comma_count.specs.declared.Counting.{Counting}
use Rattle.desk_line.specs.Said.{Said}
use Rattle.comma_count.specs.Line.{zeros, one_channel, result_for, counted, refused_at, lines_then, file_then, count_said_of_lines, end_of_lines}
use Rattle.comma_count.specs.Taking.{fresh, going, over, onward, answering, end_by, end_of, on_end, said_end, said_ended, saying}
use Rattle.comma_count.proofs.Joining.{fed_long, fed_some, many, still_sound}
use Rattle.std.specs.Prelude.{Result, Ok, Err}

-- what is said of a sound record
ended_is : (r : Record) (R n : ℕ) (x : RecordResult) → sound r ≡ true → r.items.ramp ≡ R → r.n ≡ n → result_of r ≡ x → said_ended r.n (ending r) ≡ cond (too_few R n) (refused_at 0 TooShort) (counted n x)
unfolding ending
ended_is r R n x s e f g =
    ap (λ y. said_ended r.n (cond (not y) (Err BrokenState) (cond (too_few r.items.ramp r.n) (Err TooShort) (Ok (result_of r))))) s
    ∙ ap (λ y. said_ended r.n (cond (too_few r.items.ramp r.n) (Err TooShort) (Ok y))) g
    ∙ by_test (too_few r.items.ramp r.n)
    (λ t. rw (t, ← e, ← f, t))
    (λ t. rw (t, ← e, ← f, t))

module _ (i : Items) where
  -- the record of no samples
  abbrev pub start : Record
  start = state_of i []

  -- the count after lines
  abbrev pub standing : List (List ℕ) → Counting
  standing us = going (after_lines (fresh i.step) us) (answering (after_lines (fresh i.step) us) (Ok start) (samples_of us))

  -- the count after which the next line is wrong
  abbrev pub wrong_after : List (List ℕ) → Counting
  wrong_after us = over (after_lines (fresh i.step) us) (CommaLine ((after_lines (fresh i.step) us).lines + 1))

module _ (i : Items) (ok : item_outside i ≡ 0) where
  pub opens : opened i ≡ Ok (start i)
  unfolding opened
  opens = rw (eq-eqb (item_outside i) 0 ok)

  pub start_sound : sound (start i) ≡ true
  start_sound = opened_sound i (start i) opens

  pub step_ok : step_in_range i.step ≡ true
  step_ok =
      let r = within_ranges i ok in
      both_true (le-leb 1 i.step r.step_low) (le-leb i.step 10000 r.step-high)

  -- ---- a wrong line
  pub end_wrong : (us lines : List (List ℕ)) → first_wrong i.step 0 lines ≡ length us → length us < length lines → end_of (wrong_after i us) ≡ end_of_lines i lines
  unfolding after_lines end_of_lines
  end_wrong us lines e h =
      rw (eq-eqb (item_outside i) 0 ok, e, lt-ltb (length us) (length lines) h, zero-add)

  -- ---- lines whose samples are all in range, and not too many
  module _ (lines : List (List ℕ)) (good : length lines ≤ first_bad (samples_of lines)) where
    abbrev xs : List ℤ
    xs = samples_of lines

    xs_many : length xs ≡ length lines
    xs_many = length-map lines (λ line. sample_of (roll line))

    all : first_bad xs ≡ length xs
    all = omega (arith, bad_within xs, xs_many)

    none_yet : (start i).n ≡ 0
    unfolding state_of
    none_yet = refl

    most_is : most_samples (start i).items.step (start i).items.ramp ≡ most_samples i.step i.ramp
    unfolding state_of
    most_is = refl

    too_long : most_samples i.step i.ramp < length lines → fed (start i) xs (zeros xs) ≡ Err TooLong
    too_long h = fed_long (start i) xs start_sound all (omega (arith, none_yet, most_is, xs_many))

    module _ (h : length lines ≤ most_samples i.step i.ramp) where
      abbrev whole : Record
      whole = state_of i (one_channel xs)

      room : (start i).n + length xs ≤ most_samples (start i).items.step (start i).items.ramp
      room = omega (arith, none_yet, most_is, xs_many)

      taken : fed (start i) xs (zeros xs) ≡ Ok whole
      taken = fed_some (start i) xs start_sound all room ∙ ap Ok (state i (one_channel xs))

      whole_sound : sound whole ≡ true
      whole_sound = ap sound (sym (state i (one_channel xs))) ∙ still_sound (start i) xs start_sound all room

      result-is : result_of whole ≡ result_for i (one_channel xs)
      unfolding state_of result_for
      result-is = refl

      ramp_is : whole.items.ramp ≡ i.ramp
      unfolding state_of
      ramp_is = refl

      n-is : whole.n ≡ length lines
      unfolding state_of
      n-is = many (start i) xs start_sound all ∙ xs_many

      whole_said : said_end (Ok whole) ≡ cond (too_few i.ramp (length lines)) (refused_at 0 TooShort) (counted (length lines) (result_for i (one_channel xs)))
      whole_said = ended_is whole i.ramp (length lines) (result_for i (one_channel xs)) whole_sound ramp_is n-is result-is

  -- ---- all lines right
  module _ (lines : List (List ℕ)) (right : first_wrong i.step 0 lines ≡ length lines) where
    bad : first_bad (samples_of lines) < length lines → end_of (standing i lines) ≡ end_of_lines i lines
    unfolding after_lines answering end_of_lines
    bad h =
        rw (
          eq-eqb (item_outside i) 0 ok,
          right,
          le-ltb (length lines) (length lines) (omega arith),
          lt-ltb (first_bad (samples_of lines)) (length lines) h,
          ne_eqb (0 + first_bad (samples_of lines) + 1) 0 (λ z. omega arith),
        )
        (rw zero-add (ap (λ n. Err (first_bad (samples_of lines) + 1, Sample n)) (omega arith)))

    module _ (good : length lines ≤ first_bad (samples_of lines)) where
      abbrev by_answer : Result Record Refusal → Result Record (ℕ × Refusal)
      by_answer a = end_by (after_lines (fresh i.step) lines) a

      answer_is : end_of (standing i lines) ≡ by_answer (fed (start i) (samples_of lines) (zeros (samples_of lines)))
      unfolding after_lines answering
      answer_is = rw (le-ltb (first_bad (samples_of lines)) (length lines) good)

      rest : end_of_lines i lines
          ≡ cond (ltb (most_samples i.step i.ramp) (length lines)) (Err (0, TooLong)) (Ok (state_of i (one_channel (samples_of lines))))
      unfolding end_of_lines
      rest = rw (eq-eqb (item_outside i) 0 ok, right, le-ltb (length lines) (length lines) (omega arith), le-ltb (first_bad (samples_of lines)) (length lines) good)

      in_range : end_of (standing i lines) ≡ end_of_lines i lines
      in_range =
          answer_is
          ∙ by_order (most_samples i.step i.ramp) (length lines)
          (λ h. ap by_answer (too_long lines good h) ∙ sym (rest ∙ rw (lt-ltb (most_samples i.step i.ramp) (length lines) h)))
          (λ h. ap by_answer (taken lines good h) ∙ sym (rest ∙ rw (le-ltb (most_samples i.step i.ramp) (length lines) h)))

    pub end_right : end_of (standing i lines) ≡ end_of_lines i lines
    end_right = by_order (first_bad (samples_of lines)) (length lines) bad in_range

-- ---- the line is that of what the lines come to
pub said_end_lem : (i : Items) (lines : List (List ℕ)) → said_end (end_of_lines i lines) ≡ count_said_of_lines i lines
unfolding end_of_lines count_said_of_lines
said_end_lem i lines =
    let xs = samples_of lines in
    let fw = first_wrong i.step 0 lines in
    by_test (eqb (item_outside i) 0)
    (λ e.
    by_order fw (length lines)
    (λ w. rw (e, lt-ltb fw (length lines) w))
    (λ w.
    by_order (first_bad xs) (length lines)
    (λ b. rw (e, le-ltb fw (length lines) w, lt-ltb (first_bad xs) (length lines) b))
    (λ b.
    by_order (most_samples i.step i.ramp) (length lines)
    (λ h. rw (e, le-ltb fw (length lines) w, le-ltb (first_bad xs) (length lines) b, lt-ltb (most_samples i.step i.ramp) (length lines) h))
    (λ h.
    rw (e, le-ltb fw (length lines) w, le-ltb (first_bad xs) (length lines) b, le-ltb (most_samples i.step i.ramp) (length lines) h)
    (whole_said i (eqb-true (item_outside i) 0 e) lines b h)))))
    (λ e. rw e)

-- ---- what is done with what the lines come to, where the items are in range: the tests in their order, and then with
-- a record that is sound and has a sample for each line
pub end_then : (i : Items) (ok : item_outside i ≡ 0) {X : Type 0} (refuse : ℕ → Refusal → X) (go : Record → X) (proper : X) (lines : List (List ℕ))
    → let r = state_of i (one_channel (samples_of lines)) in
    (sound r ≡ true → r.n ≡ length lines → go r ≡ cond (too_few i.ramp (length lines)) (refuse 0 TooShort) proper)
    → on_end refuse go (end_of_lines i lines) ≡ file_then i refuse lines proper
unfolding end_of_lines
end_then i ok refuse go proper lines f =
    let xs = samples_of lines in
    let fw = first_wrong i.step 0 lines in
    let e = eq-eqb (item_outside i) 0 ok in
    by_order fw (length lines)
    (λ w. rw (e, lt-ltb fw (length lines) w))
    (λ w.
    by_order (first_bad xs) (length lines)
    (λ b. rw (e, le-ltb fw (length lines) w, lt-ltb (first_bad xs) (length lines) b))
    (λ b.
    by_order (most_samples i.step i.ramp) (length lines)
    (λ h. rw (e, le-ltb fw (length lines) w, le-ltb (first_bad xs) (length lines) b, lt-ltb (most_samples i.step i.ramp) (length lines) h))
    (λ h. rw (e, le-ltb fw (length lines) w, le-ltb (first_bad xs) (length lines) b, le-ltb (most_samples i.step i.ramp) (length lines) h) (f (whole_sound i ok lines b h) (n-is i ok lines b h)))))
