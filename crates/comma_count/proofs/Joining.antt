-- Samples of one channel, fed some at a time: what is answered to two pieces, one after the other, is what is answered
-- to both at once (`onward_join`, `answering_join`). Assumes nothing.
use Prim.Native.Nat.{ℕ, zero, suc, ◌+◌, ◌-◌, ◌≤◌, ◌<◌}
use mathlib.Core.Path.{◌≡◌, refl, sym, ap, ◌∙◌}
use mathlib.Core.Bool.{Bool, true, false, cond, ◌&&◌}
use mathlib.Core.List.{List, [], ◌∷◌, ◌++◌, map, foldl, foldl-append, map-append}
use native.Mathlib.Omega.{arith}
use lib.Dec.{eqb, ltb}
use lib.IntN.{ℤ}
use lib.ListN.{length, length-append, length-map}
use borrow.Author.Tests.{eq-eqb, ne_eqb, eqb-true, lt-ltb, le-ltb}
use Rattle.truth.proofs.Cases.{by_test, by_order}
use Rattle.truth.proofs.Laws.{true≢false}
use Rattle.refusal.specs.declared.Refusal.TheVariants.{TooLong, Sample}
use Rattle.sample_channels.specs.Channels.{moments}
use Rattle.sample_channels.proofs.Moments.{moments_length, moments_append}
use Rattle.sample_channels.proofs.Range.{all_in, all_good}
use Rattle.sample_items.specs.Limits.{most_samples}
use Rattle.sample_range.specs.Range.{sample_in_range, first_bad}
use Rattle.sample_range.proofs.Bad.{good_head, bad_append, bad_within}
use Rattle.record_state.specs.declared.Record.{Record}
use Rattle.record_state.specs.State.{sound}
use Rattle.record_step.specs.Step.{stepped}
use Rattle.record_feed.specs.Answers.{fed}
use Rattle.record_feed.proofs.Fed.{fed_broken, fed_full, fed_taken}
use Rattle.record_feed.proofs.Cutting.{run_n, run_most, run_sound}
use Rattle.degrees.specs.Degrees.{sample_of}
use Rattle.comma_line.specs.Line.{roll}
use Rattle.comma_line.specs.Text.{samples_of}
use Rattle.comma_stream.specs.declared.Follow.{Follow}
use Rattle.comma_stream.specs.Follow.{after_lines, held}
use Rattle.comma_count.specs.Line.{zeros, one_channel}
use Rattle.comma_count.specs.Taking.{onward, answering}
use Rattle.comma_count.proofs.Zeros.{zeros_length, zeros_good, zeros_append}
use Rattle.refusal.specs.declared.Refusal.{Refusal}
use Rattle.std.specs.Prelude.{Result, Ok, Err}

-- ---- samples in range are taken, or are too many

module _ (r : Record) (xs : List ℤ) (s : sound r ≡ true) (g : first_bad xs ≡ length xs) where
  pub fed_long : most_samples r.items.step r.items.ramp < r.n + length xs → fed r xs (zeros xs) ≡ Err TooLong
  fed_long h = fed_full r xs (zeros xs) s (sym (zeros_length xs)) h ∙ rw (all_good xs (zeros xs) g (zeros_good xs))

  pub fed_some : r.n + length xs ≤ most_samples r.items.step r.items.ramp → fed r xs (zeros xs) ≡ Ok (foldl stepped r (one_channel xs))
  fed_some h = fed_taken r xs (zeros xs) s (sym (zeros_length xs)) g (zeros_good xs) h

  pub many : length (one_channel xs) ≡ length xs
  many = moments_length xs (zeros xs) (sym (zeros_length xs))

  pub still_sound : r.n + length xs ≤ most_samples r.items.step r.items.ramp → sound (foldl stepped r (one_channel xs)) ≡ true
  still_sound h = run_sound r (one_channel xs) s (all_in xs (zeros xs) g (zeros_good xs)) (omega (arith, many))

pub channel_append : (xs ys : List ℤ) → one_channel (xs ++ ys) ≡ one_channel xs ++ one_channel ys
channel_append xs ys = ap (moments (xs ++ ys)) (zeros_append xs ys) ∙ moments_append xs (zeros xs) ys (zeros ys) (sym (zeros_length xs))

-- ---- one piece after the other
module _ (r : Record) (xs ys : List ℤ) (g : first_bad xs ≡ length xs) (h : first_bad ys ≡ length ys) where
  both_good : first_bad (xs ++ ys) ≡ length (xs ++ ys)
  both_good = omega (arith, length-append xs ys, bad_append xs ys g)

  -- without room for the first, for the second, or for neither
  long_first : sound r ≡ true → most_samples r.items.step r.items.ramp < r.n + length xs → onward (fed r xs (zeros xs)) ys ≡ fed r (xs ++ ys) (zeros (xs ++ ys))
  long_first s l = rw (fed_long r xs s g l, fed_long r (xs ++ ys) s both_good (rw length-append (omega arith)))

  module _ (s : sound r ≡ true) (l : r.n + length xs ≤ most_samples r.items.step r.items.ramp) where
    abbrev t : Record
    t = foldl stepped r (one_channel xs)

    places : t.n ≡ r.n + length xs
    places = run_n r (one_channel xs) ∙ ap (λ k. r.n + k) (many r xs s g)

    most : most_samples t.items.step t.items.ramp ≡ most_samples r.items.step r.items.ramp
    most = run_most r (one_channel xs)

    second : fed t ys (zeros ys) ≡ fed r (xs ++ ys) (zeros (xs ++ ys))
    second =
        by_order (most_samples r.items.step r.items.ramp) (r.n + length (xs ++ ys))
        (λ k.
        fed_long t ys (still_sound r xs s g l) h (omega (arith, places, most, length-append xs ys))
        ∙ sym (fed_long r (xs ++ ys) s both_good k))
        (λ k.
        fed_some t ys (still_sound r xs s g l) h (omega (arith, places, most, length-append xs ys))
        ∙ ap Ok (sym (foldl-append stepped r (one_channel xs) (one_channel ys)) ∙ ap (foldl stepped r) (sym (channel_append xs ys)))
        ∙ sym (fed_some r (xs ++ ys) s both_good k))

    long_second : onward (fed r xs (zeros xs)) ys ≡ fed r (xs ++ ys) (zeros (xs ++ ys))
    long_second = ap (λ a. onward a ys) (fed_some r xs s g l) ∙ second

  joined_taken : onward (fed r xs (zeros xs)) ys ≡ fed r (xs ++ ys) (zeros (xs ++ ys))
  joined_taken =
      by_test (sound r)
      (λ s. by_order (most_samples r.items.step r.items.ramp) (r.n + length xs) (long_first s) (long_second s))
      (λ s. ap (λ a. onward a ys) (fed_broken r xs (zeros xs) s) ∙ sym (fed_broken r (xs ++ ys) (zeros (xs ++ ys)) s))

pub onward_join : (a : Result Record Refusal) (xs ys : List ℤ) → first_bad xs ≡ length xs → first_bad ys ≡ length ys → onward (onward a xs) ys ≡ onward a (xs ++ ys)
onward_join (Ok r) xs ys g h = joined_taken r xs ys g h
onward_join (Err q) xs ys g h = refl

-- ---- what the line of the first sample out of range says of the samples
module _ (f : Follow) (lines : List (List ℕ)) where
  abbrev xs : List ℤ
  xs = samples_of lines

  xs_many : length xs ≡ length lines
  xs_many = length-map lines (λ line. sample_of (roll line))

  pub none_outside : (after_lines f lines).outside ≡ 0 → (f.outside ≡ 0) × (first_bad xs ≡ length xs)
  unfolding after_lines
  none_outside e =
      by_test (eqb f.outside 0)
      (λ o.
      by_order (first_bad xs) (length lines)
      (λ l. absurd (let z = rw (o, lt-ltb (first_bad xs) (length lines) l) at e in omega arith))
      (λ l. (eqb-true f.outside 0 o, omega (arith, xs_many, bad_within xs))))
      (λ o. absurd (let z = rw o at e in true≢false (sym (eq-eqb f.outside 0 z) ∙ o)))

-- a sample out of range is held as 0, and none else
pub held_same : (xs : List ℤ) → first_bad xs ≡ length xs → map held xs ≡ xs
unfolding held
held_same [] g = refl
held_same (x ∷ xs) g = let h = good_head x xs g in rw h.0 (ap (λ l. x ∷ l) (held_same xs h.1))

-- ---- the answer after lines
module _ (f : Follow) (a : Result Record Refusal) where
  pub answering_held : (lines : List (List ℕ)) → answering (after_lines f lines) a (map held (samples_of lines)) ≡ answering (after_lines f lines) a (samples_of lines)
  unfolding answering
  answering_held lines =
      by_test (eqb (after_lines f lines).outside 0)
      (λ o. rw (o, held_same (samples_of lines) (none_outside f lines (eqb-true _ _ o)).1))
      (λ o. rw o)

  pub answering_join : (us vs : List (List ℕ))
      → answering (after_lines (after_lines f us) vs) (answering (after_lines f us) a (samples_of us)) (samples_of vs) ≡ answering (after_lines (after_lines f us) vs) a (samples_of us ++ samples_of vs)
  unfolding answering
  answering_join us vs =
      by_test (eqb (after_lines (after_lines f us) vs).outside 0)
      (λ o.
      let second = none_outside (after_lines f us) vs (eqb-true _ _ o) in
      let first = none_outside f us second.0 in
      rw (o, eq-eqb (after_lines f us).outside 0 second.0) (onward_join a (samples_of us) (samples_of vs) first.1 second.1))
      (λ o. rw o)
