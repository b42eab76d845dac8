-- Samples of both channels, fed some at a time: what is answered to two pieces, one after the other, is what is
-- answered to both at once (`onward_join`), since what is fed is in range. Assumes nothing.
use Prim.Native.Nat.{ℕ, zero, suc, ◌+◌, ◌≤◌, ◌<◌}
use mathlib.Core.Path.{◌≡◌, refl, sym, ap, ◌∙◌}
use mathlib.Core.Bool.{true}
use mathlib.Core.List.{List, [], ◌∷◌, ◌++◌, map, foldl, foldl-append}
use native.Mathlib.Omega.{arith}
use lib.IntN.{ℤ}
use lib.ListN.{length, length-append}
use Rattle.truth.proofs.Cases.{by_test, by_order}
use Rattle.refusal.specs.declared.Refusal.TheVariants.{TooLong}
use Rattle.sample_channels.specs.Channels.{moments}
use Rattle.sample_channels.proofs.Moments.{moments_length, moments_append}
use Rattle.sample_channels.proofs.Range.{all_in, all_good}
use Rattle.sample_items.specs.Limits.{most_samples}
use Rattle.sample_range.specs.Range.{sample_in_range, first_bad}
use Rattle.sample_range.proofs.Bad.{good_head, bad_append}
use Rattle.record_state.specs.declared.Record.{Record}
use Rattle.record_state.specs.State.{sound}
use Rattle.record_step.specs.Step.{stepped}
use Rattle.record_feed.specs.Answers.{fed}
use Rattle.record_feed.proofs.Fed.{fed_broken, fed_full, fed_taken}
use Rattle.record_feed.proofs.Cutting.{run_n, run_most, run_sound}
use Rattle.comma_stream.specs.Follow.{held}
use Rattle.comma_pair.specs.Taking.{onward, held_of}
use Rattle.refusal.specs.declared.Refusal.{Refusal}
use Rattle.std.specs.Prelude.{Result, Ok, Err}

-- ---- what is held is in range
pub held_good : (xs : List ℤ) → first_bad (map held xs) ≡ length (map held xs)
unfolding held first_bad
held_good [] = refl
held_good (x ∷ xs) = by_test (sample_in_range x) (λ s. rw (s, s) (ap suc (held_good xs))) (λ s. rw s (ap suc (held_good xs)))

-- samples in range of both channels, as many of each
pub record Good (xs ys : List ℤ) : Type 0 where
  pub equal : length xs ≡ length ys
  pub roll : first_bad xs ≡ length xs
  pub acceleration : first_bad ys ≡ length ys

-- ---- they are taken, or are too many
module _ (r : Record) (xs ys : List ℤ) (g : Good xs ys) (s : sound r ≡ true) where
  pub fed_long : most_samples r.items.step r.items.ramp < r.n + length xs → fed r xs ys ≡ Err TooLong
  fed_long h = fed_full r xs ys s g.equal h ∙ rw (all_good xs ys g.roll g.acceleration)

  pub fed_some : r.n + length xs ≤ most_samples r.items.step r.items.ramp → fed r xs ys ≡ Ok (foldl stepped r (moments xs ys))
  fed_some h = fed_taken r xs ys s g.equal g.roll g.acceleration h

  pub many : length (moments xs ys) ≡ length xs
  many = moments_length xs ys g.equal

  pub still_sound : r.n + length xs ≤ most_samples r.items.step r.items.ramp → sound (foldl stepped r (moments xs ys)) ≡ true
  still_sound h = run_sound r (moments xs ys) s (all_in xs ys g.roll g.acceleration) (omega (arith, many))

-- ---- one piece after the other
pub good_join : (xs ys us vs : List ℤ) → Good xs ys → Good us vs → Good (xs ++ us) (ys ++ vs)
good_join xs ys us vs g h =
    record {
      equal = omega (arith, length-append xs us, length-append ys vs, g.equal, h.equal);
      roll = omega (arith, length-append xs us, bad_append xs us g.roll, h.roll);
      acceleration = omega (arith, length-append ys vs, bad_append ys vs g.acceleration, h.acceleration);
    }

module _ (r : Record) (xs ys us vs : List ℤ) (g : Good xs ys) (h : Good us vs) where
  abbrev both : Good (xs ++ us) (ys ++ vs)
  both = good_join xs ys us vs g h

  long_first : sound r ≡ true → most_samples r.items.step r.items.ramp < r.n + length xs → onward (fed r xs ys) us vs ≡ fed r (xs ++ us) (ys ++ vs)
  long_first s l = rw (fed_long r xs ys g s l, fed_long r (xs ++ us) (ys ++ vs) both s (rw length-append (omega arith)))

  module _ (s : sound r ≡ true) (l : r.n + length xs ≤ most_samples r.items.step r.items.ramp) where
    abbrev t : Record
    t = foldl stepped r (moments xs ys)

    places : t.n ≡ r.n + length xs
    places = run_n r (moments xs ys) ∙ ap (λ k. r.n + k) (many r xs ys g s)

    most : most_samples t.items.step t.items.ramp ≡ most_samples r.items.step r.items.ramp
    most = run_most r (moments xs ys)

    second : fed t us vs ≡ fed r (xs ++ us) (ys ++ vs)
    second =
        by_order (most_samples r.items.step r.items.ramp) (r.n + length (xs ++ us))
        (λ k.
        fed_long t us vs h (still_sound r xs ys g s l) (omega (arith, places, most, length-append xs us))
        ∙ sym (fed_long r (xs ++ us) (ys ++ vs) both s k))
        (λ k.
        fed_some t us vs h (still_sound r xs ys g s l) (omega (arith, places, most, length-append xs us))
        ∙ ap Ok (sym (foldl-append stepped r (moments xs ys) (moments us vs)) ∙ ap (foldl stepped r) (sym (moments_append xs ys us vs g.equal)))
        ∙ sym (fed_some r (xs ++ us) (ys ++ vs) both s k))

    long_second : onward (fed r xs ys) us vs ≡ fed r (xs ++ us) (ys ++ vs)
    long_second = ap (λ a. onward a us vs) (fed_some r xs ys g s l) ∙ second

  joined_taken : onward (fed r xs ys) us vs ≡ fed r (xs ++ us) (ys ++ vs)
  joined_taken =
      by_test (sound r)
      (λ s. by_order (most_samples r.items.step r.items.ramp) (r.n + length xs) (long_first s) (long_second s))
      (λ s. ap (λ a. onward a us vs) (fed_broken r xs ys s) ∙ sym (fed_broken r (xs ++ us) (ys ++ vs) s))

pub onward_join : (a : Result Record Refusal) (xs ys us vs : List ℤ) → Good xs ys → Good us vs → onward (onward a xs ys) us vs ≡ onward a (xs ++ us) (ys ++ vs)
onward_join (Ok r) xs ys us vs g h = joined_taken r xs ys us vs g h
onward_join (Err q) xs ys us vs g h = refl
