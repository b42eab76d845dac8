-- The answers to a listing, one law for each: what is answered, and what the slice holds then. Assumes nothing.
use Prim.Native.Nat.{ℕ, ◌+◌, ◌≤◌, ◌<◌}
use mathlib.Core.Path.{◌≡◌, refl}
use mathlib.Core.Bool.{Bool, true, false, cond, not}
use mathlib.Core.List.{List, ◌++◌}
use native.Mathlib.Omega.{arith}
use lib.ListN.{length, drop, length-map}
use lib.Dec.{eqb, ltb}
use lib.IntN.{ℤ}
use borrow.Author.Tests.{eq-eqb, lt-ltb, le-ltb}
use Rattle.truth.proofs.Laws.{impossible}
use Rattle.refusal.specs.declared.Refusal.{Refusal}
use Rattle.refusal.specs.declared.Refusal.TheVariants.{Item, TooLong, TooShort, Room, Unequal}
use Rattle.sample_channels.specs.Channels.{moments, any_bad, bad_sample}
use Rattle.sample_items.specs.declared.Items.{Items}
use Rattle.sample_channels.proofs.Moments.{moments_length, moments_drop}
use Rattle.sample_items.specs.Limits.{item_outside, most_samples}
use Rattle.sample_range.specs.Range.{first_bad}
use Rattle.crossing_places.specs.Reading.{time_at, counted, counted_times, too_few, unramped}
use Rattle.crossing_places.proofs.Timed.{timed_only}
use Rattle.record_whole.specs.Tests.{tested}
use Rattle.record_whole.specs.Tests.{Fitting}
use Rattle.record_list.specs.Answers.{listed, written, WritesTo, ListsTo}
use Rattle.std.specs.Prelude.{Result, Ok, Err}

-- ---- times written
module _ (ts before : List ℕ) where
  pub writes_room : length before < length ts → WritesTo ts before (Err (Room (length ts))) before
  unfolding written
  writes_room l = record { answers = rw (lt-ltb _ _ l); leaves = refl }

  pub writes_times : length ts ≤ length before → WritesTo ts before (Ok (length ts)) (ts ++ drop (length ts) before)
  unfolding written
  writes_times l = record { answers = rw (le-ltb _ _ l); leaves = refl }

-- ---- the whole listing
module _ (items : Items) (xs ys : List ℤ) (slice : List ℕ) where
  -- a refusal of the tests before the count
  pub lists_refused : (f : Refusal) → tested items xs ys ≡ Err f → ListsTo items xs ys slice (Err f) slice
  unfolding tested listed written
  lists_refused f e = record {
    answers = go (eqb (item_outside items) 0) (eqb (length xs) (length ys)) (any_bad xs ys)
        (ltb (most_samples items.step items.ramp) (length xs)) (too_few items.ramp (length xs)) e;
    leaves = refl;
  }
    where
      n : ℕ
      n = length (counted items (moments xs ys))

      g : Refusal
      g = bad_sample (first_bad xs) (first_bad ys)

      go : (i m b l s : Bool)
          → cond (not i) (Err (Item (item_outside items))) (cond (not m) (Err Unequal)
          (cond b (Err g) (cond l (Err TooLong) (cond s (Err TooShort) (Ok (tt {0}))))))
          ≡ Err f
          → Err f ≡ cond (not i) (Err (Item (item_outside items))) (cond (not m) (Err Unequal)
          (cond b (Err g) (cond l (Err TooLong) (cond s (Err TooShort) (cond (ltb (length slice) n)
          (Err (Room n)) (Ok n))))))
      go false m b l s e = cc
      go true false b l s e = cc
      go true true true l s e = cc
      go true true false true s e = cc
      go true true false false true e = cc
      go true true false false false e = impossible (cc)

  -- the number of times that is answered
  pub times_number : {k : ℕ} → Ok k ≡ listed items xs ys (length slice) → k ≡ length (counted items (moments xs ys))
  unfolding listed
  times_number {k} e =
      go (eqb (item_outside items) 0) (eqb (length xs) (length ys)) (any_bad xs ys) (ltb (most_samples items.step
      items.ramp) (length xs)) (too_few items.ramp (length xs)) (ltb (length slice)
      (length (counted items (moments xs ys)))) (bad_sample (first_bad xs) (first_bad ys))
      (length (counted items (moments xs ys))) e
    where
      go : (i m b l s r : Bool) (g : Refusal) (n : ℕ)
          → Ok k ≡ cond (not i) (Err (Item (item_outside items))) (cond (not m) (Err Unequal)
          (cond b (Err g) (cond l (Err TooLong) (cond s (Err TooShort) (cond r (Err (Room n))
          (Ok n))))))
          → k ≡ n
      go false m b l s r g n e = impossible (cc)
      go true false b l s r g n e = impossible (cc)
      go true true true l s r g n e = impossible (cc)
      go true true false true s r g n e = impossible (cc)
      go true true false false true r g n e = impossible (cc)
      go true true false false false true g n e = impossible (cc)
      go true true false false false false g n e = cc

  module _ (f : Fitting items (length xs) (length ys)) where
    pub lists_bad : any_bad xs ys ≡ true → ListsTo items xs ys slice (Err (bad_sample (first_bad xs) (first_bad ys))) slice
    unfolding listed written
    lists_bad b = record { answers = rw (eq-eqb _ _ f.ranged, eq-eqb (length xs) (length ys) f.equal, b); leaves = refl }

    -- the times of the timed samples are the record's
    pub lists_good : any_bad xs ys ≡ false → {answer : (Result ℕ Refusal)} {after : List ℕ} →
        WritesTo (counted_times (unramped items.step items.levels items.decorrelation)
        (moments (drop items.ramp xs) (drop items.ramp ys))) slice answer after → ListsTo items xs ys slice
        answer after
    unfolding listed
    lists_good g {answer} {after} w =
        let p = moments xs ys in
        let t = timed_only items p (omega (arith, f.few, moments_length xs ys f.equal)) in
        let n : length (counted_times items p) ≡ length (counted items p) = length-map (counted items p) (time_at items.step items.ramp) in
        let v : WritesTo (counted_times items p) slice answer after = rw t (rw (moments_drop items.ramp xs ys) at w) in
        record { answers = rw (eq-eqb _ _ f.ranged, eq-eqb (length xs) (length ys) f.equal, g, le-ltb _ _ f.most, le-ltb _ _ f.few) (rw n at v.answers); leaves = v.leaves }
