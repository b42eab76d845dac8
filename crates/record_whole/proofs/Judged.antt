-- What the answer tells its caller: a refusal is that of the tests; a record that fits has its items in range, slices
-- of equal length, and so many samples. Assumes nothing.
use Prim.Native.Nat.{ℕ, ◌+◌, ◌≤◌, ◌<◌}
use mathlib.Core.Path.{◌≡◌, refl}
use mathlib.Core.Bool.{Bool, true, false, cond, not, ◌&&◌}
use mathlib.Core.List.{List}
use lib.ListN.{length}
use lib.Dec.{ltb, leb, eqb}
use lib.IntN.{ℤ}
use borrow.Author.Tests.{leb-true, leb-false, eqb-true, ltb-false, le-leb, lt-ltb, eq-eqb, ne_eqb}
use Rattle.refusal.specs.declared.Refusal.{Refusal}
use Rattle.refusal.specs.declared.Refusal.TheVariants.{Item, TooLong, TooShort, Unequal}
use Rattle.truth.proofs.Laws.{and-true, both_true, impossible}
use Rattle.sample_items.specs.declared.Items.{Items}
use Rattle.sample_channels.specs.Channels.{any_bad, bad_sample}
use Rattle.sample_items.specs.Limits.{item_outside, most_samples}
use Rattle.sample_range.specs.Range.{first_bad}
use Rattle.crossing_places.specs.Reading.{too_few}
use Rattle.record_whole.specs.Tests.{tested, in_size, sized, Fitting}
use Rattle.std.specs.Prelude.{Ok, Err}

module _ (items : Items) (xs ys : List ℤ) where
  -- ---- the answers, one law for each
  pub sized_item : (item_outside items ≡ 0 → ⊥) → Err (Item (item_outside items)) ≡ sized items xs ys
  unfolding sized tested
  sized_item i = rw (ne_eqb _ 0 i)

  module _ (i : item_outside items ≡ 0) where
    pub sized_unequal : (length xs ≡ length ys → ⊥) → Err Unequal ≡ sized items xs ys
    unfolding sized tested
    sized_unequal h = rw (eq-eqb _ 0 i, ne_eqb (length xs) (length ys) h)

    module _ (l : length xs ≡ length ys) where
      pub sized_fits : (leb (length xs) (most_samples items.step items.ramp) && leb (items.ramp + 2) (length xs)) ≡ true → (Ok (tt {0})) ≡ sized items xs ys
      unfolding sized
      sized_fits s = rw (eq-eqb _ 0 i, eq-eqb (length xs) (length ys) l, s)

      -- one that does not fit is too long or too short, unless a sample is bad
      pub sized_fault : (leb (length xs) (most_samples items.step items.ramp) && leb (items.ramp + 2) (length xs)) ≡ false
          → cond (any_bad xs ys) (Err (bad_sample (first_bad xs) (first_bad ys)))
          (cond (ltb (most_samples items.step items.ramp) (length xs)) (Err TooLong)
          (Err TooShort)) ≡ sized items xs ys
      unfolding sized tested
      sized_fault s = rw (eq-eqb _ 0 i, eq-eqb (length xs) (length ys) l, s) (go (ltb (most_samples items.step items.ramp) (length xs)) refl)
        where
          go : (b : Bool) → ltb (most_samples items.step items.ramp) (length xs) ≡ b
              → cond (any_bad xs ys) (Err (bad_sample (first_bad xs) (first_bad ys))) (cond b (Err TooLong) (Err TooShort))
              ≡ cond (any_bad xs ys) (Err (bad_sample (first_bad xs) (first_bad ys))) (cond b (Err TooLong) (cond (too_few items.ramp (length xs)) (Err TooShort) (Ok (tt {0}))))
          go true e = refl
          go false e =
              let f : length xs < items.ramp + 2 = leb-false (items.ramp + 2) (length xs)
              (rw (le-leb (length xs) (most_samples items.step items.ramp)
              (ltb-false (most_samples items.step items.ramp) (length xs) e)) at s) in
              rw (lt-ltb (length xs) (items.ramp + 2) f)

  -- ---- and back from an answer
  pub refused_tested : (f : Refusal) → sized items xs ys ≡ Err f → tested items xs ys ≡ Err f
  unfolding sized
  refused_tested f = go (in_size items (length xs) (length ys))
    where
      go : (b : Bool) → cond b (Ok (tt {0})) (tested items xs ys) ≡ Err f → tested items xs ys ≡ Err f
      go true e = impossible (cc)
      go false e = e

  -- a record that passes all tests is in size
  sound_size : tested items xs ys ≡ (Ok (tt {0})) → in_size items (length xs) (length ys) ≡ true
  unfolding tested
  sound_size = go (eqb (item_outside items) 0) (eqb (length xs) (length ys)) (any_bad xs ys) (ltb (most_samples items.step items.ramp) (length xs)) (too_few items.ramp (length xs)) refl refl
    where
      go : (i m b l s : Bool) → ltb (most_samples items.step items.ramp) (length xs) ≡ l → too_few items.ramp (length xs) ≡ s
          → cond (not i) (Err (Item (item_outside items))) (cond (not m) (Err Unequal)
          (cond b (Err (bad_sample (first_bad xs) (first_bad ys))) (cond l (Err TooLong)
          (cond s (Err TooShort) (Ok (tt {0})))))) ≡ (Ok (tt {0}))
          → (i && (m && (leb (length xs) (most_samples items.step items.ramp) && leb (items.ramp + 2) (length xs)))) ≡ true
      go true true false false false q r e = both_true (le-leb (length xs) (most_samples items.step items.ramp)
          (ltb-false (most_samples items.step items.ramp) (length xs) q)) (le-leb (items.ramp + 2) (length xs)
          (ltb-false (length xs) (items.ramp + 2) r))
      go true true false false true q r e = impossible (cc)
      go true true false true s q r e = impossible (cc)
      go true true true l s q r e = impossible (cc)
      go true false b l s q r e = impossible (cc)
      go false m b l s q r e = impossible (cc)

  in_size_lem : in_size items (length xs) (length ys) ≡ true → Fitting items (length xs) (length ys)
  in_size_lem e =
      let i = and-true (eqb (item_outside items) 0) (eqb (length xs) (length ys) && (leb (length xs) (most_samples items.step items.ramp) && leb (items.ramp + 2) (length xs))) e in
      let m = and-true (eqb (length xs) (length ys)) (leb (length xs) (most_samples items.step items.ramp) && leb (items.ramp + 2) (length xs)) i.1 in
      let n = and-true (leb (length xs) (most_samples items.step items.ramp)) (leb (items.ramp + 2) (length xs)) m.1 in
      record { ranged = eqb-true _ 0 i.0; equal = eqb-true (length xs) (length ys) m.0; most = leb-true _ _ n.0; few = leb-true _ _ n.1 }

  pub fitting : sized items xs ys ≡ (Ok (tt {0})) → Fitting items (length xs) (length ys)
  unfolding sized
  fitting = go (in_size items (length xs) (length ys)) refl
    where
      go : (b : Bool) → in_size items (length xs) (length ys) ≡ b → cond b (Ok (tt {0})) (tested items xs ys) ≡ (Ok (tt {0})) → Fitting items (length xs) (length ys)
      go true e f = in_size_lem e
      go false e f = in_size_lem (sound_size f)
