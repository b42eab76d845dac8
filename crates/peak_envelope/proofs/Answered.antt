-- The answers, one law for each: what is answered, and what the slices hold then. Assumes nothing.
use Prim.Native.Nat.{ℕ, ◌≤◌, ◌<◌}
use mathlib.Core.Path.{◌≡◌, refl, ◌∙◌}
use mathlib.Core.Bool.{Bool, true, false, cond, not, ◌||◌}
use mathlib.Core.List.{List, map}
use native.Mathlib.Nat.{zero-add}
use native.Mathlib.Omega.{arith}
use lib.ListN.{length, length-map}
use lib.Seq.{sets, sets-eq}
use lib.Dec.{eqb, ltb}
use lib.IntN.{ℤ}
use borrow.Author.Tests.{eq-eqb, le-leb, lt-ltb, le-ltb, ltb-false}
use Rattle.truth.proofs.Laws.{impossible, neither}
use Rattle.refusal.specs.declared.Refusal.{Refusal}
use Rattle.refusal.specs.declared.Refusal.TheVariants.{Item, Sample, TooLong, TooShort, Room}
use Rattle.sample_items.specs.Limits.{most_samples}
use Rattle.sample_range.specs.Range.{first_bad}
use Rattle.crossing_places.specs.Reading.{too_few}
use Rattle.record_whole.specs.Tests.{tested}
use Rattle.record_whole.specs.Tests.{Fitting}
use Rattle.peak_groups.specs.declared.Peak.{Peak}
use Rattle.peak_groups.specs.Groups.{tops}
use Rattle.peak_groups.specs.Runs.{peaks}
use Rattle.peak_groups.specs.Peaks.{sum, kept, close, handed, short}
use Rattle.peak_machine.specs.Step.{size_of, moment_of}
use Rattle.peak_envelope.specs.Step.{chosen}
use Rattle.peak_envelope.specs.Answers.{unlevelled, item_asked, placed, found, written, HandsOut, FindsTo}
use Rattle.std.specs.Prelude.{Result, Ok, Err}

-- what a pass hands out with the peaks' own number and sum
pub chosen_kept : (n s D τ : ℕ) (xs : List ℤ) → n ≡ length (peaks D xs) → s ≡ sum (peaks D xs) → chosen n s D τ xs ≡ tops (close τ) (kept (peaks D xs))
unfolding chosen
chosen_kept n s D τ xs p q = rw (p, q)

module _ (l : List Peak) (sizes times : List ℕ) where
  pub no_room : short (length sizes) (length times) (length l) ≡ true → HandsOut l sizes times (Err (Room (length l))) sizes times
  unfolding placed written
  no_room e = record { answers = rw e; sizes_left = refl; times_left = refl }

  -- the figures, put from a slice's start on
  put : (f : Peak → ℕ) (slice : List ℕ) → length l ≤ length slice → sets slice 0 (map f l) ≡ written (Ok (length l)) (map f l) slice
  unfolding written
  put f slice k = let m = length-map l f in sets-eq (map f l) slice 0 (omega arith) ∙ rw (zero-add, m)

  pub all_placed : short (length sizes) (length times) (length l) ≡ false → HandsOut l sizes times (Ok (length l)) (sets sizes 0 (map size_of l)) (sets times 0 (map moment_of l))
  unfolding placed
  all_placed e =
      let o = neither (ltb (length sizes) (length l)) (ltb (length times) (length l)) e in
      record { answers = rw e; sizes_left = put size_of sizes (ltb-false _ _ o.0); times_left = put moment_of times (ltb-false _ _ o.1) }

-- one channel looked at as both
twice : (b : Bool) → (b || b) ≡ b
twice true = refl
twice false = refl

-- ---- the whole call
module _ (D R τ : ℕ) (xs : List ℤ) (sizes times : List ℕ) where
  -- a refusal of the tests that listing has
  pub finds_refused : (f : Refusal) → tested (unlevelled D R τ) xs xs ≡ Err f → FindsTo D R τ xs sizes times (Err f) sizes times
  unfolding tested found written
  finds_refused f e = record {
    answers = go (eqb (item_asked D R τ) 0) (ltb (first_bad xs) (length xs))
        (ltb (most_samples D R) (length xs)) (too_few R (length xs)) (rw (
          eq-eqb (length xs) (length xs) refl,
          twice (ltb (first_bad xs) (length xs)),
          le-leb (first_bad xs) (first_bad xs) (omega arith),
        ) at e);
    sizes_left =
        refl;
    times_left = refl;
  }
    where
      go : (i b l s : Bool)
          → cond (not i) (Err (Item (item_asked D R τ))) (cond b (Err (Sample (first_bad xs)))
          (cond l (Err TooLong) (cond s (Err TooShort) (Ok (tt {0}))))) ≡ Err f
          → Err f ≡ cond (not i) (Err (Item (item_asked D R τ))) (cond b (Err (Sample (first_bad xs)))
          (cond l (Err TooLong) (cond s (Err TooShort) (placed (length sizes) (length times)
          (length (handed D R τ xs))))))
      go false b l s e = cc
      go true true l s e = cc
      go true false true s e = cc
      go true false false true e = cc
      go true false false false e = impossible (cc)

  module _ (f : Fitting (unlevelled D R τ) (length xs) (length xs)) where
    pub finds_bad : first_bad xs < length xs → FindsTo D R τ xs sizes times (Err (Sample (first_bad xs))) sizes times
    unfolding found written
    finds_bad b = record { answers = rw (eq-eqb _ _ f.ranged, lt-ltb _ _ b); sizes_left = refl; times_left = refl }

    -- what the timed samples hand out is the record's
    pub finds_good : length xs ≤ first_bad xs → {answer : (Result ℕ Refusal)} {sizesAfter timesAfter : List ℕ} →
        HandsOut (handed D R τ xs) sizes times answer sizesAfter timesAfter → FindsTo D R τ xs sizes times answer
        sizesAfter timesAfter
    unfolding found
    finds_good g h = record { answers = rw (eq-eqb _ _ f.ranged, le-ltb _ _ g, le-ltb _ _ f.most, le-ltb _ _ f.few) h.answers; sizes_left = h.sizes_left; times_left = h.times_left }
