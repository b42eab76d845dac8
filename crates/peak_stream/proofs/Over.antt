-- The answers of a second pass to a piece, one law for each, and that no piece is refused while the record has room
-- and the slices have a place for each sample. Assumes nothing.
use Prim.Native.Nat.{ℕ, ◌+◌, ◌≤◌, ◌<◌}
use mathlib.Core.Path.{◌≡◌, refl, ◌∙◌}
use mathlib.Core.Bool.{true, false}
use mathlib.Core.List.{List, map, foldl}
use native.Mathlib.Nat.{zero-add}
use native.Mathlib.Omega.{arith}
use lib.ListN.{length, length-map}
use lib.Seq.{sets, sets-eq}
use lib.Dec.{ltb}
use lib.IntN.{ℤ}
use borrow.Author.Tests.{le-ltb, lt-ltb, ltb-false}
use Rattle.truth.proofs.Laws.{neither}
use Rattle.refusal.specs.declared.Refusal.TheVariants.{TooLong, Room, BrokenState}
use Rattle.peak_groups.specs.declared.Peak.{Peak}
use Rattle.sample_items.specs.Limits.{most_in_range}
use Rattle.peak_groups.specs.Peaks.{short}
use Rattle.peak_machine.specs.Step.{size_of, moment_of}
use Rattle.peak_stream.specs.declared.Handing.{Handing}
use Rattle.peak_stream.specs.Hands.{moved, closed_by, ready, hands_on, noted, HandsOver}
use Rattle.peak_stream.proofs.Coming.{closed_few}
use Rattle.std.specs.Prelude.{Ok, Err}

module _ (h : Handing) (xs : List ℤ) (sizes times : List ℕ) where
  abbrev most : ℕ
  most = most_in_range h.reading.step 0

  pub over_broken : ready h ≡ false → HandsOver h xs sizes times (Err BrokenState) sizes times
  unfolding hands_on noted
  over_broken e = record { answers = rw e; few = closed_few h xs; sizes_left = refl; times_left = refl }

  module _ (e : ready h ≡ true) where
    pub over_long : most < h.reading.n + length xs → HandsOver h xs sizes times (Err TooLong) sizes times
    unfolding hands_on noted
    over_long l = record { answers = rw (e, lt-ltb most (h.reading.n + length xs) l); few = closed_few h xs; sizes_left = refl; times_left = refl }

    module _ (l : h.reading.n + length xs ≤ most) where
      pub over_short : short (length sizes) (length times) (length xs) ≡ true → HandsOver h xs sizes times (Err (Room (length xs))) sizes times
      unfolding hands_on noted
      over_short k = record { answers = rw (e, le-ltb most (h.reading.n + length xs) l, k); few = closed_few h xs; sizes_left = refl; times_left = refl }

      pub no_refusal : short (length sizes) (length times) (length xs) ≡ false → Ok (foldl moved h xs, length (closed_by h xs)) ≡ hands_on h xs (length sizes) (length times)
      unfolding hands_on
      no_refusal k = rw (e, le-ltb most (h.reading.n + length xs) l, k)

      module _ (k : short (length sizes) (length times) (length xs) ≡ false) where
        abbrev g : List Peak
        g = closed_by h xs

        -- the figures, put from a slice's start on
        put : (f : Peak → ℕ) (slice : List ℕ) → length g ≤ length slice → sets slice 0 (map f g) ≡ noted (Ok (foldl moved h xs, length g)) (map f g) slice
        unfolding noted
        put f slice j = let m = length-map g f in sets-eq (map f g) slice 0 (omega arith) ∙ rw (zero-add, m)

        taken : HandsOver h xs sizes times (Ok (foldl moved h xs, length g)) (sets sizes 0 (map size_of g)) (sets times 0 (map moment_of g))
        taken =
            let o = neither (ltb (length sizes) (length xs)) (ltb (length times) (length xs)) k in
            let w = closed_few h xs in
            record {
              answers = no_refusal k;
              few = w;
              sizes_left = put size_of sizes (omega (arith, w, ltb-false (length sizes) (length xs) o.0));
              times_left = put moment_of times (omega (arith, w, ltb-false (length times) (length xs) o.1));
            }

        pub over_taken : {f : Handing} {n : ℕ} {sizesAfter timesAfter : List ℕ} → f ≡ foldl moved h xs → n ≡ length g
            → sizesAfter ≡ sets sizes 0 (map size_of g) → timesAfter ≡ sets times 0 (map moment_of g)
            → HandsOver h xs sizes times (Ok (f, n)) sizesAfter timesAfter
        over_taken a b c d = rw (a, b, c, d) taken
