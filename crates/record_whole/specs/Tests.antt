-- Document 01, "Refusal numbers", with document 02's [8]: a whole record at once, xs of the roll and ys of the
-- acceleration, is tested for 1, 12, 2, 3, 4, in that order. Assumes nothing.
use Rattle.std.specs.Prelude.{ℕ, ◌≡◌, ◌+◌, ◌≤◌, Bool, cond, not, ◌&&◌, List, length, ltb, leb, eqb, ℤ, Result, Ok, Err}
use Rattle.refusal.specs.declared.Refusal.{Refusal}
use Rattle.refusal.specs.declared.Refusal.TheVariants.{Item, TooLong, TooShort, Unequal}
use Rattle.sample_items.specs.declared.Items.{Items}
use Rattle.sample_channels.specs.Channels.{any_bad, bad_sample}
use Rattle.sample_items.specs.Limits.{item_outside, most_samples}
use Rattle.sample_range.specs.Range.{first_bad}
use Rattle.crossing_places.specs.Reading.{too_few}

-- ---- whatever is answered of a whole record: the refusal of the first test that holds, or else what follows
-- 1 for an item, 0 where none is outside its range
abbrev pub item_then : {A : Type 0} → (Refusal → A) → ℕ → A → A
item_then refuse item rest = cond (not (eqb item 0)) (refuse (Item item)) rest

-- 3, 4 for n samples
abbrev pub length_then : {A : Type 0} → (Refusal → A) → ℕ → ℕ → ℕ → A → A
length_then refuse D R n rest = cond (ltb (most_samples D R) n) (refuse TooLong) (cond (too_few R n) (refuse TooShort) rest)

-- 1, 12, 2, 3, 4
abbrev pub tests_then : {A : Type 0} → (Refusal → A) → Items → List ℤ → List ℤ → A → A
tests_then refuse items xs ys rest =
    item_then refuse (item_outside items)
    (cond (not (eqb (length xs) (length ys))) (refuse Unequal)
    (cond (any_bad xs ys) (refuse (bad_sample (first_bad xs) (first_bad ys)))
    (length_then refuse items.step items.ramp (length xs) rest)))

-- ---- the tests alone
unfoldable pub tested : Items → List ℤ → List ℤ → Result (Unit {0}) Refusal
tested items xs ys = tests_then Err items xs ys (Ok tt)

-- the items are in range, the slices are equally long, and n samples are neither too many nor too few
abbrev pub in_size : Items → ℕ → ℕ → Bool
in_size items n m =
    eqb (item_outside items) 0
    && (eqb n m && (leb n (most_samples items.step items.ramp) && leb (items.ramp + 2) n))

-- what is said before the samples are read: that the record fits, or its refusal
unfoldable pub sized : Items → List ℤ → List ℤ → Result (Unit {0}) Refusal
sized items xs ys = cond (in_size items (length xs) (length ys)) (Ok tt) (tested items xs ys)

-- what an answer that the record fits tells: items in range, slices of equal length, and so many samples
pub record Fitting (items : Items) (n m : ℕ) : Type 0 where
  pub ranged : item_outside items ≡ 0
  pub equal : n ≡ m
  pub most : n ≤ most_samples items.step items.ramp
  pub few : items.ramp + 2 ≤ n
