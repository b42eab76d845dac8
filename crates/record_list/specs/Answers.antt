-- What listing answers and leaves: document 01, "Refusal numbers", with document 02's [8], in the order of refusals.
-- Assumes nothing.
use Rattle.std.specs.Prelude.{ℕ, ◌≡◌, cond, true, false, List, ◌++◌, length, drop, ltb, ℤ, Option, Some, None, Result, Ok, Err}
use Rattle.refusal.specs.declared.Refusal.TheVariants.{Room}
use Rattle.sample_channels.specs.declared.Levels.{Levels}
use Rattle.sample_items.specs.declared.Items.{Items}
use Rattle.sample_channels.specs.Channels.{moments, any_bad}
use Rattle.crossing_places.specs.Reading.{counted, counted_times, unramped}
use Rattle.record_whole.specs.Tests.{tests_then}
use Rattle.refusal.specs.declared.Refusal.{Refusal}

-- Listing takes a whole record at once, xs of the roll and ys of the acceleration, 1, 12, 2, 3, 4, 7: the number of
-- counted times, into a slice of so many places
unfoldable pub listed : Items → List ℤ → List ℤ → ℕ → Result ℕ Refusal
listed items xs ys places =
    tests_then Err items xs ys
    (cond (ltb places (length (counted items (moments xs ys)))) (Err (Room (length (counted items (moments xs ys)))))
    (Ok (length (counted items (moments xs ys)))))

-- the slice afterwards: the times in order from its start and the rest as it stood; on a refusal all as it stood
unfoldable pub written : Result ℕ Refusal → List ℕ → List ℕ → List ℕ
written (Ok k) times slice = times ++ drop k slice
written (Err f) times slice = slice

-- these times, written: 7 if there are more of them than places
pub record WritesTo (times before : List ℕ) (answer : Result ℕ Refusal) (after : List ℕ) : Type 0 where
  pub answers : answer ≡ cond (ltb (length before) (length times)) (Err (Room (length times))) (Ok (length times))
  pub leaves : after ≡ written answer times before

-- timed samples, listed; or one is bad, and the slice is as it was
abbrev pub SettlesTo : ℕ → Levels → ℕ → List ℤ → List ℤ → List ℕ → Option (Result ℕ Refusal) → List ℕ → Type 0
SettlesTo D a τ xs ys before (Some l) after =
    (any_bad xs ys ≡ false) × WritesTo (counted_times (unramped D a τ) (moments xs ys)) before l after
SettlesTo D a τ xs ys before None after = (any_bad xs ys ≡ true) × (after ≡ before)

-- what listing leaves: its answer, and the slice's whole later contents
pub record ListsTo (items : Items) (xs ys : List ℤ) (before : List ℕ) (answer : Result ℕ Refusal) (after : List ℕ) : Type 0 where
  pub answers : answer ≡ listed items xs ys (length before)
  pub leaves : after ≡ written answer (counted_times items (moments xs ys)) before
