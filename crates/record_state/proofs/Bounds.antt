-- What follows from the relations of a sound state, whether it has a crossing or not: its items are in range, its
-- counts are at most n, its places lie between the ramp and n. Assumes nothing.
use Prim.Native.Nat.{ℕ, ◌≤◌}
use mathlib.Core.Path.{◌≡◌}
use mathlib.Core.Logic.{◌⊎◌, inl, inr}
use native.Mathlib.Omega.{arith}
use Rattle.record_state.specs.declared.Record.{Record}
use Rattle.sample_items.specs.Limits.{most_samples, most_in_range}
use Rattle.sample_items.proofs.Ranges.{WithinRanges, within_ranges, most_in_range_lem, most_small}
use Rattle.record_state.proofs.Relations.{None, Failure, Kept}

pub items_of : {r : Record} → Kept r → WithinRanges r.items
items_of {r} k = within_ranges r.items k.outside

-- the longest record, in samples
pub small : {r : Record} → Kept r → most_samples r.items.step r.items.ramp ≤ 11000001
small k = most_small (items_of k)

pub most_of : {r : Record} → Kept r → most_in_range r.items.step r.items.ramp ≡ most_samples r.items.step r.items.ramp
most_of {r} k = most_in_range_lem r.items k.outside

-- a state with a crossing has a first failure
pub failure : {r : Record} → Kept r → (r.crossings ≡ 0 → ⊥) → Failure r
failure {r} k h = go k.figures
  where
    go : None r ⊎ Failure r → Failure r
    go (inl n) = absurd (h n.crossings)
    go (inr f) = f

pub crossings_below : {r : Record} → Kept r → r.crossings ≤ r.n
crossings_below {r} k = go k.figures
  where
    go : None r ⊎ Failure r → r.crossings ≤ r.n
    go (inl n) = omega (arith, n.crossings)
    go (inr f) = omega (arith, f.crossings)

-- the last crossing's place is not before the largest set's last, and groups are within the largest set, whether there
-- is a crossing or not
pub last_crossing_after : {r : Record} → Kept r → r.last_chosen ≤ r.last_crossing
last_crossing_after {r} k = go k.figures
  where
    go : None r ⊎ Failure r → r.last_chosen ≤ r.last_crossing
    go (inl n) = omega (arith, n.last_chosen)
    go (inr f) = f.last_crossing

pub groups_within : {r : Record} → Kept r → r.groups ≤ r.largest
groups_within {r} k = go k.figures
  where
    go : None r ⊎ Failure r → r.groups ≤ r.largest
    go (inl n) = omega (arith, n.groups)
    go (inr f) = f.within

-- the place of an earlier crossing is between the ramp and n
pub record Earlier (r : Record) (p : ℕ) : Type 0 where
  pub within : p ≤ r.n
  pub timed : ¬ (r.crossings ≡ 0) → r.items.ramp ≤ p

pub last_chosen_earlier : {r : Record} → Kept r → Earlier r r.last_chosen
last_chosen_earlier {r} k = record { within = go k.figures; timed = λ h. let f = failure k h in omega (arith, f.above, f.ordered) }
  where
    go : None r ⊎ Failure r → r.last_chosen ≤ r.n
    go (inl n) = omega (arith, n.last_chosen)
    go (inr f) = omega (arith, f.below)

pub last_crossing_earlier : {r : Record} → Kept r → Earlier r r.last_crossing
last_crossing_earlier {r} k = record { within = go k.figures; timed = λ h. let f = failure k h in omega (arith, f.above, f.ordered, f.last_crossing) }
  where
    go : None r ⊎ Failure r → r.last_crossing ≤ r.n
    go (inl n) = omega (arith, n.last_crossing)
    go (inr f) = omega (arith, f.last_crossing_below)
