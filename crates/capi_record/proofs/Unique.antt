-- Two answers that a promise allows are the same answer, with the same later contents of everything that was lent.
-- Assumes nothing.
use Prim.Native.Nat.{ℕ}
use mathlib.Core.Path.{◌≡◌}
use mathlib.Core.List.{List}
use lib.IntN.{ℤ}
use lib.ListN.{length}
use Rattle.truth.proofs.Unique.{settled}
use Rattle.sample_channels.specs.Channels.{moments}
use Rattle.crossing_places.specs.Reading.{first_crossing}
use Rattle.capi.specs.Told.{Told}
use Rattle.capi_record.specs.Told.{channel_fed, channel_listed, items_of, levels_of, record_ended, record_fed, record_listed, record_opened}

pub record_open_unique :
    (D R level lateral τ : ℕ) (s : List ℕ) (x y : Told)
    → x ≡ record_opened (items_of D R level τ lateral) s
    → y ≡ record_opened (items_of D R level τ lateral) s
    → x ≡ y
record_open_unique D R level lateral τ s x y = settled

-- what is told, and the channel
pub record_feed_unique : (s : List ℕ) (xs ys : List ℤ) (x y : Told) (j k : ℕ) → (x ≡ record_fed s xs ys)
    × (j ≡ channel_fed s xs ys) → (y ≡ record_fed s xs ys) × (k ≡ channel_fed s xs ys) → (x ≡ y) × (j ≡ k)
record_feed_unique s xs ys x y j k p q = (settled p.0 q.0, settled p.1 q.1)

pub record_end_unique : (s x : List ℕ) (a b : Told) → a ≡ record_ended s x → b ≡ record_ended s x → a ≡ b
record_end_unique s x a b = settled

module _ (D R level lateral τ : ℕ) (xs ys : List ℤ) (s : List ℕ) where
  -- what listing tells, and the channel
  abbrev Lists : Told → ℕ → Type 0
  Lists x j =
      (x ≡ record_listed (items_of D R level τ lateral) xs ys s) × (j ≡ channel_listed (items_of D R level τ lateral) xs ys s)

  pub record_list_unique : (x y : Told) (j k : ℕ) → Lists x j → Lists y k → (x ≡ y) × (j ≡ k)
  record_list_unique x y j k p q = (settled p.0 q.0, settled p.1 q.1)

pub record_first_crossing_unique :
    (R level lateral : ℕ) (xs ys : List ℤ) (x y : ℕ)
    → x ≡ first_crossing (length (moments xs ys)) R (levels_of level lateral) (moments xs ys)
    → y ≡ first_crossing (length (moments xs ys)) R (levels_of level lateral) (moments xs ys)
    → x ≡ y
record_first_crossing_unique R level lateral xs ys x y = settled
