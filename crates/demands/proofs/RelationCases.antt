-- Document 01, "Relations for 8", relation by relation, computed: a state that keeps all of them, and states in
-- which one alone is broken, just past where it holds. Relations has them for every state; here each
-- is a declaration of its own, so that one that is dropped or turned is told by name. Assumes nothing.
use mathlib.Core.Path.{◌≡◌, refl}
use mathlib.Core.Bool.{Bool, false, true}
use mathlib.Core.List.{List, [], ◌∷◌, map}
use Prim.Native.Nat.{ℕ}
use lib.IntN.{ℤ, pos, negsuc}
use Rattle.sample_channels.specs.declared.Moment.{Moment}
use Rattle.sample_items.specs.Limits.{item_outside}
use Rattle.record_state.specs.declared.Record.{Record}
use Rattle.record_state.specs.State.{sound}
use Rattle.campaign_state.specs.declared.Campaign.{Campaign}
use Rattle.campaign_state.specs.State as campaigning

-- ---- a record of n samples at R = 2, the last of them x, with so many crossings, so many in the largest set, the
-- places of the first crossing, of the largest set's last and of the last crossing, and so many groups
abbrev taking : ℕ → ℕ → ℤ → ℕ → ℕ → ℕ → ℕ → ℕ → ℕ → Record
taking D n x crossings largest first last_chosen last_crossing groups =
    record {
      items = record { step = D; ramp = 2; levels = record { roll = 1; acceleration = 1 }; decorrelation = 1 };
      n = n;
      last = record { roll = x; acceleration = pos 0 };
      crossings = crossings;
      largest = largest;
      first = first;
      last_chosen = last_chosen;
      last_crossing = last_crossing;
      groups = groups;
    }

-- nine samples, two crossings at 3 and 8, both in the largest set, each a group
abbrev holding : Record
holding = taking 1 9 (pos 5) 2 2 3 8 8 2

pub kept : sound holding ∷ sound (taking 1 0 (pos 0) 0 0 0 0 0 0) ∷ sound (taking 1 9 (pos 5) 0 0 0 0 0 0) ∷ []
    ≡ true ∷ true ∷ true ∷ []
unfolding sound item_outside
kept = refl

-- items in range
pub items_in_range : sound (taking 0 9 (pos 5) 2 2 3 8 8 2) ∷ sound (taking 10001 9 (pos 5) 2 2 3 8 8 2) ∷ []
    ≡ false ∷ false ∷ []
unfolding sound item_outside
items_in_range = refl

-- the last sample kept in range
pub last_in_range : map (λ (x : ℤ). sound (taking 1 9 x 2 2 3 8 8 2)) (pos 1000000 ∷ pos 1000001 ∷ negsuc 1000000 ∷ [])
    ≡ true ∷ false ∷ false ∷ []
unfolding sound item_outside
last_in_range = refl

-- and 0 while n is 0
pub last_before_first : sound (taking 1 0 (pos 1) 0 0 0 0 0 0) ≡ false
unfolding sound item_outside
last_before_first = refl

-- n within refusal 3's bound, which is 10,000,003 here
pub length_bound : map (λ (n : ℕ). sound (taking 1 n (pos 5) 2 2 3 8 8 2)) (10000003 ∷ 10000004 ∷ [])
    ≡ true ∷ false ∷ []
unfolding sound item_outside
length_bound = refl

-- counted at most crossings
pub counted_at_most : map (λ (k : ℕ). sound (taking 1 9 (pos 5) k 2 3 8 8 2)) (2 ∷ 1 ∷ []) ≡ true ∷ false ∷ []
unfolding sound item_outside
counted_at_most = refl

-- both 0 if there is no first failure, and places without a meaning yet hold 0
pub none_crossed : sound (taking 1 9 (pos 5) 1 0 0 0 0 0) ≡ false
unfolding sound item_outside
none_crossed = refl

pub none_counted : sound (taking 1 9 (pos 5) 1 1 0 0 0 0) ≡ false
unfolding sound item_outside
none_counted = refl

pub no_place : sound (taking 1 9 (pos 5) 0 0 0 8 0 0) ∷ sound (taking 1 9 (pos 5) 0 0 0 0 8 0) ∷ [] ≡ false ∷ false ∷ []
unfolding sound item_outside
no_place = refl

-- and neither is 0 where there is one
pub some_counted : sound (taking 1 9 (pos 5) 2 0 3 8 8 0) ≡ false
unfolding sound item_outside
some_counted = refl

-- crossings at most n - 1 - R, which is 6 here
pub crossings_at_most : map (λ (k : ℕ). sound (taking 1 9 (pos 5) k 2 3 8 8 2)) (6 ∷ 7 ∷ []) ≡ true ∷ false ∷ []
unfolding sound item_outside
crossings_at_most = refl

-- the first failure's place above R
pub first_above_ramp : map (λ (i : ℕ). sound (taking 1 9 (pos 5) 2 2 i 8 8 2)) (3 ∷ 2 ∷ []) ≡ true ∷ false ∷ []
unfolding sound item_outside
first_above_ramp = refl

-- and at most the last counted place
pub first_at_most_last : map (λ (i : ℕ). sound (taking 1 9 (pos 5) 2 2 i 7 8 2)) (7 ∷ 8 ∷ []) ≡ true ∷ false ∷ []
unfolding sound item_outside
first_at_most_last = refl

-- which is below n
pub last_below_n : map (λ (n : ℕ). sound (taking 1 n (pos 5) 2 2 3 8 8 2)) (9 ∷ 8 ∷ []) ≡ true ∷ false ∷ []
unfolding sound item_outside
last_below_n = refl

-- ---- a campaign: q, M, N, T, and whether the last record failed
abbrev stands : ℕ → ℕ → ℕ → ℕ → Bool → Bool
stands q M N T f = campaigning.sound (record { standard = q; records = M; failures = N; exposure = T; failed = f })

pub campaign_kept : stands 1 0 0 0 false ∷ stands 1 1 1 1 true ∷ stands 1 2 1 2 false ∷ stands 1 64 64 64 true ∷ []
    ≡ true ∷ true ∷ true ∷ true ∷ []
unfolding campaigning.sound
campaign_kept = refl

-- q in range
pub standard_in_range : map (λ (q : ℕ). stands q 2 1 2 true) (0 ∷ 1 ∷ 100000000000 ∷ 100000000001 ∷ [])
    ≡ false ∷ true ∷ true ∷ false ∷ []
unfolding campaigning.sound
standard_in_range = refl

-- M at most 100,000
pub records_at_most : map (λ (M : ℕ). stands 1 M 1 200000 true) (100000 ∷ 100001 ∷ []) ≡ true ∷ false ∷ []
unfolding campaigning.sound
records_at_most = refl

-- N at most 64
pub failures_at_most : map (λ (N : ℕ). stands 1 99 N 99 true) (64 ∷ 65 ∷ []) ≡ true ∷ false ∷ []
unfolding campaigning.sound
failures_at_most = refl

-- and at most M
pub failures_at_most_records : map (λ (N : ℕ). stands 1 2 N 9 true) (2 ∷ 3 ∷ []) ≡ true ∷ false ∷ []
unfolding campaigning.sound
failures_at_most_records = refl

-- T from M
pub exposure_from : map (λ (T : ℕ). stands 1 2 1 T true) (2 ∷ 1 ∷ []) ≡ true ∷ false ∷ []
unfolding campaigning.sound
exposure_from = refl

-- to M·10,000,000
pub exposure_to : map (λ (T : ℕ). stands 1 2 1 T true) (20000000 ∷ 20000001 ∷ []) ≡ true ∷ false ∷ []
unfolding campaigning.sound
exposure_to = refl

-- last record failed only if N ≥ 1
pub failed_with_one : map (λ (N : ℕ). stands 1 2 N 2 true) (1 ∷ 0 ∷ []) ≡ true ∷ false ∷ []
unfolding campaigning.sound
failed_with_one = refl

-- last record not failed and M ≥ 1 only if N < M
pub unfailed_with_fewer : map (λ (N : ℕ). stands 1 2 N 2 false) (1 ∷ 2 ∷ []) ≡ true ∷ false ∷ []
unfolding campaigning.sound
unfailed_with_fewer = refl

-- M = 0 only if the last didn't fail: with the relations above that is so anyway
pub empty_unfailed : stands 1 0 0 0 true ∷ stands 1 0 1 0 true ∷ [] ≡ false ∷ false ∷ []
unfolding campaigning.sound
empty_unfailed = refl

-- N = 64 only if the last failed
pub rows_with_failed : map (λ (f : Bool). stands 1 99 64 99 f) (true ∷ false ∷ []) ≡ true ∷ false ∷ []
unfolding campaigning.sound
rows_with_failed = refl
