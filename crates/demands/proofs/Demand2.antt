-- Demand 2, read with document 02's [5] and [8]: a record's figures are those of its whole list of samples of both
-- channels, however it was cut into pieces; the counted failures are the groups of crossings, each listed by its first;
-- they never exceed the largest set of crossings pairwise at least the decorrelation time apart; and a campaign's
-- figures are document 000's over its list of records. So is a record's time; and pieces are cut anywhere from any
-- sound state on, an empty one changing nothing.  D is the step, R the ramp, a the levels and τ the decorrelation time.
-- The proof gathers what the crates `record_feed`, `record_list` and `campaign_state` show. Assumes nothing.
use mathlib.Core.Path.{◌≡◌, ap, ◌∙◌}
use mathlib.Core.Bool.{false, true}
use mathlib.Core.List.{List, [], ◌∷◌, map, ◌++◌}
use Prim.Native.Nat.{ℕ, ◌≤◌, ◌<◌}
use native.Mathlib.Omega.{arith}
use borrow.Author.Tests.{ltb-true, ne_eqb}
use lib.Dec.{ltb}
use lib.IntN.{ℤ}
use lib.ListN.{length, drop}
use Rattle.truth.proofs.Laws.{and-true}
use Rattle.refusal.specs.declared.Refusal.TheVariants.{BrokenState}
use Rattle.crossing_sets.specs.Choice.{Apart, LargestSet}
use Rattle.crossing_sets.specs.Groups.{firsts, near}
use Rattle.crossing_sets.specs.Parting.{Parting}
use Rattle.crossing_sets.proofs.Parting.{as_many, groups_only}
use Rattle.sample_channels.specs.declared.Moment.{Moment}
use Rattle.sample_items.specs.declared.Items.{Items}
use Rattle.sample_channels.specs.Channels.{moments}
use Rattle.crossing_places.specs.Reading.{counted_times, crosses_at, crossings, first_crossing, first_of}
use Rattle.crossing_places.specs.Reading.{full_time, groups, largest_set, time_at}
use Rattle.crossing_places.proofs.First.{head_passes}
use Rattle.crossing_places.proofs.Places.{itself}
use Rattle.record_list.specs.Answers.{ListsTo, written}
use Rattle.record_list.proofs.Answered.{times_number}
use Rattle.record_state.specs.declared.Record.{Record}
use Rattle.record_state.specs.Answers.{opened}
use Rattle.record_feed.specs.Answers.{fed}
use Rattle.record_feed.specs.Pieces.{AllTaken, Even, Piece, joined, samples_of}
use Rattle.record_state.specs.State.{failed, sound, state_of, whole_time}
use Rattle.record_end.specs.Result.{exposure_of}
use Rattle.record_state.proofs.Opening.{opened_sound}
use Rattle.record_feed.proofs.Theorems.{all_sound, empty_taken}
use Rattle.record_feed.proofs.Theorems.{every_cutting, groups_fewer, groups_parted, join_taken, never_broken, pieces_whole, search_found, search_none, set_largest, times_apart}
use Rattle.campaign_state.specs.declared.Campaign.{Campaign}
use Rattle.campaign_state.specs.Answers as campaigns
use Rattle.campaign_state.specs.Records.{AllEnded, campaign_of, censored_in, outcome}
use Rattle.campaign_state.specs.State.{censored}
use Rattle.campaign_state.proofs.Records.{censored_grown, grown_by_results}
use Rattle.std.specs.Prelude.{Ok, Err}

-- by a record's items: the moment of a place, and the places of the crossings among its samples
abbrev pub time_of : Items → ℕ → ℕ
time_of items = time_at items.step items.ramp

abbrev pub crossings_of : Items → List Moment → List ℕ
crossings_of items xs = crossings items.ramp items.levels xs

-- ---- the statement
-- a record opened as s and fed pieces, each taken, up to the state t; p is the joined record, channel by channel, and
-- xs its samples
pub record ReadsWhole (items : Items) (s t : Record) (p : Piece) (xs : List Moment) : Type 0 where
  -- crossings, groups, largest set, first failure, the places kept, n and the last sample are those of the joined
  -- record
  pub figures : t ≡ state_of items xs
  -- the groups part the crossings into runs, each crossing of a run but its first less than τ after the one just before
  -- it, the first of the next run not; no other parting does; the state has their number
  pub grouped : Parting (near (time_of items) items.decorrelation) (crossings_of items xs) (groups items xs)
  pub only : (gs : List (List ℕ))
      → Parting (near (time_of items) items.decorrelation) (crossings_of items xs) gs → gs ≡ groups items xs
  pub number : t.groups ≡ length (groups items xs)
  -- the largest set is a choice of the crossings, pairwise τ apart, and no such choice has more members; the state has
  -- their number
  pub largest : LargestSet (time_of items) items.decorrelation (crossings_of items xs) (largest_set items xs)
  pub set : t.largest ≡ length (largest_set items xs)
  -- which is never below that of the groups
  pub fewer : t.groups ≤ t.largest
  -- its time: the full time is that of the joined record, its exposure the time of the first crossing, or the full time
  -- if there is none
  pub full_time_lem : whole_time t ≡ full_time items.step items.ramp (length xs)
  pub exposed : (k : ℕ) (ks : List ℕ) → crossings_of items xs ≡ k ∷ ks → exposure_of t ≡ time_of items k
  pub unfailing : crossings_of items xs ≡ [] → exposure_of t ≡ full_time items.step items.ramp (length xs)
  -- any other cutting of the joined record, of both channels at the same places, is taken too, and ends in the same
  -- state
  pub cuttings : (qs : List Piece) → Even qs → joined qs ≡ p → AllTaken s qs t
  -- the state is never refused as broken
  pub unbroken : (us vs : List ℤ) → ¬ (fed t us vs ≡ Err BrokenState)

-- a record in the state r fed pieces, each taken, up to the state t
pub record Resumed (r : Record) (ps : List Piece) (t : Record) : Type 0 where
  pub as_one : fed r (joined ps).roll (joined ps).acceleration ≡ Ok t
  pub cut : (qs : List Piece) → Even qs → joined qs ≡ joined ps → AllTaken r qs t
  pub keeps : sound t ≡ true

pub record Demand2 : Type 0 where
  pub pieces : (items : Items) (s t : Record) (ps : List Piece) → opened items ≡ Ok s → AllTaken s ps t
      → ReadsWhole items s t (joined ps) (samples_of (joined ps))
  -- from any state that keeps the relations, opened here or not: an empty piece is taken and changes nothing; pieces
  -- that are all taken are taken as one, and in any other cutting of both channels at the same places, and end in the
  -- same state, which keeps them
  pub nothing : (r : Record) → sound r ≡ true → fed r [] [] ≡ Ok r
  pub resumed : (r t : Record) (ps : List Piece) → sound r ≡ true → AllTaken r ps t → Resumed r ps t
  -- the listed times are those of the groups' first crossings, as many as there are groups, and pairwise τ apart
  pub listed : (items : Items) (xs ys : List ℤ) (before after : List ℕ) (k : ℕ)
      → ListsTo items xs ys before (Ok k) after
      → (k ≡ length (groups items (moments xs ys)))
      × (after ≡ map (time_of items) (firsts (groups items (moments xs ys))) ++ drop k before)
  pub times : (items : Items) (xs : List Moment) → Apart itself items.decorrelation (counted_times items xs)
  -- the search finds the state's first failure, or the length of the record where there is none
  pub found : (items : Items) (xs : List Moment) → failed (state_of items xs) ≡ true
      → (first_crossing (length xs) items.ramp items.levels xs ≡ (state_of items xs).first)
      × ((state_of items xs).first < length xs)
  pub missed : (items : Items) (xs : List Moment) → failed (state_of items xs) ≡ false
      → first_crossing (length xs) items.ramp items.levels xs ≡ length xs
  -- records ended and their results entered, one after the other: the campaign's figures over the list of them, and its
  -- censored count by document 000's recurrence
  pub campaign : (q : ℕ) (c d : Campaign) (rs : List Record) → campaigns.opened q ≡ Ok c → AllEnded c rs d → d ≡ campaign_of q (map outcome rs)
  pub censored : (q : ℕ) (c d : Campaign) (rs : List Record) → campaigns.opened q ≡ Ok c → AllEnded c rs d → censored d ≡ censored_in (map outcome rs)

-- ---- the proof
number : (items : Items) (xs : List Moment) {t : Record} → t ≡ state_of items xs → t.groups ≡ length (groups items xs)
unfolding state_of
number items xs e = ap (λ (r : Record). r.groups) e

set : (items : Items) (xs : List Moment) {t : Record} → t ≡ state_of items xs → t.largest ≡ length (largest_set items xs)
unfolding state_of
set items xs e = ap (λ (r : Record). r.largest) e

-- no place of a crossing is 0, by which a state says that there is none
exposed : (items : Items) (xs : List Moment) {t : Record} → t ≡ state_of items xs
    → (k : ℕ) (ks : List ℕ) → crossings_of items xs ≡ k ∷ ks → exposure_of t ≡ time_of items k
unfolding state_of first_of
exposed items xs e k ks c =
    let h = head_passes (crosses_at items.ramp items.levels xs) 0 (length xs) k ks c in
    let l : items.ramp < k = ltb-true items.ramp k (and-true (ltb items.ramp k) _ h.0).0 in
    rw (e, c, ne_eqb k 0 (λ z. omega arith))

unfailing : (items : Items) (xs : List Moment) {t : Record} → t ≡ state_of items xs
    → crossings_of items xs ≡ [] → exposure_of t ≡ full_time items.step items.ramp (length xs)
unfolding state_of first_of
unfailing items xs e c = rw (e, c)

full_time_lem : (items : Items) (xs : List Moment) {t : Record} → t ≡ state_of items xs
    → whole_time t ≡ full_time items.step items.ramp (length xs)
unfolding state_of
full_time_lem items xs e = rw e

resumed : (r t : Record) (ps : List Piece) → sound r ≡ true → AllTaken r ps t → Resumed r ps t
resumed r t ps s f =
    let one = join_taken s f in
    record { as_one = one; cut = λ qs v j. every_cutting r qs t v (rw j one); keeps = all_sound s f }

lists : (items : Items) (xs ys : List ℤ) (before after : List ℕ) (k : ℕ) → ListsTo items xs ys before (Ok k) after
    → (k ≡ length (groups items (moments xs ys)))
    × (after ≡ map (time_of items) (firsts (groups items (moments xs ys))) ++ drop k before)
unfolding written
lists items xs ys before after k l = (
  times_number items xs ys before l.answers
      ∙ as_many (near (time_of items) items.decorrelation) (crossings_of items (moments xs ys)),
  l.leaves,
)

pub demand_2 : Demand2
demand_2 =
    record {
      pieces = λ items s t ps e f.
          let figures = pieces_whole items s e f in
          record {
            figures = figures;
            grouped = groups_parted items (samples_of (joined ps));
            only = groups_only (near (time_of items) items.decorrelation) (crossings_of items (samples_of (joined ps)));
            number = number items (samples_of (joined ps)) figures;
            largest = set_largest items (samples_of (joined ps));
            set = set items (samples_of (joined ps)) figures;
            fewer =
                rw (number items (samples_of (joined ps)) figures, set items (samples_of (joined ps)) figures)
                (groups_fewer items (samples_of (joined ps)));
            full_time_lem = full_time_lem items (samples_of (joined ps)) figures;
            exposed = exposed items (samples_of (joined ps)) figures;
            unfailing = unfailing items (samples_of (joined ps)) figures;
            cuttings = λ qs v j. every_cutting s qs t v (rw j (join_taken (opened_sound items s e) f));
            unbroken = never_broken items s e f;
          };
      nothing = empty_taken;
      resumed = resumed;
      listed = lists;
      times = times_apart;
      found = search_found;
      missed = search_none;
      campaign = grown_by_results;
      censored = λ q c d rs e a. rw (grown_by_results q c d rs e a) (censored_grown q (map outcome rs));
    }
