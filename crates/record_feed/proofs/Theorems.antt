-- What the entries add up to: the user's second demand for one record. D is the step, R the ramp, a the levels, τ the
-- decorrelation time. Assumes nothing.
use Prim.Native.Nat.{◌≤◌, ◌<◌}
use mathlib.Core.Path.{◌≡◌, refl, sym, ◌∙◌}
use mathlib.Core.Bool.{true, false}
use mathlib.Core.List.{List, [], ◌∷◌, foldl}
use native.Mathlib.Omega.{arith}
use lib.ListN.{length}
use lib.IntN.{ℤ}
use Rattle.refusal.specs.declared.Refusal.TheVariants.{BrokenState}
use Rattle.crossing_sets.specs.Choice.{Apart, LargestSet}
use Rattle.crossing_sets.proofs.Walk.{walk_largest}
use Rattle.crossing_sets.specs.Groups.{near}
use Rattle.crossing_sets.specs.Parting.{Parting}
use Rattle.crossing_sets.proofs.Parting.{groups_part}
use Rattle.crossing_sets.proofs.Fewer.{fewer, firsts_apart}
use Rattle.sample_channels.specs.declared.Moment.{Moment}
use Rattle.sample_items.specs.declared.Items.{Items}
use Rattle.sample_channels.specs.Channels.{moments}
use Rattle.record_state.specs.declared.Record.{Record}
use Rattle.crossing_places.specs.Reading.{time_at, crosses_at, crossings, first_crossing, groups, counted, counted_times, largest_set}
use Rattle.record_state.specs.State.{state_of, sound, failed}
use Rattle.record_step.specs.Step.{stepped}
use Rattle.sample_range.specs.Range.{first_bad}
use Rattle.record_state.specs.Answers.{opened}
use Rattle.record_feed.specs.Answers.{fed}
use Rattle.record_feed.specs.Pieces.{Piece, AllTaken, end, piece, joined, samples_of, Even, none, more}
use Rattle.sample_channels.proofs.Moments.{moments_length}
use Rattle.sample_channels.proofs.Range.{all_in}
use Rattle.record_state.proofs.Relations.{kept_from}
use Rattle.record_state.proofs.Opening.{opened_taken, opened_sound}
use Rattle.record_step.proofs.Whole.{state}
use Rattle.record_feed.proofs.Fed.{taken, fed_taken, not_broken}
use Rattle.record_feed.proofs.Cutting.{run_sound, joins, splits}
use Rattle.crossing_places.proofs.First.{searched}
use Rattle.crossing_places.proofs.Places.{rising_passing, itself, apart_times}
use Rattle.std.specs.Prelude.{Ok, Err}

-- ---- what is handed out keeps the relations
pub fed_sound : (r : Record) (xs ys : List ℤ) (t : Record) → fed r xs ys ≡ Ok t → sound t ≡ true
fed_sound r xs ys t e =
    let m = taken r xs ys t e in
    rw (← m.end) (run_sound r (moments xs ys) m.state (all_in xs ys m.roll m.acceleration) (omega (arith, moments_length xs ys m.equal, m.room)))

pub all_sound : {r t : Record} {ps : List Piece} → sound r ≡ true → AllTaken r ps t → sound t ≡ true
all_sound s end = s
all_sound s (piece {r = r} {s = u} {p = p} e f) = all_sound (fed_sound r p.roll p.acceleration u e) f

-- ---- an empty piece for a sound record is taken and changes nothing
pub empty_taken : (r : Record) → sound r ≡ true → fed r [] [] ≡ Ok r
unfolding first_bad moments
empty_taken r s = fed_taken r [] [] s refl refl refl (omega (arith, (kept_from r s).length))

-- ---- pieces, each taken, cut anywhere: the joined list is taken as one piece and ends in the same state; and the other way round, both channels cut at the same places
pub join_taken : {r t : Record} {ps : List Piece} → sound r ≡ true → AllTaken r ps t → fed r (joined ps).roll (joined ps).acceleration ≡ Ok t
unfolding joined
join_taken s (end {r = r}) = empty_taken r s
join_taken s (piece {r = r} {s = u} {p = p} {ps = ps} e f) =
    joins r p.roll p.acceleration (joined ps).roll (joined ps).acceleration e (join_taken (fed_sound r p.roll p.acceleration u e) f)

pub every_cutting : (r : Record) (ps : List Piece) (t : Record) → Even ps → fed r (joined ps).roll (joined ps).acceleration ≡ Ok t → AllTaken r ps t
unfolding joined moments
every_cutting r [] t none e = rw (taken r [] [] t e).end end
every_cutting r (p ∷ ps) t (more i v) e =
    let h = splits r p.roll p.acceleration (joined ps).roll (joined ps).acceleration i e in
    piece h.0 (every_cutting (foldl stepped r (samples_of p)) ps t v h.1)

-- ---- the theorems on a record from its opening
module _ (items : Items) (s : Record) (fresh : opened items ≡ Ok s) where
  -- 1: pieces that are all taken end in the state of the joined list, whose figures are document 01's over that list
  pub pieces_whole : {ps : List Piece} {t : Record} → AllTaken s ps t → t ≡ state_of items (samples_of (joined ps))
  pieces_whole {ps} {t} f =
      let e = (taken s (joined ps).roll (joined ps).acceleration t (join_taken (opened_sound items s fresh) f)).end in
      sym e ∙ rw (← (opened_taken items s fresh).1) (state items (samples_of (joined ps)))

  -- 2: and none of their states is ever answered by refusal 8
  pub never_broken : {ps : List Piece} {t : Record} → AllTaken s ps t → (xs ys : List ℤ) → fed t xs ys ≡ Err BrokenState → ⊥
  never_broken {t = t} f xs ys = not_broken t xs ys (all_sound (opened_sound items s fresh) f)

-- 3: the groups are the crossings' runs, and never exceed the largest set; the counted times are pairwise at least τ
-- apart
module _ (items : Items) (xs : List Moment) where
  pub groups_parted : Parting (near (time_at items.step items.ramp) items.decorrelation) (crossings items.ramp items.levels xs) (groups items xs)
  groups_parted = groups_part (near (time_at items.step items.ramp) items.decorrelation) (crossings items.ramp items.levels xs)

  pub set_largest : LargestSet (time_at items.step items.ramp) items.decorrelation (crossings items.ramp items.levels xs) (largest_set items xs)
  set_largest = walk_largest (time_at items.step items.ramp) items.decorrelation (crossings items.ramp
      items.levels xs) (rising_passing items.step items.ramp (crosses_at items.ramp items.levels xs) 0
      (length xs))

  pub groups_fewer : length (groups items xs) ≤ length (largest_set items xs)
  groups_fewer = fewer (time_at items.step items.ramp) items.decorrelation (crossings items.ramp
      items.levels xs) (largest_set items xs) (rising_passing items.step items.ramp (crosses_at items.ramp
      items.levels xs) 0 (length xs)) set_largest

  pub times_apart : Apart itself items.decorrelation (counted_times items xs)
  times_apart = apart_times (time_at items.step items.ramp) items.decorrelation (counted items xs)
      (firsts_apart (time_at items.step items.ramp) items.decorrelation (crossings items.ramp
      items.levels xs) (rising_passing items.step items.ramp (crosses_at items.ramp items.levels xs) 0
      (length xs)))

-- 4: the place found by the search over a whole record is its state's first failure, and a mark outside the record if
-- that has none
module _ (items : Items) (xs : List Moment) where
  pub search_found : failed (state_of items xs) ≡ true → (first_crossing (length xs) items.ramp items.levels xs ≡ (state_of items xs).first) × ((state_of items xs).first < length xs)
  unfolding state_of
  search_found = (searched items.ramp items.levels xs).0

  pub search_none : failed (state_of items xs) ≡ false → first_crossing (length xs) items.ramp items.levels xs ≡ length xs
  unfolding state_of
  search_none = (searched items.ramp items.levels xs).1
