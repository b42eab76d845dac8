-- Document 02, [4]: closing is two steps. Where neither state is broken, ending a record and then entering its result
-- is the old closing, whose definition stays here for this statement alone; a result that ending gives is never refused
-- as broken; entering reads only the exposure and whether there is a first failure. Demand 1 has the order of refusals
-- of each step, and demand 2 the campaign that results build. Assumes nothing.
use mathlib.Core.Path.{◌≡◌, ap, refl}
use mathlib.Core.Bool.{Bool, cond, false, not, true}
use mathlib.Core.List.{List, [], ◌∷◌}
use Prim.Native.Nat.{ℕ, zero, suc, ◌+◌, ◌-◌, ◌*◌, ◌<◌}
use native.Mathlib.Omega.{arith}
use borrow.Author.Tests.{le-leb, ltb-true, ne_eqb}
use lib.ListN.{length}
use lib.Dec.{eqb, ltb}
use Rattle.truth.proofs.Cases.{by_test}
use Rattle.truth.proofs.Laws.{and-true}
use Rattle.refusal.specs.declared.Refusal.TheVariants.{BrokenState, TooShort}
use Rattle.sample_items.specs.Limits.{longest_time}
use Rattle.sample_items.specs.declared.Items.{Items}
use Rattle.sample_channels.specs.declared.Moment.{Moment}
use Rattle.crossing_places.specs.Reading.{crosses_at, first_of, groups, largest_set, passing}
use Rattle.record_state.specs.Answers.{opened}
use Rattle.record_feed.specs.Pieces.{AllTaken, Piece, joined, samples_of}
use Rattle.record_feed.proofs.Theorems.{pieces_whole}
use Rattle.record_state.specs.State.{failed, state_of, too_short}
use Rattle.record_state.specs.State as reading
use Rattle.record_state.specs.declared.Record.{Record}
use Rattle.record_end.specs.Result.{ending, exposure_of, outcome_of, result_of}
use Rattle.record_end.specs.declared.RecordResult.{RecordResult}
use Rattle.record_end.proofs.Given.{exposure_bounds, given, given_bounds}
use Rattle.campaign_state.specs.Answers.{entering, outcome_kept, taken}
use Rattle.campaign_state.specs.State.{sound}
use Rattle.campaign_state.specs.declared.Campaign.{Campaign}
use Rattle.demands.proofs.Demand2.{crossings_of}
use Rattle.refusal.specs.declared.Refusal.{Refusal}
use Rattle.std.specs.Prelude.{Result, Ok, Err}

-- ---- the statement
-- the old closing: 8 (either state), 4, 5, 6
abbrev closing : Record → Campaign → Result Campaign Refusal
closing r c =
    cond (not (reading.sound r)) (Err BrokenState)
    (cond (not (sound c)) (Err BrokenState)
    (cond (too_short r) (Err TooShort)
    (taken c (failed r) (exposure_of r))))

-- the second step after the first
abbrev onward : Campaign → Result RecordResult Refusal → Result Campaign Refusal
onward c (Ok x) = entering c (outcome_of x)
onward c (Err f) = Err f

-- the result of an ended record is that of its samples xs: the number of crossings, that of the groups, that of the
-- largest set, and the first crossing with its time, or no place and the full time
pub record EndsAs (items : Items) (xs : List Moment) (x : RecordResult) : Type 0 where
  pub crossed : x.crossings ≡ length (crossings_of items xs)
  pub counted : x.counted ≡ length (groups items xs)
  pub largest : x.largest ≡ length (largest_set items xs)
  pub failed : (i : ℕ) (later : List ℕ) → crossings_of items xs ≡ i ∷ later
      → (x.first ≡ i) × (items.ramp < i) × (x.exposure ≡ (i - items.ramp) * items.step)
  pub lasted : crossings_of items xs ≡ [] → (x.first ≡ 0) × (x.exposure ≡ (length xs - 1 - items.ramp) * items.step)

pub record Request4 : Type 0 where
  -- what the clerk sees of a record that was opened and fed, however it was cut
  pub of_samples : (items : Items) (s t : Record) (ps : List Piece) (x : RecordResult)
      → opened items ≡ Ok s → AllTaken s ps t → ending t ≡ Ok x
      → EndsAs items (samples_of (joined ps)) x
  pub in_two : (r : Record) (c : Campaign) → reading.sound r ≡ true → sound c ≡ true → onward c (ending r) ≡ closing r c
  pub unbroken : (r : Record) (x : RecordResult) → ending r ≡ Ok x → outcome_kept (outcome_of x) ≡ true
  pub alike : (c : Campaign) (x y : RecordResult) → x.exposure ≡ y.exposure → eqb x.first 0 ≡ eqb y.first 0 → entering c (outcome_of x) ≡ entering c (outcome_of y)
  -- what the clerk sees are the record's own figures
  pub seen : (r : Record) (x : RecordResult) → ending r ≡ Ok x → x ≡ result_of r

-- ---- the proof
two : (r : Record) (c : Campaign) → reading.sound r ≡ true → sound c ≡ true → onward c (ending r) ≡ closing r c
unfolding ending entering
two r c s k = rw (s, k) (go (too_short r) refl)
  where
    go : (b : Bool) → too_short r ≡ b → onward c (cond b (Err TooShort) (Ok (result_of r))) ≡ cond b (Err TooShort) (taken c (failed r) (exposure_of r))
    go true e = refl
    go false e = let t = exposure_bounds r s e in rw (k, le-leb 1 (exposure_of r) t.0, le-leb (exposure_of r) longest_time t.1)

-- the first number that passes a test passes it
passes : (f : ℕ → Bool) (k n i : ℕ) (later : List ℕ) → passing f k n ≡ i ∷ later → f i ≡ true
unfolding passing first_of
passes f k zero i later e = let z : 0 ≡ length (i ∷ later) = ap (λ (l : List ℕ). length l) e in absurd (omega arith)
passes f k (suc n) i later e =
    by_test (f k)
    (λ t. let same : k ≡ i = ap (first_of 0) (rw t at e) in rw (← same) t)
    (λ t. passes f (k + 1) n i later (rw t at e))

module _ (items : Items) (xs : List Moment) where
  crossed_above : (i : ℕ) (later : List ℕ) → crossings_of items xs ≡ i ∷ later → items.ramp < i
  crossed_above i later e = ltb-true items.ramp i (and-true (ltb items.ramp i) _ (passes (crosses_at items.ramp items.levels xs) 0 (length xs) i later e)).0

  ends_as : EndsAs items xs (result_of (state_of items xs))
  unfolding state_of first_of
  ends_as =
      record {
        crossed = refl;
        counted = refl;
        largest = refl;
        failed = λ i later e. let up = crossed_above i later e in rw (e, ne_eqb i 0 (λ z. omega arith)) (refl, up, refl);
        lasted = λ e. rw e (refl, refl);
      }

pub request_4 : Request4
request_4 =
    record {
      of_samples = λ items s t ps x o f e. rw ((given t x e).is, pieces_whole items s o f) (ends_as items (samples_of (joined ps)));
      in_two = two;
      unbroken = λ r x e. let t = given_bounds r x e in rw (le-leb 1 x.exposure t.0, le-leb x.exposure longest_time t.1);
      alike = λ c x y t f. rw (t, f);
      seen = λ r x e. (given r x e).is;
    }
