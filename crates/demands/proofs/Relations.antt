-- "Relations for 8", relation by relation, as document 01 prints them, with those that document 02 adds ([5], [7],
-- [8], [9]): what is handed in is refused by 8 exactly if one of them is broken, for a record, a campaign, a result,
-- a sum and the table of two bureaus. The records below are the sentences in numbers; the definitions that the
-- entries' promises cite are tests.
--
-- The proof: each test holds exactly if the facts do, and the entry gives 8 exactly if the test fails (`exactly_8`).
-- Assumes nothing.
use mathlib.Core.Path.{◌≡◌, refl, sym, ap, ◌∙◌}
use mathlib.Core.Bool.{Bool, cond, false, not, true, ◌&&◌}
use mathlib.Core.List.{List, [], ◌∷◌, foldl}
use mathlib.Core.Logic.{◌⊎◌, inl, inr}
use Prim.Native.Nat.{ℕ, zero, suc, ◌+◌, ◌-◌, ◌*◌, ◌/◌, ◌≤◌, ◌<◌}
use native.Mathlib.Omega.{arith}
use borrow.Author.Tests.{eq-eqb, eqb-false, eqb-true, le-leb, leb-true, not-true}
use lib.Dec.{T, eqb, leb, ltb}
use lib.IntN.{ℤ, nat_abs}
use lib.ListN.{length}
use Rattle.truth.proofs.Cases.{by_test}
use Rattle.truth.proofs.Laws.{and-true, both_true, holds, impossible, is_true, true≢false}
use Rattle.refusal.specs.declared.Refusal.{Refusal}
use Rattle.refusal.specs.declared.Refusal.TheVariants.{Acceleration, BrokenState, CampaignFull, Item, RowsUsedUp}
use Rattle.refusal.specs.declared.Refusal.TheVariants.{Sample, SumFull, TooLong, TooShort, Unequal}
use Rattle.sample_channels.specs.declared.Levels.{Levels}
use Rattle.sample_channels.specs.Channels.{any_bad, moments}
use Rattle.sample_range.specs.Range.{first_bad, sample_in_range}
use Rattle.sample_items.specs.Limits.{decorrelation_in_range, item_outside, level_in_range, most_samples, ramp_in_range, step_in_range}
use Rattle.sample_items.specs.Limits.{within}
use Rattle.sample_items.proofs.Ranges.{high, low}
use Rattle.record_state.specs.State as recording
use Rattle.record_state.specs.declared.Record.{Record}
use Rattle.record_state.proofs.Relations as record-facts
use Rattle.record_feed.specs.Answers.{fed}
use Rattle.record_step.specs.Step.{stepped}
use Rattle.record_end.specs.Result.{ending, result_of}
use Rattle.record_end.specs.declared.Outcome.{Outcome}
use Rattle.record_end.specs.declared.RecordResult.{RecordResult}
use Rattle.campaign_state.specs.Answers.{entering, outcome_kept}
use Rattle.campaign_state.specs.State as campaigning
use Rattle.campaign_state.specs.declared.Campaign.{Campaign}
use Rattle.campaign_state.proofs.Relations as campaign-facts
use Rattle.campaign_verdict.specs.Answers as verdicts
use Rattle.campaign_verdict.specs.Figures.{rates_of, verdict_of}
use Rattle.binomial_sum.specs.Answers.{adding}
use Rattle.binomial_sum.specs.State as summing
use Rattle.binomial_sum.specs.declared.Sum.{Sum}
use Rattle.binomial_sum.proofs.Relations as sum-facts
use Rattle.binomial_bounds.specs.Answers as spreads
use Rattle.binomial_bounds.specs.Bounds.{bounds_of, rates_of as sumRates}
use Rattle.bureau_table.specs.declared.Ask.{Ask}
use Rattle.bureau_table.specs.declared.Place.{Place}
use Rattle.bureau_table.specs.Calls.{called}
use Rattle.bureau_table.specs.Table.{all_kept, at, free, is_bureau, jobs, kept, place_kept}
use Rattle.bureau_table.proofs.Places.{all-at}
use Rattle.bureau_table.proofs.Relations as table-facts
use Rattle.bureau_table.specs.declared.Reply.TheVariants.{Placed, Entered, Judged, Rated, Freed}
use Rattle.std.specs.Prelude.{Some, None, Ok, Err}

-- ---- the statement
-- a number from low to high
abbrev pub From : ℕ → ℕ → ℕ → Type 0
From low high x = (low ≤ x) × (x ≤ high)

-- a record
pub record RecordRelations (r : Record) : Type 0 where
  -- items in range
  pub step : From 1 10000 r.items.step
  pub ramp : r.items.ramp ≤ 1000000
  pub roll_level : From 1 1000000 r.items.levels.roll
  pub decorrelation : r.items.decorrelation ≤ 10000000
  pub acceleration_level : From 1 1000000 r.items.levels.acceleration
  -- the last samples in range, and 0 while n is 0
  pub last_roll : nat_abs r.last.roll ≤ 1000000
  pub last_acceleration : nat_abs r.last.acceleration ≤ 1000000
  pub fresh : r.n ≡ 0 → (nat_abs r.last.roll ≡ 0) × (nat_abs r.last.acceleration ≡ 0)
  -- n within refusal 3's bound
  pub length : r.n ≤ r.items.ramp + 1 + 10000000 / r.items.step
  -- the largest set at most the crossings; both 0 exactly if there is no first failure, and then all places and groups
  pub counted : r.largest ≤ r.crossings
  pub none : r.first ≡ 0 → (r.crossings ≡ 0) × (r.largest ≡ 0) × (r.last_chosen ≡ 0) × (r.last_crossing ≡ 0) × (r.groups ≡ 0)
  pub some : ¬ (r.first ≡ 0) → ¬ (r.crossings ≡ 0) × ¬ (r.largest ≡ 0)
  -- where there is one: crossings at most n - 1 - R, its place above R and at most the set's last, which is below n
  pub crossings : ¬ (r.first ≡ 0) → r.crossings ≤ r.n - 1 - r.items.ramp
  pub above : ¬ (r.first ≡ 0) → r.items.ramp < r.first
  pub ordered : ¬ (r.first ≡ 0) → r.first ≤ r.last_chosen
  pub below : ¬ (r.first ≡ 0) → r.last_chosen < r.n
  -- with any crossing: the last one's place below n and not before the set's last, groups from 1 to the set
  pub last_crossing : ¬ (r.crossings ≡ 0) → (r.last_chosen ≤ r.last_crossing) × (r.last_crossing < r.n)
  pub groups : ¬ (r.crossings ≡ 0) → From 1 r.largest r.groups

-- a campaign
pub record CampaignRelations (c : Campaign) : Type 0 where
  -- q in range; M at most 100,000; N at most 64 and at most M; T from M to M·10,000,000
  pub standard : From 1 100000000000 c.standard
  pub most : c.records ≤ 100000
  pub rows : c.failures ≤ 64
  pub within : c.failures ≤ c.records
  pub time : From c.records (c.records * 10000000) c.exposure
  -- last record failed only if N ≥ 1; not failed and M ≥ 1 only if N < M; M = 0 only if it didn't; N = 64 only if it
  -- did
  pub failed : c.failed ≡ true → 1 ≤ c.failures
  pub unfailed : c.failed ≡ false → 1 ≤ c.records → c.failures < c.records
  pub empty : c.records ≡ 0 → c.failed ≡ false
  pub full : c.failures ≡ 64 → c.failed ≡ true

-- a result: exposure from 1 to 10,000,000
abbrev pub ResultRelations : Outcome → Type 0
ResultRelations o = From 1 10000000 o.exposure

-- a sum: D, N and P in range, N at most P
pub record SumRelations (s : Sum) : Type 0 where
  pub step : From 1 10000 s.step
  pub failures : s.failures ≤ 10000
  pub samples : s.samples ≤ 100000000
  pub within : s.failures ≤ s.samples

-- the table: 32 places, each free and all zeros, or of bureau 1 or 2 with a campaign; at most 16 of each
abbrev pub PlaceRelations : Place → Type 0
PlaceRelations p = (p ≡ free) ⊎ (((p.owner ≡ 1) ⊎ (p.owner ≡ 2)) × CampaignRelations p.campaign)

pub record TableRelations (t : List Place) : Type 0 where
  pub places : length t ≡ 32
  pub each : (i : ℕ) → i < 32 → PlaceRelations (at t i)
  pub first : jobs 1 t ≤ 16
  pub second : jobs 2 t ≤ 16

-- the answer x is refusal 8 exactly if one of the relations is broken
pub record Exactly8 {A : Type 0} (refused : Refusal → A) (Relations : Type 0) (x : A) : Type 0 where
  pub broken : ¬ Relations → x ≡ refused BrokenState
  pub only_then : x ≡ refused BrokenState → ¬ Relations

pub record Relations8 : Type 0 where
  -- a record: a piece, ending
  pub feed : (r : Record) (xs ys : List ℤ) → Exactly8 Err (RecordRelations r) (fed r xs ys)
  pub end : (r : Record) → Exactly8 Err (RecordRelations r) (ending r)
  -- a campaign, and for entering a result: entering, verdict, rates, the censored count
  pub enter : (c : Campaign) (o : Outcome) → Exactly8 Err (CampaignRelations c × ResultRelations o) (entering c o)
  pub verdict : (c : Campaign) → Exactly8 Err (CampaignRelations c) (verdicts.judging c)
  pub rates : (c : Campaign) → Exactly8 Err (CampaignRelations c) (verdicts.rating c)
  pub censored : (c : Campaign) → Exactly8 Err (CampaignRelations c) (verdicts.counting c)
  -- a sum, and for adding a record: adding, bounds, rates
  pub add : (s : Sum) (r : Record) → Exactly8 Err (SumRelations s × RecordRelations r) (adding s r)
  pub bounds : (s : Sum) → Exactly8 Err (SumRelations s) (spreads.bounding s)
  pub sum_rates : (s : Sum) → Exactly8 Err (SumRelations s) (spreads.rating s)
  -- the table, first of all: every call finds it so (what else a call is refused by is `Request9.order`)
  pub table : (t : List Place) → (kept t ≡ true → TableRelations t) × (TableRelations t → kept t ≡ true)
  pub call : (t : List Place) (b : ℕ) (a : Ask) → ¬ TableRelations t → (called t b a).answer ≡ Err BrokenState

-- ---- the proof
-- a test that holds exactly if the facts do
abbrev Says : Bool → Type 0 → Type 0
Says b P = (b ≡ true → P) × (P → b ≡ true)

exactly_8 : {A : Type 0} (refused : Refusal → A) {P : Type 0} (b : Bool) (x : A) → Says b P
    → (b ≡ false → x ≡ refused BrokenState) → (x ≡ refused BrokenState → b ≡ false) → Exactly8 refused P x
exactly_8 refused {P} b x says f g =
    record { broken = λ n. f (not_so b (λ h. n (says.0 h))); only_then = λ e p. true≢false (sym (says.1 p) ∙ g e) }
  where
    not_so : (b : Bool) → ¬ (b ≡ true) → b ≡ false
    not_so true n = absurd (n refl)
    not_so false n = refl

both_say : {a b : Bool} {P Q : Type 0} → Says a P → Says b Q → Says (a && b) (P × Q)
both_say {a} {b} s t =
    (λ h. let k = and-true a b h in (s.0 k.0, t.0 k.1), λ p. both_true (s.1 p.0) (t.1 p.1))

-- of entries whose first test is 8, or first two
first_only : {A : Type 0} (refused : Refusal → A) (b : Bool) (x y : A) → x ≡ cond (not b) (refused BrokenState) y
    → ¬ (y ≡ refused BrokenState) → (b ≡ false → x ≡ refused BrokenState) × (x ≡ refused BrokenState → b ≡ false)
first_only refused true x y e n = (λ h. absurd (true≢false h), λ h. absurd (n (sym e ∙ h)))
first_only refused false x y e n = (λ h. e, λ h. refl)

turned : {A : Type 0} (b : Bool) (x y : A) → cond b x y ≡ cond (not b) y x
turned true x y = refl
turned false x y = refl

positive : {n : ℕ} → ¬ (n ≡ 0) → 1 ≤ n
positive h = omega arith

within_says : (l h x : ℕ) → Says (within l h x) (From l h x)
within_says l h x = (λ e. (low l h x e, high l h x e), λ p. both_true (le-leb l x p.0) (le-leb x h p.1))

-- ---- a record
five : (a b c d e : Bool) → ◌≡◌ {A = ℕ} (cond (not a) 1 (cond (not b) 2 (cond (not c) 3 (cond (not d) 4 (cond (not e) 6 0))))) 0
    → (a ≡ true) × (b ≡ true) × (c ≡ true) × (d ≡ true) × (e ≡ true)
five true true true true true z = (refl, refl, refl, refl, refl)
five false b c d e z = absurd (omega (arith, z))
five true false c d e z = absurd (omega (arith, z))
five true true false d e z = absurd (omega (arith, z))
five true true true false e z = absurd (omega (arith, z))
five true true true true false z = absurd (omega (arith, z))

module _ (r : Record) where
  in_range : item_outside r.items ≡ 0
      → (step_in_range r.items.step ≡ true) × (ramp_in_range r.items.ramp ≡ true) × (level_in_range r.items.levels.roll ≡ true)
      × (decorrelation_in_range r.items.decorrelation ≡ true) × (level_in_range r.items.levels.acceleration ≡ true)
  unfolding item_outside
  in_range = five _ _ _ _ _

  none_outside : RecordRelations r → item_outside r.items ≡ 0
  unfolding item_outside
  none_outside k =
      let d = (within_says 1 10000 r.items.step).1 k.step in
      let m = (within_says 0 1000000 r.items.ramp).1 (omega arith, k.ramp) in
      let a = (within_says 1 1000000 r.items.levels.roll).1 k.roll_level in
      let t = (within_says 0 10000000 r.items.decorrelation).1 (omega arith, k.decorrelation) in
      let b = (within_says 1 1000000 r.items.levels.acceleration).1 k.acceleration_level in
      rw (d, m, a, t, b)

  -- a first failure, or none: what holds in both cases
  module _ (l : r.largest ≤ r.crossings) where
    no_failure : record-facts.None r ⊎ record-facts.Failure r → r.first ≡ 0
        → (r.crossings ≡ 0) × (r.largest ≡ 0) × (r.last_chosen ≡ 0) × (r.last_crossing ≡ 0) × (r.groups ≡ 0)
    no_failure (inl n) z = (n.crossings, n.largest, n.last_chosen, n.last_crossing, n.groups)
    no_failure (inr f) z = absurd (omega (arith, f.above))

    failure : record-facts.None r ⊎ record-facts.Failure r → ¬ (r.first ≡ 0) → record-facts.Failure r
    failure (inl n) h = absurd (h n.first)
    failure (inr f) h = f

    crossed : record-facts.None r ⊎ record-facts.Failure r → ¬ (r.crossings ≡ 0) → record-facts.Failure r
    crossed (inl n) h = absurd (h n.crossings)
    crossed (inr f) h = f

  relations : record-facts.Kept r → RecordRelations r
  relations k =
      let i = in_range k.outside in
      let g = and-true (sample_in_range r.last.roll) (sample_in_range r.last.acceleration) k.range in
      let f = failure k.counts k.figures in
      let c = crossed k.counts k.figures in
      record {
        step = (within_says 1 10000 r.items.step).0 i.0;
        ramp = ((within_says 0 1000000 r.items.ramp).0 i.1).1;
        roll_level = (within_says 1 1000000 r.items.levels.roll).0 i.2;
        decorrelation = ((within_says 0 10000000 r.items.decorrelation).0 i.3).1;
        acceleration_level = (within_says 1 1000000 r.items.levels.acceleration).0 i.4;
        last_roll = leb-true _ 1000000 g.0;
        last_acceleration = leb-true _ 1000000 g.1;
        fresh = λ z.
            let e = and-true (eqb (nat_abs r.last.roll) 0) (eqb (nat_abs r.last.acceleration) 0) (k.fresh z) in
            (eqb-true _ 0 e.0, eqb-true _ 0 e.1);
        length = k.length;
        counted = k.counts;
        none = no_failure k.counts k.figures;
        some = λ h. (λ z. omega (arith, (f h).largest, k.counts), λ z. omega (arith, (f h).largest));
        crossings = λ h. (f h).crossings;
        above = λ h. (f h).above;
        ordered = λ h. (f h).ordered;
        below = λ h. (f h).below;
        last_crossing = λ h. ((c h).last_crossing, (c h).last_crossing_below);
        groups = λ h. ((c h).groups, (c h).within);
      }

  figures : RecordRelations r → (b : Bool) → eqb r.first 0 ≡ b → record-facts.None r ⊎ record-facts.Failure r
  figures k true e =
      let z = eqb-true r.first 0 e in
      let n = k.none z in
      inl (record { first = z; crossings = n.0; largest = n.1; last_chosen = n.2; last_crossing = n.3; groups = n.4 })
  figures k false e =
      let h = eqb-false r.first 0 e in
      let some = k.some h in
      let p = k.last_crossing some.0 in
      let g = k.groups some.0 in
      inr
      (record {
        largest = positive some.1;
        crossings = k.crossings h;
        above = k.above h;
        ordered = k.ordered h;
        below = k.below h;
        last_crossing = p.0;
        last_crossing_below = p.1;
        groups = g.0;
        within = g.1;
      })

  facts : RecordRelations r → record-facts.Kept r
  facts k =
      record {
        outside = none_outside k;
        range = both_true (le-leb _ 1000000 k.last_roll) (le-leb _ 1000000 k.last_acceleration);
        fresh = λ z. let e = k.fresh z in both_true (eq-eqb _ 0 e.0) (eq-eqb _ 0 e.1);
        length = k.length;
        counts = k.counted;
        figures = figures k (eqb r.first 0) refl;
      }

  record_says : Says (recording.sound r) (RecordRelations r)
  record_says = (λ e. relations (record-facts.kept_from r e), λ k. record-facts.kept_sound r (facts k))

-- ---- a campaign
holds_not : {b : Bool} → b ≡ false → T (not b)
holds_not e = rw e tt

not_holds : {b : Bool} → T (not b) → b ≡ false
not_holds {b} t = not-true b (is_true (not b) t)

module _ (c : Campaign) where
  campaign_says : Says (campaigning.sound c) (CampaignRelations c)
  campaign_says = (from, to)
    where
      from : campaigning.sound c ≡ true → CampaignRelations c
      from e =
          let k = campaign-facts.kept_from c (holds e) in
          record {
            standard = (k.standard_low, k.standard_high);
            most = k.records;
            rows = k.failures_rows;
            within = k.failures_records;
            time = (k.exposure_low, k.exposure_high);
            failed = λ h. k.failed (holds h);
            unfailed = λ h m. k.unfailed (holds_not h) m;
            empty = λ z. not_holds (k.empty z);
            full = λ z. is_true c.failed (k.full z);
          }

      to : CampaignRelations c → campaigning.sound c ≡ true
      to k =
          is_true _
          (campaign-facts.sound_from c
          (record {
            standard_low = k.standard.0;
            standard_high = k.standard.1;
            records = k.most;
            failures_rows = k.rows;
            failures_records = k.within;
            exposure_low = k.time.0;
            exposure_high = k.time.1;
            failed = λ h. k.failed (is_true c.failed h);
            unfailed = λ h m. k.unfailed (not_holds h) m;
            empty = λ z. holds_not (k.empty z);
            full = λ z. holds (k.full z);
          }))

-- ---- a sum
sum_says : (s : Sum) → Says (summing.sound s) (SumRelations s)
sum_says s = (from, to)
  where
    from : summing.sound s ≡ true → SumRelations s
    from e =
        let k = sum-facts.kept_from s (holds e) in
        record { step = (k.step_low, k.step-high); failures = k.failures; samples = k.samples; within = k.within }

    to : SumRelations s → summing.sound s ≡ true
    to k =
        is_true _
        (sum-facts.sound_from s
        (record {
          step_low = k.step.0;
          step-high = k.step.1;
          failures = k.failures;
          samples = k.samples;
          within = k.within;
        }))

-- ---- the table
place_says : (p : Place) → Says (place_kept p) (PlaceRelations p)
place_says p = (λ e. by_test (eqb p.owner 0) (λ z. inl (table-facts.free_is p e (eqb-true p.owner 0 z))) (from e), to)
  where
    from : place_kept p ≡ true → eqb p.owner 0 ≡ false → PlaceRelations p
    from e z =
        let k = and-true (is_bureau p.owner) (campaigning.sound p.campaign) (rw z at e) in
        let c = (campaign_says p.campaign).0 k.1 in
        table-facts.bureau_is p.owner k.0 (λ o. inr (inl o, c)) (λ o. inr (inr o, c))

    to : PlaceRelations p → place_kept p ≡ true
    to (inl e) = rw e
    to (inr (inl o, c)) = rw (o, (campaign_says p.campaign).1 c)
    to (inr (inr o, c)) = rw (o, (campaign_says p.campaign).1 c)

all_from : (t : List Place) → ((i : ℕ) → i < length t → place_kept (at t i) ≡ true) → all_kept t ≡ true
unfolding all_kept
all_from [] f = refl
all_from (p ∷ ps) f = both_true (f 0 (omega arith)) (all_from ps (λ i l. f (suc i) (omega arith)))

table_says : (t : List Place) → Says (kept t) (TableRelations t)
table_says t = (from, to)
  where
    from : kept t ≡ true → TableRelations t
    from e =
        let k = table-facts.kept_from t e in
        record {
          places = k.long;
          each = λ i l. (place_says (at t i)).0 (all-at t i k.all);
          first = k.first;
          second = k.second;
        }

    to : TableRelations t → kept t ≡ true
    to k =
        table-facts.kept_to t
        (record {
          long = k.places;
          all = all_from t (λ i l. (place_says (at t i)).1 (k.each i (omega (arith, k.places))));
          first = k.first;
          second = k.second;
        })

-- ---- no later test gives 8
fed_else : (a b c d : Bool) (p q : ℕ) (t : Record)
    → ¬ (cond a (Err Unequal) (cond b (Err (cond d (Sample p) (Acceleration q))) (cond c (Err TooLong) (Ok t)))
    ≡ Err BrokenState)
fed_else true b c d p q t e = impossible (cc)
fed_else false true c true p q t e = impossible (cc)
fed_else false true c false p q t e = impossible (cc)
fed_else false false true d p q t e = impossible (cc)
fed_else false false false d p q t e = impossible (cc)

end_else : (a : Bool) (x : RecordResult) → ¬ (cond a (Err TooShort) (Ok x) ≡ Err BrokenState)
end_else true x e = impossible (cc)
end_else false x e = impossible (cc)

enter_else : (a b : Bool) (c : Campaign)
    → ¬ (cond a (Err CampaignFull) (cond b (Err RowsUsedUp) (Ok c)) ≡ Err BrokenState)
enter_else true b c e = impossible (cc)
enter_else false true c e = impossible (cc)
enter_else false false c e = impossible (cc)

add_else : (a b c : Bool) (s : Sum)
    → ¬ (cond a (Err TooShort) (cond b (Err (Item 1)) (cond c (Err SumFull) (Ok s))) ≡ Err BrokenState)
add_else true b c s e = impossible (cc)
add_else false true c s e = impossible (cc)
add_else false false true s e = impossible (cc)
add_else false false false s e = impossible (cc)

-- two tests of 8 one after the other are one
two : {A : Type 0} (a b : Bool) (x y : A) → cond (not a) x (cond (not b) x y) ≡ cond (not (a && b)) x y
two true b x y = refl
two false b x y = refl

pub relations_8 : Relations8
unfolding fed ending entering adding verdicts.judging verdicts.rating verdicts.counting spreads.bounding spreads.rating called
relations_8 =
    record {
      feed = λ r xs ys.
          let f = first_only Err (recording.sound r) (fed r xs ys) _ refl
          (fed_else (not (eqb (length xs) (length ys))) (any_bad xs ys) (ltb (most_samples r.items.step r.items.ramp) (r.n + length xs))
          (leb (first_bad xs) (first_bad ys)) (first_bad xs) (first_bad ys) (foldl stepped r (moments xs ys))) in
          exactly_8 Err (recording.sound r) (fed r xs ys) (record_says r) f.0 f.1;
      end = λ r.
          let f = first_only Err (recording.sound r) (ending r) _ refl (end_else (recording.too_short r) (result_of r)) in
          exactly_8 Err (recording.sound r) (ending r) (record_says r) f.0 f.1;
      enter = λ c o.
          let b = campaigning.sound c && outcome_kept o in
          let f = first_only Err b (entering c o) _ (two (campaigning.sound c) (outcome_kept o) _ _)
          (enter_else (eqb c.records 100000) (eqb c.failures 64) (campaigning.entered c o.failed o.exposure)) in
          exactly_8 Err b (entering c o) (both_say (campaign_says c) (within_says 1 10000000 o.exposure)) f.0 f.1;
      verdict = λ c.
          let f = first_only Err (campaigning.sound c) (verdicts.judging c) (Ok (verdict_of c)) (turned (campaigning.sound c) _ _) (λ e. impossible (cc)) in
          exactly_8 Err (campaigning.sound c) (verdicts.judging c) (campaign_says c) f.0 f.1;
      rates = λ c.
          let f = first_only Err (campaigning.sound c) (verdicts.rating c) (Ok (cond (not (eqb c.records 0)) (Some (rates_of c)) None)) (turned (campaigning.sound c) _ _) (λ e. impossible (cc)) in
          exactly_8 Err (campaigning.sound c) (verdicts.rating c) (campaign_says c) f.0 f.1;
      censored = λ c.
          let f = first_only Err (campaigning.sound c) (verdicts.counting c) (Ok (campaigning.censored c)) (turned (campaigning.sound c) _ _) (λ e. impossible (cc)) in
          exactly_8 Err (campaigning.sound c) (verdicts.counting c) (campaign_says c) f.0 f.1;
      add = λ s r.
          let b = summing.sound s && recording.sound r in
          let f = first_only Err b (adding s r) _ (two (summing.sound s) (recording.sound r) _ _)
          (add_else (recording.too_short r) (not (eqb r.items.step s.step)) (summing.would_pass s r.groups (summing.timed r))
          (summing.grown s r.groups (summing.timed r))) in
          exactly_8 Err b (adding s r) (both_say (sum_says s) (record_says r)) f.0 f.1;
      bounds = λ s.
          let f = first_only Err (summing.sound s) (spreads.bounding s) (Ok (spreads.recorded s, bounds_of s)) (turned (summing.sound s) _ _) (λ e. impossible (cc)) in
          exactly_8 Err (summing.sound s) (spreads.bounding s) (sum_says s) f.0 f.1;
      sum_rates = λ s.
          let f = first_only Err (summing.sound s) (spreads.rating s) (Ok (cond (spreads.recorded s) (Some (sumRates s)) None)) (turned (summing.sound s) _ _) (λ e. impossible (cc)) in
          exactly_8 Err (summing.sound s) (spreads.rating s) (sum_says s) f.0 f.1;
      table = table_says;
      call = λ t b a n. go t b a (kept t) refl n;
    }
  where
    go : (t : List Place) (b : ℕ) (a : Ask) (k : Bool) → kept t ≡ k → ¬ TableRelations t → (called t b a).answer ≡ Err BrokenState
    go t b a true e n = absurd (n ((table_says t).0 e))
    go t b a false e n = rw e
