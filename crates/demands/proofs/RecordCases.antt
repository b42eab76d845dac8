-- Document 02, [4], [5], [7] and [8]: records, results and sums, computed of the definitions: each figure of a result,
-- the gap that parts two groups, each relation for 8 just kept and just broken, the half-width, the bounds and which
-- rate is which, and either channel. Each declaration has the name of its sentence. Assumes nothing.
use mathlib.Core.Path.{◌≡◌, refl}
use mathlib.Core.Bool.{Bool, false, true}
use mathlib.Core.List.{List, [], ◌∷◌, map}
use Prim.Native.Nat.{ℕ}
use lib.IntN.{ℤ, pos, negsuc}
use lib.ListN.{length}
use Rattle.refusal.specs.declared.Refusal.{Refusal}
use Rattle.refusal.specs.Numbers.{channel_of, number_of, value_of}
use Rattle.sample_items.specs.declared.Items.{Items}
use Rattle.sample_items.specs.Limits.{item_outside}
use Rattle.sample_range.specs.Range.{first_bad}
use Rattle.crossing_sets.specs.Walk.{later, walk}
use Rattle.crossing_sets.specs.Groups as grouping
use Rattle.sample_channels.specs.declared.Levels.{Levels}
use Rattle.sample_channels.specs.declared.Moment.{Moment}
use Rattle.sample_channels.specs.Channels.{above, moment, moments}
use Rattle.crossing_places.specs.Reading.{counted_times, first_of, groups, last_of, passing}
use Rattle.record_state.specs.declared.Record.{Record}
use Rattle.record_state.specs.State.{sound, state_of}
use Rattle.record_feed.specs.Answers as feeding
use Rattle.record_end.specs.declared.Outcome.{Outcome}
use Rattle.record_end.specs.declared.RecordResult.{RecordResult}
use Rattle.record_end.specs.Result.{ending, outcome_of}
use Rattle.campaign_state.specs.declared.Campaign.{Campaign}
use Rattle.campaign_state.specs.Answers.{entering}
use Rattle.campaign_state.specs.State as campaigning
use Rattle.binomial_sum.specs.declared.Sum.{Sum}
use Rattle.binomial_sum.specs.Answers as summing
use Rattle.binomial_sum.specs.Answers.{adding}
use Rattle.binomial_sum.specs.State as state
use Rattle.campaign_verdict.specs.declared.Rates.{Rates}
use Rattle.campaign_verdict.specs.Figures.{quotient, zero64}
use Rattle.binomial_bounds.specs.declared.Bounds.{Bounds}
use Rattle.binomial_bounds.specs.Answers.{recorded}
use Rattle.binomial_bounds.specs.Bounds.{bounds_of, rates_of}
use Rattle.binomial_bounds.specs.HalfWidth.{half_width}
use Rattle.root.specs.HalfWidth as root
use Rattle.root.specs.Root.{first_from}
use Rattle.std.specs.Prelude.{Result, Ok, Err}

-- ---- records
abbrev levels : ℕ → ℕ → Levels
levels a b = record { roll = a; acceleration = b }

abbrev quiet : List ℤ → List ℤ
quiet xs = map (λ (x : ℤ). pos 0) xs

-- a step of 500 ms and the usual levels, a ramp of R samples, a decorrelation time of τ ms
abbrev usual : ℕ → ℕ → Items
usual R τ = record { step = 500; ramp = R; levels = levels 40000 9810; decorrelation = τ }

-- 01's case A: three crossings, 1,000 ms apart
abbrev bobbing : List Moment
bobbing =
    let xs = pos 0 ∷ pos 41000 ∷ pos 39000 ∷ pos 41000 ∷ pos 39000 ∷ pos 41000 ∷ pos 0 ∷ [] in
    moments xs (quiet xs)

-- read with a ramp of R samples; with one of 2 the first crossing is in it, and two are left
abbrev read : ℕ → ℕ → List Moment → Record
read R τ xs = state_of (usual R τ) xs

abbrev of_ended : Result RecordResult Refusal → List ℕ
of_ended (Ok x) = x.crossings ∷ x.counted ∷ x.first ∷ x.exposure ∷ x.largest ∷ []
of_ended (Err r) = number_of r ∷ value_of r ∷ []

-- [4] crossings, count, first failure, exposure, and by [5] the largest set; with a ramp; without a failure; 4 for a
-- record without a full time
record_ended :
    of_ended (ending (read 0 2000 bobbing)) ∷ of_ended (ending (read 2 0 bobbing))
    ∷ of_ended (ending (read 0 2000 (moment (pos 0) (pos 0) ∷ moment (pos 0) (pos 0) ∷ moment (pos 0) (pos 0) ∷ [])))
    ∷ of_ended (ending (read 0 2000 (moment (pos 0) (pos 0) ∷ [])))
    ∷ []
    ≡ (3 ∷ 1 ∷ 1 ∷ 500 ∷ 2 ∷ []) ∷ (2 ∷ 2 ∷ 3 ∷ 500 ∷ 2 ∷ []) ∷ (0 ∷ 0 ∷ 0 ∷ 1000 ∷ 0 ∷ []) ∷ (4 ∷ 0 ∷ []) ∷ []
unfolding ending state_of sound item_outside moments passing first_of last_of walk later grouping.attach grouping.groups
record_ended = refl

-- [5] less than the decorrelation time: a gap of 1,000 ms parts at 1,000 and joins at 1,001; each group is
-- listed by its first crossing
groups_parted_at_the_gap :
    counted_times (usual 0 1000) bobbing ∷ counted_times (usual 0 1001) bobbing ∷ []
    ≡ (500 ∷ 1500 ∷ 2500 ∷ []) ∷ (500 ∷ []) ∷ []
unfolding moments passing grouping.attach grouping.groups grouping.firsts
groups_parted_at_the_gap = refl

-- a state of 9 samples with 4 crossings, of which the largest set has 3: the first at 2, the set's last at 5; the last
-- crossing's place and the groups
abbrev with : ℕ → ℕ → Record
with last_crossing groups =
    record {
      items = usual 1 0;
      n = 9;
      last = moment (pos 0) (pos 0);
      crossings = 4;
      largest = 3;
      first = 2;
      last_chosen = 5;
      last_crossing = last_crossing;
      groups = groups;
    }

-- the last crossing below n and not before the last counted one; groups from 1 to the largest set
groups_relations :
    sound (with 5 1) ∷ sound (with 8 3)
    ∷ sound (with 4 1) ∷ sound (with 9 1) ∷ sound (with 5 0) ∷ sound (with 5 4) ∷ []
    ≡ true ∷ true ∷ false ∷ false ∷ false ∷ false ∷ []
unfolding sound item_outside
groups_relations = refl

-- without a crossing; its levels and its last sample
abbrev still : ℕ → Levels → Moment → ℕ → ℕ → Record
still n a last last_crossing groups =
    record {
      items = record { step = 500; ramp = 1; levels = a; decorrelation = 0 };
      n = n;
      last = last;
      crossings = 0;
      largest = 0;
      first = 0;
      last_chosen = 0;
      last_crossing = last_crossing;
      groups = groups;
    }

-- else both are 0
no_groups_relations :
    sound (still 9 (levels 1 1) (moment (pos 0) (pos 0)) 0 0)
    ∷ sound (still 9 (levels 1 1) (moment (pos 0) (pos 0)) 1 0)
    ∷ sound (still 9 (levels 1 1) (moment (pos 0) (pos 0)) 0 1)
    ∷ []
    ≡ true ∷ false ∷ false ∷ []
unfolding sound item_outside
no_groups_relations = refl

-- [8] refusal 8 reads both levels and both last samples
both_channels_relations :
    sound (still 9 (levels 1 1000000) (moment (pos 1000000) (negsuc 999999)) 0 0)
    ∷ sound (still 9 (levels 1000000 1) (moment (negsuc 999999) (pos 1000000)) 0 0)
    ∷ sound (still 9 (levels 0 1) (moment (pos 0) (pos 0)) 0 0)
    ∷ sound (still 9 (levels 1 0) (moment (pos 0) (pos 0)) 0 0)
    ∷ sound (still 9 (levels 1 1000001) (moment (pos 0) (pos 0)) 0 0)
    ∷ sound (still 9 (levels 1 1) (moment (pos 1000001) (pos 0)) 0 0)
    ∷ sound (still 9 (levels 1 1) (moment (pos 0) (negsuc 1000000)) 0 0)
    ∷ sound (still 0 (levels 1 1) (moment (pos 1) (pos 0)) 0 0)
    ∷ sound (still 0 (levels 1 1) (moment (pos 0) (pos 1)) 0 0)
    ∷ []
    ≡ true ∷ true ∷ false ∷ false ∷ false ∷ false ∷ false ∷ false ∷ false ∷ []
unfolding sound item_outside
both_channels_relations = refl

-- roll above its level or acceleration above its own; at a level is not above
either_channel_above :
    map (above (levels 10 20)) (moment (pos 11) (pos 0) ∷ moment (pos 0) (negsuc 20) ∷ moment (pos 10) (negsuc 19) ∷ [])
    ≡ true ∷ true ∷ false ∷ []
either_channel_above = refl

-- nothing for what is taken; the number, the value and the channel for what is refused
abbrev of_fed : Result Record Refusal → List ℕ
of_fed (Ok r) = []
of_fed (Err r) = number_of r ∷ value_of r ∷ channel_of r ∷ []

abbrev feeds : List ℤ → List ℤ → List ℕ
feeds xs ys = of_fed (feeding.fed (still 0 (levels 1 1) (moment (pos 0) (pos 0)) 0 0) xs ys)

abbrev bad : ℤ
bad = pos 1000001

-- 12 for unequal lengths, before 2, which names the lower place and its channel, roll first on a tie
channels_refused :
    feeds (bad ∷ pos 0 ∷ []) (pos 0 ∷ []) ∷ feeds (pos 0 ∷ bad ∷ []) (pos 0 ∷ bad ∷ [])
    ∷ feeds (pos 0 ∷ bad ∷ []) (bad ∷ pos 0 ∷ []) ∷ feeds (bad ∷ bad ∷ []) (pos 0 ∷ bad ∷ [])
    ∷ feeds (pos 0 ∷ pos 0 ∷ []) (pos 0 ∷ bad ∷ []) ∷ feeds (pos 0 ∷ []) (pos 0 ∷ [])
    ∷ []
    ≡ (12 ∷ 0 ∷ 0 ∷ []) ∷ (2 ∷ 1 ∷ 1 ∷ []) ∷ (2 ∷ 0 ∷ 2 ∷ []) ∷ (2 ∷ 0 ∷ 1 ∷ []) ∷ (2 ∷ 1 ∷ 2 ∷ []) ∷ [] ∷ []
unfolding feeding.fed sound item_outside first_bad
channels_refused = refl

-- ---- [4] results
abbrev of_entered : Result Campaign Refusal → List ℕ
of_entered (Ok c) = c.records ∷ c.failures ∷ c.exposure ∷ []
of_entered (Err r) = number_of r ∷ value_of r ∷ []

-- 100,000 records, or 64 failures, or neither
abbrev campaign : ℕ → ℕ → Campaign
campaign M N = record { standard = 1; records = M; failures = N; exposure = 100000; failed = true }

abbrev enters : ℕ → ℕ → ℕ → List ℕ
enters M N t = of_entered (entering (campaign M N) (record { failed = true; exposure = t }))

-- a result needs exposure from 1 to 10,000,000, else 8, before 5 and 6
result_in_range :
    enters 3 1 0 ∷ enters 3 1 1 ∷ enters 3 1 10000000 ∷ enters 3 1 10000001
    ∷ enters 100000 1 0 ∷ enters 100000 64 1 ∷ enters 64 64 1
    ∷ []
    ≡ (8 ∷ 0 ∷ []) ∷ (4 ∷ 2 ∷ 100001 ∷ []) ∷ (4 ∷ 2 ∷ 10100000 ∷ []) ∷ (8 ∷ 0 ∷ [])
    ∷ (8 ∷ 0 ∷ []) ∷ (5 ∷ 0 ∷ []) ∷ (6 ∷ 0 ∷ [])
    ∷ []
unfolding entering campaigning.sound
result_in_range = refl

-- entering reads whether there is a first failure, and the exposure
result_read :
    outcome_of (record { crossings = 7; counted = 6; first = 0; exposure = 500; largest = 5 })
    ∷ outcome_of (record { crossings = 0; counted = 0; first = 3; exposure = 500; largest = 0 })
    ∷ []
    ≡ record { failed = false; exposure = 500 } ∷ record { failed = true; exposure = 500 } ∷ []
result_read = refl

-- ---- [7] sums
abbrev sum : ℕ → ℕ → ℕ → Sum
sum D N P = record { step = D; failures = N; samples = P }

-- 1,960² · 1 · 99 / 100 is 1,950.2², 1,960² · 9 · 991 / 1,000 is 5,853.5²; of 1 in 1 and 0 in 5 none; and
-- 1,960² · 20 · 5 / 25 is 3,920² itself
half_width_figures :
    half_width 1 100 ∷ half_width 9 1000 ∷ half_width 1 1 ∷ half_width 0 5 ∷ half_width 20 25 ∷ []
    ≡ 1951 ∷ 5854 ∷ 0 ∷ 0 ∷ 3920 ∷ []
unfolding root.half_width first_from
half_width_figures = refl

-- 1,000·N, lower, upper, P·D; lower is 0 where 1,000·N - m falls below
bounds_figures :
    map bounds_of (sum 500 1 100 ∷ sum 7 9 1000 ∷ [])
    ≡ record { estimate = 1000; lower = 0; upper = 2951; time = 50000 }
    ∷ record { estimate = 9000; lower = 3146; upper = 14854; time = 7000 }
    ∷ []
unfolding root.half_width first_from
bounds_figures = refl

-- each over P·D is its rate; without a record 0
rates_figures :
    map rates_of (sum 7 9 1000 ∷ sum 7 0 0 ∷ [])
    ≡ record { estimate = quotient 9000 7000; lower = quotient 3146 7000; upper = quotient 14854 7000 }
    ∷ record { estimate = zero64; lower = zero64; upper = zero64 }
    ∷ []
unfolding root.half_width first_from
rates_figures = refl

-- no record
no_record_lem : map recorded (sum 500 0 0 ∷ sum 500 0 2 ∷ []) ≡ false ∷ true ∷ []
no_record_lem = refl

abbrev of_sum : Result Sum Refusal → List ℕ
of_sum (Ok s) = s.step ∷ s.failures ∷ s.samples ∷ []
of_sum (Err r) = number_of r ∷ value_of r ∷ []

-- a sum opens with its D, 1 with item 1
sum_opened : map (λ (D : ℕ). of_sum (summing.opened D)) (0 ∷ 1 ∷ 10000 ∷ 10001 ∷ [])
    ≡ (1 ∷ 1 ∷ []) ∷ (1 ∷ 0 ∷ 0 ∷ []) ∷ (10000 ∷ 0 ∷ 0 ∷ []) ∷ (1 ∷ 1 ∷ []) ∷ []
sum_opened = refl

-- D, N and P in range, N at most P
sum_step : map (λ (D : ℕ). state.sound (sum D 0 0)) (0 ∷ 1 ∷ 10000 ∷ 10001 ∷ []) ≡ false ∷ true ∷ true ∷ false ∷ []
unfolding state.sound
sum_step = refl

sum_failures : map (λ (N : ℕ). state.sound (sum 1 N 99999)) (0 ∷ 10000 ∷ 10001 ∷ []) ≡ true ∷ true ∷ false ∷ []
unfolding state.sound
sum_failures = refl

sum_samples : map (λ (P : ℕ). state.sound (sum 1 0 P)) (0 ∷ 100000000 ∷ 100000001 ∷ []) ≡ true ∷ true ∷ false ∷ []
unfolding state.sound
sum_samples = refl

sum_within : map (λ (N : ℕ). state.sound (sum 1 N 7)) (6 ∷ 7 ∷ 8 ∷ []) ≡ true ∷ true ∷ false ∷ []
unfolding state.sound
sum_within = refl

-- the groups and n - R are added
sum_added : of_sum (adding (sum 500 6 90) (with 5 2)) ≡ 500 ∷ 8 ∷ 98 ∷ []
unfolding adding state.sound sound item_outside
sum_added = refl

-- 11 if N would pass 10,000 or P 100,000,000
sum_full :
    of_sum (adding (sum 500 9999 99999) (with 5 2)) ∷ of_sum (adding (sum 500 0 99999993) (with 5 2))
    ∷ of_sum (adding (sum 500 9998 99999992) (with 5 2))
    ∷ []
    ≡ (11 ∷ 0 ∷ []) ∷ (11 ∷ 0 ∷ []) ∷ (500 ∷ 10000 ∷ 100000000 ∷ []) ∷ []
unfolding adding state.sound sound item_outside
sum_full = refl

-- 8 for either before 4, 4 before 1 with item 1, that before 11
sum_refused :
    of_sum (adding (sum 500 2 1) (with 5 2)) ∷ of_sum (adding (sum 500 6 90) (with 4 2))
    ∷ of_sum (adding (sum 1 6 90) (still 2 (levels 1 1) (moment (pos 0) (pos 0)) 0 0))
    ∷ of_sum (adding (sum 1 9999 100000000) (with 5 2))
    ∷ []
    ≡ (8 ∷ 0 ∷ []) ∷ (8 ∷ 0 ∷ []) ∷ (4 ∷ 0 ∷ []) ∷ (1 ∷ 1 ∷ []) ∷ []
unfolding adding state.sound sound item_outside
sum_refused = refl
