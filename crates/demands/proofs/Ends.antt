-- The two ends of every range that documents 01 and 02 print, of the entries' answers: just inside is taken, one past
-- is refused with its number and what it returns. Each is computed (`refl`), in a declaration of its own, so that a
-- range that is empty, or off by one, or judged by another number, is told by name. A refusal is its number and what
-- it returns; what is taken is 0, 0. Assumes nothing.
use mathlib.Core.Path.{◌≡◌, refl}
use mathlib.Core.Bool.{false, true}
use mathlib.Core.List.{List, [], ◌∷◌, map}
use Prim.Native.Nat.{ℕ}
use lib.IntN.{ℤ, negsuc, pos}
use lib.ListN.{replicate}
use Rattle.refusal.specs.declared.Refusal.{Refusal}
use Rattle.refusal.specs.Numbers.{number_of, value_of}
use Rattle.sample_channels.specs.declared.Levels.{Levels}
use Rattle.sample_channels.specs.Channels.{moments, still}
use Rattle.sample_range.specs.Range.{first_bad}
use Rattle.sample_items.specs.declared.Items.{Items}
use Rattle.sample_items.specs.Limits.{item_outside, most_in_range}
use Rattle.record_state.specs.declared.Record.{Record}
use Rattle.record_state.specs.Answers as records
use Rattle.record_state.specs.State as recording
use Rattle.record_feed.specs.Answers.{fed}
use Rattle.crossing_sets.specs.Groups.{attach, firsts, groups as in_groups}
use Rattle.crossing_places.specs.Reading.{passing}
use Rattle.record_list.specs.Answers.{listed}
use Rattle.record_end.specs.declared.Outcome.{Outcome}
use Rattle.record_end.specs.Result.{ending}
use Rattle.campaign_state.specs.declared.Campaign.{Campaign}
use Rattle.campaign_state.specs.Answers as campaigns
use Rattle.campaign_state.specs.State as campaigning
use Rattle.sheet_line.specs.Line.{telling}
use Rattle.binomial_sum.specs.declared.Sum.{Sum}
use Rattle.binomial_sum.specs.Answers as sums
use Rattle.binomial_sum.specs.State as summing
use Rattle.peak_tail.specs.Fitting as tails
use Rattle.campaign_condition.specs.Answers as conditions
use Rattle.record_end.specs.declared.RecordResult.{RecordResult}
use Rattle.campaign_condition.specs.declared.Standing.{Standing}
use Rattle.std.specs.Prelude.{Result, Ok, Err}

abbrev pub refused : Refusal → ℕ × ℕ
refused f = (number_of f, value_of f)

abbrev pub taken : ℕ × ℕ
taken = (0, 0)

-- what each kind of answer comes to
abbrev pub of_record : Result Record Refusal → ℕ × ℕ
of_record (Ok r) = taken
of_record (Err f) = refused f

abbrev pub of_ended : Result RecordResult Refusal → ℕ × ℕ
of_ended (Ok x) = taken
of_ended (Err f) = refused f

abbrev pub of_listed : Result ℕ Refusal → ℕ × ℕ
of_listed (Ok n) = taken
of_listed (Err f) = refused f

abbrev pub of_campaign : Result Campaign Refusal → ℕ × ℕ
of_campaign (Ok c) = taken
of_campaign (Err f) = refused f

abbrev pub of_sum : Result Sum Refusal → ℕ × ℕ
of_sum (Ok s) = taken
of_sum (Err f) = refused f

abbrev pub of_tail : Result ℕ Refusal → ℕ × ℕ
of_tail (Ok s) = taken
of_tail (Err f) = refused f

abbrev pub of_condition : Result Standing Refusal → ℕ × ℕ
of_condition (Ok s) = taken
of_condition (Err f) = refused f

-- the usual levels, and no decorrelation time
abbrev pub usual : ℕ → ℕ → Items
usual D R = record { step = D; ramp = R; levels = record { roll = 40000; acceleration = 9810 }; decorrelation = 0 }

-- opening a record: step, ramp, levels of roll and acceleration, decorrelation time
abbrev pub opens : ℕ → ℕ → ℕ → ℕ → ℕ → ℕ × ℕ
opens D R roll acceleration τ =
    let levels : Levels = record { roll = roll; acceleration = acceleration } in
    of_record (records.opened (record { step = D; ramp = R; levels = levels; decorrelation = τ }))

-- a record of n samples without a crossing, R = 5
abbrev pub quiet : ℕ → ℕ → Record
quiet D n =
    record {
      items = usual D 5;
      n = n;
      last = still;
      crossings = 0;
      largest = 0;
      first = 0;
      last_chosen = 0;
      last_crossing = 0;
      groups = 0;
    }

-- the same with one failure, and one group, at place 6
abbrev pub failing : ℕ → ℕ → Record
failing D n =
    record {
      items = usual D 5;
      n = n;
      last = still;
      crossings = 1;
      largest = 1;
      first = 6;
      last_chosen = 6;
      last_crossing = 6;
      groups = 1;
    }

abbrev pub start : ℕ → ℕ × ℕ
start q = of_campaign (campaigns.opened q)

abbrev pub feed : Record → List ℤ → List ℤ → ℕ × ℕ
feed r xs ys = of_record (fed r xs ys)

abbrev pub campaign : ℕ → ℕ → ℕ → Campaign
campaign m n t = record { standard = 7200000; records = m; failures = n; exposure = t; failed = true }

abbrev pub enter : Campaign → ℕ → ℕ × ℕ
enter c t = of_campaign (campaigns.entering c (record { failed = true; exposure = t }))

abbrev pub line : Campaign → ℕ → ℕ × ℕ
line c t = of_campaign (telling c true t)

abbrev pub sum : ℕ → ℕ → Sum
sum n p = record { step = 500; failures = n; samples = p }

abbrev pub total : ℕ → ℕ × ℕ
total D = of_sum (sums.opened D)

abbrev pub add : Sum → Record → ℕ × ℕ
add s r = of_sum (sums.adding s r)

-- a list of n peaks of 7 with one more, into so many places
abbrev pub fit : ℕ → ℕ → ℕ → ℕ → ℕ × ℕ
fit n peak k places = of_tail (tails.fitted (peak ∷ replicate n 7) k places 0)

abbrev pub judge : ℕ → ℕ × ℕ
judge n = of_condition (conditions.judging n (replicate n (campaigning.empty 7200000)))

-- item 1, the step: 1 to 10,000
pub step-ends :
    opens 0 0 1 1 0 ∷ opens 1 0 1 1 0 ∷ opens 10000 0 1 1 0 ∷ opens 10001 0 1 1 0 ∷ []
    ≡ (1, 1) ∷ taken ∷ taken ∷ (1, 1) ∷ []
unfolding records.opened item_outside
step-ends = refl

-- item 2, the ramp: 0 to 1,000,000
pub ramp_ends : opens 1 0 1 1 0 ∷ opens 1 1000000 1 1 0 ∷ opens 1 1000001 1 1 0 ∷ [] ≡ taken ∷ taken ∷ (1, 2) ∷ []
unfolding records.opened item_outside
ramp_ends = refl

-- item 3, the roll's level, and item 6, the acceleration's: 1 to 1,000,000
pub roll_ends :
    opens 1 0 0 1 0 ∷ opens 1 0 1 1 0 ∷ opens 1 0 1000000 1 0 ∷ opens 1 0 1000001 1 0 ∷ []
    ≡ (1, 3) ∷ taken ∷ taken ∷ (1, 3) ∷ []
unfolding records.opened item_outside
roll_ends = refl

pub acceleration_ends :
    opens 1 0 1 0 0 ∷ opens 1 0 1 1 0 ∷ opens 1 0 1 1000000 0 ∷ opens 1 0 1 1000001 0 ∷ []
    ≡ (1, 6) ∷ taken ∷ taken ∷ (1, 6) ∷ []
unfolding records.opened item_outside
acceleration_ends = refl

-- item 4, the decorrelation time: 0 to 10,000,000
pub decorrelation_ends :
    opens 1 0 1 1 0 ∷ opens 1 0 1 1 10000000 ∷ opens 1 0 1 1 10000001 ∷ []
    ≡ taken ∷ taken ∷ (1, 4) ∷ []
unfolding records.opened item_outside
decorrelation_ends = refl

-- item 5, the standard: 1 to 100,000,000,000
pub standard_ends :
    start 0 ∷ start 1 ∷ start 100000000000 ∷ start 100000000001 ∷ []
    ≡ (1, 5) ∷ taken ∷ taken ∷ (1, 5) ∷ []
standard_ends = refl

-- a sample: -1,000,000 to 1,000,000, of either channel, with its place; and both slices of one length
pub sample_ends :
    feed (quiet 500 7) (pos 1000000 ∷ negsuc 999999 ∷ []) (pos 0 ∷ pos 0 ∷ [])
    ∷ feed (quiet 500 7) (pos 0 ∷ pos 1000001 ∷ []) (pos 0 ∷ pos 0 ∷ [])
    ∷ feed (quiet 500 7) (pos 0 ∷ negsuc 1000000 ∷ []) (pos 0 ∷ pos 0 ∷ [])
    ∷ feed (quiet 500 7) (pos 0 ∷ pos 0 ∷ []) (negsuc 999999 ∷ pos 1000000 ∷ [])
    ∷ feed (quiet 500 7) (pos 0 ∷ pos 0 ∷ []) (negsuc 1000000 ∷ pos 0 ∷ [])
    ∷ feed (quiet 500 7) (pos 0 ∷ pos 0 ∷ []) (pos 0 ∷ [])
    ∷ []
    ≡ taken ∷ (2, 1) ∷ (2, 1) ∷ taken ∷ (2, 0) ∷ (12, 0) ∷ []
unfolding fed recording.sound item_outside first_bad
sample_ends = refl

-- of two samples outside it the first
pub first_place : feed (quiet 500 7) (pos 0 ∷ pos 1000001 ∷ pos 1000002 ∷ []) (replicate 3 (pos 0)) ≡ (2, 1)
unfolding fed recording.sound item_outside first_bad
first_place = refl

-- the timed length, 10,000,000 ms: with R = 5 and a step of 10,000 so many as 1,006 samples, of 3 so many as
-- 3,333,339; past it 8
pub length-ends :
    feed (quiet 10000 1005) (pos 0 ∷ []) (pos 0 ∷ [])
    ∷ feed (quiet 10000 1006) (pos 0 ∷ []) (pos 0 ∷ [])
    ∷ feed (quiet 10000 1007) [] []
    ∷ feed (quiet 3 3333338) (pos 0 ∷ []) (pos 0 ∷ [])
    ∷ feed (quiet 3 3333339) (pos 0 ∷ []) (pos 0 ∷ [])
    ∷ []
    ≡ taken ∷ (3, 0) ∷ (8, 0) ∷ taken ∷ (3, 0) ∷ []
unfolding fed recording.sound item_outside first_bad
length-ends = refl

-- as it is asked of peaks: R + 1 + floor(10,000,000 / D), and 0 for a step or a ramp out of range
pub length_asked :
    most_in_range 3 5 ∷ most_in_range 10000 1000000 ∷ most_in_range 0 5 ∷ most_in_range 10001 5 ∷ most_in_range 3 1000001 ∷ []
    ≡ 3333339 ∷ 1001001 ∷ 0 ∷ 0 ∷ 0 ∷ []
unfolding most_in_range
length_asked = refl

-- n of at least R + 2
pub short_ends : of_ended (ending (quiet 500 6)) ∷ of_ended (ending (quiet 500 7)) ∷ [] ≡ (4, 0) ∷ taken ∷ []
unfolding ending recording.sound item_outside
short_ends = refl

-- and for a list, with R = 1; more counted times than places give 7 with the number needed
abbrev pub list : List ℤ → ℕ → ℕ × ℕ
list xs places = of_listed (listed (usual 500 1) xs (map (λ (x : ℤ). pos 0) xs) places)

pub short_list_ends : list (replicate 2 (pos 0)) 0 ∷ list (replicate 3 (pos 0)) 0 ∷ [] ≡ (4, 0) ∷ taken ∷ []
unfolding listed item_outside first_bad firsts in_groups attach passing moments
short_list_ends = refl

pub list_room_ends :
    map (list (pos 0 ∷ pos 0 ∷ pos 41000 ∷ pos 0 ∷ pos 41000 ∷ [])) (2 ∷ 1 ∷ 0 ∷ []) ≡ taken ∷ (7, 2) ∷ (7, 2) ∷ []
unfolding listed item_outside first_bad firsts in_groups attach passing moments
list_room_ends = refl

-- 100,000 records and 64 failures; past them 8
pub records_ends :
    enter (campaign 99999 1 99999) 1 ∷ enter (campaign 100000 1 100000) 1 ∷ enter (campaign 100001 1 100001) 1 ∷ []
    ≡ taken ∷ (5, 0) ∷ (8, 0) ∷ []
unfolding campaigns.entering campaigning.sound
records_ends = refl

pub failures_ends :
    enter (campaign 99 63 99) 1 ∷ enter (campaign 99 64 99) 1 ∷ enter (campaign 99 65 99) 1 ∷ []
    ≡ taken ∷ (6, 0) ∷ (8, 0) ∷ []
unfolding campaigns.entering campaigning.sound
failures_ends = refl

-- a result's exposure, 1 to 10,000,000; on a sheet
pub exposure_ends :
    enter (campaign 1 1 1) 0
    ∷ enter (campaign 1 1 1) 1
    ∷ enter (campaign 1 1 1) 10000000
    ∷ enter (campaign 1 1 1) 10000001
    ∷ []
    ≡ (8, 0) ∷ taken ∷ taken ∷ (8, 0) ∷ []
unfolding campaigns.entering campaigning.sound
exposure_ends = refl

pub sheet_exposure_ends :
    line (campaign 1 1 1) 0
    ∷ line (campaign 1 1 1) 1
    ∷ line (campaign 1 1 1) 10000000
    ∷ line (campaign 1 1 1) 10000001
    ∷ []
    ≡ (4, 0) ∷ taken ∷ taken ∷ (3, 0) ∷ []
unfolding telling campaigns.entering campaigning.sound
sheet_exposure_ends = refl

-- a sum's step, its N of at most 10,000 and its P of at most 100,000,000; the record has one group and two
-- timed samples
pub sum_step_ends :
    total 0 ∷ total 1 ∷ total 10000 ∷ total 10001 ∷ add (sum 0 0) (failing 501 7) ∷ []
    ≡ (1, 1) ∷ taken ∷ taken ∷ (1, 1) ∷ (1, 1) ∷ []
unfolding sums.adding summing.sound recording.sound item_outside
sum_step_ends = refl

pub groups_ends :
    add (sum 9999 50000) (failing 500 7)
    ∷ add (sum 10000 50000) (failing 500 7)
    ∷ add (sum 10001 50000) (failing 500 7)
    ∷ []
    ≡ taken ∷ (11, 0) ∷ (8, 0) ∷ []
unfolding sums.adding summing.sound recording.sound item_outside
groups_ends = refl

pub timed_ends :
    add (sum 1 99999998) (failing 500 7)
    ∷ add (sum 1 99999999) (failing 500 7)
    ∷ add (sum 1 100000001) (failing 500 7)
    ∷ []
    ≡ taken ∷ (11, 0) ∷ (8, 0) ∷ []
unfolding sums.adding summing.sound recording.sound item_outside
timed_ends = refl

-- a list of at most 4,096 peaks, k from 2 to its length, a peak of 1 to 1,000,000, room for all
pub peaks_ends : fit 4095 7 2 4096 ∷ fit 4096 7 2 4097 ∷ [] ≡ taken ∷ (16, 0) ∷ []
unfolding tails.fitted tails.first_bad
peaks_ends = refl

pub k_ends : fit 3 7 1 4 ∷ fit 3 7 2 4 ∷ fit 3 7 4 4 ∷ fit 3 7 5 4 ∷ [] ≡ (16, 0) ∷ taken ∷ taken ∷ (16, 0) ∷ []
unfolding tails.fitted tails.first_bad
k_ends = refl

pub peak_ends :
    fit 3 0 2 4
    ∷ fit 3 1 2 4
    ∷ fit 3 1000000 2 4
    ∷ fit 3 1000001 2 4
    ∷ of_tail (tails.fitted (7 ∷ 0 ∷ []) 2 2 0)
    ∷ []
    ≡ (17, 0) ∷ taken ∷ taken ∷ (17, 0) ∷ (17, 1) ∷ []
unfolding tails.fitted tails.first_bad
peak_ends = refl

pub room_ends : fit 3 7 2 3 ∷ fit 3 7 2 4 ∷ [] ≡ (7, 4) ∷ taken ∷ []
unfolding tails.fitted tails.first_bad
room_ends = refl

-- 1 to 64 campaigns of a loading condition, none of them broken
pub situations_ends :
    judge 0
    ∷ judge 1
    ∷ judge 64
    ∷ judge 65
    ∷ of_condition (conditions.judging 2 (campaigning.empty 1 ∷ campaigning.empty 0 ∷ []))
    ∷ []
    ≡ (18, 0) ∷ taken ∷ taken ∷ (18, 0) ∷ (8, 2) ∷ []
unfolding conditions.judging conditions.broken_from campaigning.sound
situations_ends = refl
