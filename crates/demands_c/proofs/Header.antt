-- What the numbers of include/chimenickel.h (specs/Header) stand for: read it beside the header. The places of each
-- array, the codes of verdicts, conditions and channels, the refusals' numbers with what goes with them, and the sizes.
-- And an array that is taken is the numbers of the state that it stands for: no number in it goes unread. Assumes
-- nothing.
use mathlib.Core.Path.{◌≡◌, refl, ap, sym, ◌∙◌}
use mathlib.Core.Bool.{Bool, cond, false, true}
use mathlib.Core.List.{List, [], ◌∷◌}
use Prim.Native.Nat.{ℕ, suc, zero, ◌+◌, ◌*◌, ◌-◌, ◌%◌}
use native.Mathlib.Omega.{arith}
use lib.Dec.{eqb, leb}
use lib.Ieee.{Float}
use lib.IntN.{negsuc, pos}
use lib.ListN.{drop, drop_of_length-le, length}
use lib.Seq.{drop-cons}
use borrow.Author.Tests.{eq-eqb, eqb-false, eqb-true, leb-true}
use Rattle.truth.proofs.Cases.{by_test}
use Rattle.truth.proofs.Laws.{and-true, true≢false}
use Rattle.refusal.specs.Numbers.{channel_of, number_of, value_of}
use Rattle.refusal.specs.declared.Refusal.TheVariants.{Item, Sample, TooLong, TooShort, CampaignFull, RowsUsedUp, Room}
use Rattle.refusal.specs.declared.Refusal.TheVariants.{BrokenState, Line, CommaLine, SumFull, Unequal, NoBureau}
use Rattle.refusal.specs.declared.Refusal.TheVariants.{BureauFull, NotItsOwn, Tail, Peak, Situations, Situation}
use Rattle.refusal.specs.declared.Refusal.TheVariants.{Acceleration, LowLevel, NoSpread, TimedSamples}
use Rattle.record_state.specs.declared.Record.{Record}
use Rattle.record_state.specs.State as recording
use Rattle.record_end.specs.declared.RecordResult.{RecordResult}
use Rattle.campaign_state.specs.declared.Campaign.{Campaign}
use Rattle.campaign_state.specs.State as campaigning
use Rattle.campaign_verdict.specs.declared.Verdict.TheVariants.{Accept, Continue, NoRecord, Reject}
use Rattle.campaign_verdict.specs.Figures.{zero64}
use Rattle.binomial_sum.specs.declared.Sum.{Sum}
use Rattle.binomial_sum.specs.State as summing
use Rattle.binomial_bounds.specs.declared.Bounds.{Bounds}
use Rattle.peak_reach.specs.declared.Letter.TheVariants as letter
use Rattle.peak_reach.specs.declared.Times.{Times}
use Rattle.bureau_table.specs.declared.Place.{Place}
use Rattle.bureau_table.specs.Table.{place_kept, places}
use Rattle.campaign_condition.specs.Answers.{most_situations}
use Rattle.campaign_condition.specs.declared.Standing.TheVariants.{Accepted, Open, Rejected}
use Rattle.capi.specs.Numbers.{campaign_numbers, campaign_of, code_of, flag, is_campaign, is_record, number_at, of_campaign}
use Rattle.capi.specs.Numbers.{of_record, of_result, record_numbers, record_of, result_numbers, result_of, sample_of}
use Rattle.capi.proofs.States.{other_campaign, other_record}
use Rattle.capi_verdict.specs.Told.{judgement, verdict_told}
use Rattle.capi_binomial.specs.Told.{of_bounds, of_sum, sum_numbers, sum_of}
use Rattle.capi_reach.specs.Told.{letter_code, of_times}
use Rattle.peak_groups.specs.declared.Group.{Group}
use Rattle.peak_groups.specs.declared.Peak.{Peak as Top}
use Rattle.peak_stream.specs.declared.Handing.{Handing}
use Rattle.peak_stream.specs.declared.Surveying.{Surveying}
use Rattle.peak_stream.specs.Hands as second
use Rattle.peak_stream.specs.Survey as first
use Rattle.capi_peaks.proofs.Fits.{group_small, handing_small, peak_flag, reading_small, survey_small}
use Rattle.capi_peaks.proofs.States.{other_handing, other_survey}
use Rattle.capi_peaks.specs.Numbers.{handing_fits, handing_left, handing_numbers, handing_of, is_handing, is_survey}
use Rattle.capi_peaks.specs.Numbers.{of_handing, of_survey, ramp_left, ramp_of, survey_fits, survey_numbers, survey_of}
use Rattle.capi_bureau.specs.Rows.{of_place, place_of}
use Rattle.capi_condition.specs.Told.{standing_code}
use Rattle.demands_c.specs.Header.{CHIM_ACCELERATION, CHIM_ACCEPT, CHIM_ACCEPTED, CHIM_BENCH_PLACES}
use Rattle.demands_c.specs.Header.{CHIM_BOUNDS_NUMBERS, CHIM_BROKEN_STATE, CHIM_BUREAU_FULL, CHIM_CAMPAIGN_FULL}
use Rattle.demands_c.specs.Header.{CHIM_ESTIMATED, CHIM_LONGEST_ACCEPTED, CHIM_LOW_LEVEL, CHIM_NO_SPREAD}
use Rattle.demands_c.specs.Header.{CHIM_HANDING_NUMBERS, CHIM_SURVEY_NUMBERS}
use Rattle.demands_c.specs.Header.{CHIM_SHORTEST_REJECTED, CHIM_TIMED_SAMPLES, CHIM_TIMES_NUMBERS}
use Rattle.demands_c.specs.Header.{CHIM_CAMPAIGN_NUMBERS, CHIM_COMMA_LINE, CHIM_CONDITION, CHIM_CONTINUE}
use Rattle.demands_c.specs.Header.{CHIM_COUNTED, CHIM_CROSSINGS, CHIM_ESTIMATE, CHIM_EXPOSURE, CHIM_FIRST}
use Rattle.demands_c.specs.Header.{CHIM_ITEM, CHIM_LARGEST_SET, CHIM_LINE, CHIM_LOWER, CHIM_MOST_SITUATIONS}
use Rattle.demands_c.specs.Header.{CHIM_NO_BUREAU, CHIM_NO_RECORD, CHIM_NOT_ITS_OWN, CHIM_OPEN, CHIM_PEAK}
use Rattle.demands_c.specs.Header.{CHIM_PLACE_NUMBERS, CHIM_RECORD_NUMBERS, CHIM_REJECT, CHIM_REJECTED}
use Rattle.demands_c.specs.Header.{CHIM_REPORT_BYTES, CHIM_RESULT_NUMBERS, CHIM_ROLL, CHIM_ROOM}
use Rattle.demands_c.specs.Header.{CHIM_ROWS_USED_UP, CHIM_SAMPLE, CHIM_SUM_FULL, CHIM_SUM_NUMBERS, CHIM_TAIL}
use Rattle.demands_c.specs.Header.{CHIM_TAKEN, CHIM_TIME, CHIM_TOO_LONG, CHIM_TOO_SHORT, CHIM_UNEQUAL, CHIM_UPPER}

-- ---- the statement
-- the header's "record, 14 numbers"
pub record RecordPlaces (r : Record) : Type 0 where
  pub long : length (of_record r) ≡ CHIM_RECORD_NUMBERS
  pub step : number_at (of_record r) 0 ≡ r.items.step
  pub ramp : number_at (of_record r) 1 ≡ r.items.ramp
  pub roll_level : number_at (of_record r) 2 ≡ r.items.levels.roll
  pub decorrelation : number_at (of_record r) 3 ≡ r.items.decorrelation
  pub samples : number_at (of_record r) 4 ≡ r.n
  pub roll : number_at (of_record r) 5 ≡ code_of r.last.roll
  pub crossings : number_at (of_record r) 6 ≡ r.crossings
  pub largest_set : number_at (of_record r) 7 ≡ r.largest
  pub first : number_at (of_record r) 8 ≡ r.first
  pub last_of_the_set : number_at (of_record r) 9 ≡ r.last_chosen
  pub last : number_at (of_record r) 10 ≡ r.last_crossing
  pub counted : number_at (of_record r) 11 ≡ r.groups
  pub acceleration_level : number_at (of_record r) 12 ≡ r.items.levels.acceleration
  pub acceleration : number_at (of_record r) 13 ≡ code_of r.last.acceleration

-- "a result, 5 numbers"
pub record ResultPlaces (x : RecordResult) : Type 0 where
  pub long : length (of_result x) ≡ CHIM_RESULT_NUMBERS
  pub crossings : number_at (of_result x) CHIM_CROSSINGS ≡ x.crossings
  pub counted : number_at (of_result x) CHIM_COUNTED ≡ x.counted
  pub first : number_at (of_result x) CHIM_FIRST ≡ x.first
  pub exposure : number_at (of_result x) CHIM_EXPOSURE ≡ x.exposure
  pub largest_set : number_at (of_result x) CHIM_LARGEST_SET ≡ x.largest

-- "campaign, 5 numbers"
pub record CampaignPlaces (c : Campaign) : Type 0 where
  pub long : length (of_campaign c) ≡ CHIM_CAMPAIGN_NUMBERS
  pub standard : number_at (of_campaign c) 0 ≡ c.standard
  pub records : number_at (of_campaign c) 1 ≡ c.records
  pub failures : number_at (of_campaign c) 2 ≡ c.failures
  pub exposure : number_at (of_campaign c) 3 ≡ c.exposure
  pub failed : number_at (of_campaign c) 4 ≡ cond c.failed 1 0

-- "a sum, 3 numbers", and its bounds
pub record SumPlaces (s : Sum) : Type 0 where
  pub long : length (of_sum s) ≡ CHIM_SUM_NUMBERS
  pub step : number_at (of_sum s) 0 ≡ s.step
  pub failures : number_at (of_sum s) 1 ≡ s.failures
  pub samples : number_at (of_sum s) 2 ≡ s.samples

pub record BoundsPlaces (b : Bounds) : Type 0 where
  pub long : length (of_bounds b) ≡ CHIM_BOUNDS_NUMBERS
  pub estimate : number_at (of_bounds b) CHIM_ESTIMATE ≡ b.estimate
  pub lower : number_at (of_bounds b) CHIM_LOWER ≡ b.lower
  pub upper : number_at (of_bounds b) CHIM_UPPER ≡ b.upper
  pub time : number_at (of_bounds b) CHIM_TIME ≡ b.time

pub record TimesPlaces (t : Times) : Type 0 where
  pub long : length (of_times t) ≡ CHIM_TIMES_NUMBERS
  pub estimated : number_at (of_times t) CHIM_ESTIMATED ≡ t.estimate
  pub longest_accepted : number_at (of_times t) CHIM_LONGEST_ACCEPTED ≡ t.accepted
  pub shortest_rejected : number_at (of_times t) CHIM_SHORTEST_REJECTED ≡ t.rejected

-- a peak from place i of an array on, and a group
pub record PeakPlaces (p : Top) (i : ℕ) (s : List ℕ) : Type 0 where
  pub below : number_at s i ≡ cond p.below 1 0
  pub size : number_at s (i + 1) ≡ p.size
  pub time : number_at s (i + 2) ≡ p.time

pub record GroupPlaces (g : Group) (i : ℕ) (s : List ℕ) : Type 0 where
  pub opened : number_at s i ≡ g.opened
  pub last : PeakPlaces g.last (i + 1) s
  pub largest : PeakPlaces g.best (i + 4) s

-- "first pass, 10 numbers": the ramp R, of which L samples are still to come
pub record SurveyPlaces (t : Surveying) (R L : ℕ) : Type 0 where
  pub long : length (of_survey t R L) ≡ CHIM_SURVEY_NUMBERS
  pub step : number_at (of_survey t R L) 0 ≡ t.reading.step
  pub samples : number_at (of_survey t R L) 1 ≡ t.reading.n
  pub runs : number_at (of_survey t R L) 2 ≡ t.reading.opened
  pub largest : PeakPlaces t.reading.best 3 (of_survey t R L)
  pub peaks : number_at (of_survey t R L) 6 ≡ t.number
  pub sum : number_at (of_survey t R L) 7 ≡ t.sum
  pub ramp : number_at (of_survey t R L) 8 ≡ R
  pub left : number_at (of_survey t R L) 9 ≡ L

-- "second pass, 24 numbers"
pub record HandingPlaces (h : Handing) (L : ℕ) : Type 0 where
  pub long : length (of_handing h L) ≡ CHIM_HANDING_NUMBERS
  pub step : number_at (of_handing h L) 0 ≡ h.reading.step
  pub samples : number_at (of_handing h L) 1 ≡ h.reading.n
  pub runs : number_at (of_handing h L) 2 ≡ h.reading.opened
  pub largest : PeakPlaces h.reading.best 3 (of_handing h L)
  pub stretches : GroupPlaces h.envelope.stretches 6 (of_handing h L)
  pub chains : GroupPlaces h.envelope.chains 13 (of_handing h L)
  pub decorrelation : number_at (of_handing h L) 20 ≡ h.decorrelation
  pub peaks : number_at (of_handing h L) 21 ≡ h.number
  pub sum : number_at (of_handing h L) 22 ≡ h.sum
  pub left : number_at (of_handing h L) 23 ≡ L

-- a row of the table: the owner, then the five of its campaign
pub record RowPlaces (p : Place) : Type 0 where
  pub long : length (of_place p) ≡ CHIM_PLACE_NUMBERS
  pub owner : number_at (of_place p) 0 ≡ p.owner
  pub campaign : drop 1 (of_place p) ≡ of_campaign p.campaign

-- 0 or a refusal's number, and what goes with it
pub record Refusals : Type 0 where
  pub item : (i : ℕ) → (number_of (Item i) ≡ CHIM_ITEM) × (value_of (Item i) ≡ i)
  pub sample : (i : ℕ) → (number_of (Sample i) ≡ CHIM_SAMPLE) × (value_of (Sample i) ≡ i)
  pub acceleration : (i : ℕ) → (number_of (Acceleration i) ≡ CHIM_SAMPLE) × (value_of (Acceleration i) ≡ i)
  pub too_long : (number_of TooLong ≡ CHIM_TOO_LONG) × (value_of TooLong ≡ 0)
  pub too_short : (number_of TooShort ≡ CHIM_TOO_SHORT) × (value_of TooShort ≡ 0)
  pub campaign_full : (number_of CampaignFull ≡ CHIM_CAMPAIGN_FULL) × (value_of CampaignFull ≡ 0)
  pub rows_used_up : (number_of RowsUsedUp ≡ CHIM_ROWS_USED_UP) × (value_of RowsUsedUp ≡ 0)
  pub room : (i : ℕ) → (number_of (Room i) ≡ CHIM_ROOM) × (value_of (Room i) ≡ i)
  pub broken_state : (number_of BrokenState ≡ CHIM_BROKEN_STATE) × (value_of BrokenState ≡ 0)
  pub situation : (i : ℕ) → (number_of (Situation i) ≡ CHIM_BROKEN_STATE) × (value_of (Situation i) ≡ i)
  pub line : (i : ℕ) → (number_of (Line i) ≡ CHIM_LINE) × (value_of (Line i) ≡ i)
  pub comma_line : (i : ℕ) → (number_of (CommaLine i) ≡ CHIM_COMMA_LINE) × (value_of (CommaLine i) ≡ i)
  pub sum_full : (number_of SumFull ≡ CHIM_SUM_FULL) × (value_of SumFull ≡ 0)
  pub unequal : (number_of Unequal ≡ CHIM_UNEQUAL) × (value_of Unequal ≡ 0)
  pub no_bureau : (number_of NoBureau ≡ CHIM_NO_BUREAU) × (value_of NoBureau ≡ 0)
  pub bureau_full : (number_of BureauFull ≡ CHIM_BUREAU_FULL) × (value_of BureauFull ≡ 0)
  pub not_its_own : (number_of NotItsOwn ≡ CHIM_NOT_ITS_OWN) × (value_of NotItsOwn ≡ 0)
  pub tail : (number_of Tail ≡ CHIM_TAIL) × (value_of Tail ≡ 0)
  pub peak : (i : ℕ) → (number_of (Peak i) ≡ CHIM_PEAK) × (value_of (Peak i) ≡ i)
  pub situations : (number_of Situations ≡ CHIM_CONDITION) × (value_of Situations ≡ 0)
  pub timed_samples : (number_of TimedSamples ≡ CHIM_TIMED_SAMPLES) × (value_of TimedSamples ≡ 0)
  pub low_level : (i : ℕ) → (number_of (LowLevel i) ≡ CHIM_LOW_LEVEL) × (value_of (LowLevel i) ≡ i)
  pub no_spread : (number_of NoSpread ≡ CHIM_NO_SPREAD) × (value_of NoSpread ≡ 0)

-- codes; a rate that a verdict does not carry is 0
pub record Codes : Type 0 where
  pub no_record_lem : verdict_told NoRecord ≡ judgement CHIM_TAKEN CHIM_NO_RECORD zero64 zero64
  pub accept : (upper : Float) → verdict_told (Accept upper) ≡ judgement CHIM_TAKEN CHIM_ACCEPT zero64 upper
  pub reject : (lower : Float) → verdict_told (Reject lower) ≡ judgement CHIM_TAKEN CHIM_REJECT lower zero64
  pub continues : (lower upper : Float) → verdict_told (Continue lower upper)
      ≡ judgement CHIM_TAKEN CHIM_CONTINUE lower upper
  pub letters : (letter_code letter.Accept ≡ CHIM_ACCEPT) × (letter_code letter.Reject ≡ CHIM_REJECT)
      × (letter_code letter.Continue ≡ CHIM_CONTINUE)
  pub accepted : standing_code Accepted ≡ CHIM_ACCEPTED
  pub rejected : standing_code Rejected ≡ CHIM_REJECTED
  pub left_open : standing_code Open ≡ CHIM_OPEN
  pub roll : (i : ℕ) → channel_of (Sample i) ≡ CHIM_ROLL
  pub acceleration : (i : ℕ) → channel_of (Acceleration i) ≡ CHIM_ACCELERATION
  -- a sample x is 2x, and -2x - 1 below 0
  pub sample : (n : ℕ) → code_of (pos n) ≡ 2 * n
  pub below-zero : (n : ℕ) → code_of (negsuc n) ≡ 2 * (n + 1) - 1

-- sizes; that the report has room is Request13.enough
pub record Sizes : Type 0 where
  pub places : places ≡ CHIM_BENCH_PLACES
  pub situations : most_situations ≡ CHIM_MOST_SITUATIONS
  pub report : 40 + 28 * CHIM_MOST_SITUATIONS ≡ CHIM_REPORT_BYTES

-- an array that is taken is the numbers of its state
pub record Exactly : Type 0 where
  pub a_record : (s : List ℕ) → recording.sound (record_of s) ≡ true → of_record (record_of s) ≡ s
  pub a_campaign : (s : List ℕ) → campaigning.sound (campaign_of s) ≡ true → of_campaign (campaign_of s) ≡ s
  pub a_sum : (s : List ℕ) → summing.sound (sum_of s) ≡ true → of_sum (sum_of s) ≡ s
  pub first_pass : (s : List ℕ) → first.sound (survey_of s) ≡ true → of_survey (survey_of s) (ramp_of s) (ramp_left s) ≡ s
  pub second_pass : (s : List ℕ) → second.ready (handing_of s) ≡ true → of_handing (handing_of s) (handing_left s) ≡ s
  pub a_result : (s : List ℕ) → length s ≡ CHIM_RESULT_NUMBERS → of_result (result_of s) ≡ s
  pub a_row : (s : List ℕ) → length s ≡ CHIM_PLACE_NUMBERS → place_kept (place_of s) ≡ true → of_place (place_of s) ≡ s

pub record Header : Type 0 where
  pub a_record : (r : Record) → RecordPlaces r
  pub a_result : (x : RecordResult) → ResultPlaces x
  pub a_campaign : (c : Campaign) → CampaignPlaces c
  pub a_sum : (s : Sum) → SumPlaces s
  pub bounds : (b : Bounds) → BoundsPlaces b
  pub times : (t : Times) → TimesPlaces t
  pub first_pass : (t : Surveying) (R L : ℕ) → SurveyPlaces t R L
  pub second_pass : (h : Handing) (L : ℕ) → HandingPlaces h L
  pub a_row : (p : Place) → RowPlaces p
  pub refusals : Refusals
  pub codes : Codes
  pub sizes : Sizes
  pub exactly : Exactly

-- ---- the proof
-- an array, number by number
numbers : ℕ → ℕ → List ℕ → List ℕ
numbers zero i s = []
numbers (suc n) i s = number_at s i ∷ numbers n (suc i) s

numbered : (n i : ℕ) (s : List ℕ) → length s ≡ i + n → drop i s ≡ numbers n i s
unfolding numbers
numbered zero i s e = drop_of_length-le s {i = i} (omega arith)
numbered (suc n) i s e = drop-cons s i 0 (omega arith)
    ∙ ap (λ (l : List ℕ). number_at s i ∷ l) (numbered n (suc i) s (omega arith))

all : (n : ℕ) (s : List ℕ) → length s ≡ n → numbers n 0 s ≡ s
all n s e = sym (numbered n 0 s (omega arith))

flag_back : (k : ℕ) → leb k 1 ≡ true → flag (eqb k 1) ≡ k
flag_back zero h = refl
flag_back (suc zero) h = refl
flag_back (suc (suc k)) h = let l = leb-true (suc (suc k)) 1 h in absurd (omega arith)

code_back : (k : ℕ) → code_of (sample_of k) ≡ k
unfolding code_of sample_of
code_back k =
    by_test (eqb (k % 2) 0)
    (λ e. let h = eqb-true (k % 2) 0 e in rw e (omega arith))
    (λ e. let h = eqb-false (k % 2) 0 e in rw e (omega arith))

-- a test that did not hold, of an array that was taken
taken_so : {A : Type 0} {b : Bool} → b ≡ true → b ≡ false → A
taken_so h e = absurd (true≢false (sym h ∙ e))

record_exactly : (s : List ℕ) → recording.sound (record_of s) ≡ true → of_record (record_of s) ≡ s
unfolding record_of numbers
record_exactly s h =
    by_test (is_record s)
    (λ t.
    let l = eqb-true (length s) record_numbers (and-true (eqb (length s) record_numbers) _ t).0 in
    rw t (rw (code_back (number_at s 5), code_back (number_at s 13)) (all 14 s l)))
    (λ t. taken_so h (other_record s t))

campaign_exactly : (s : List ℕ) → campaigning.sound (campaign_of s) ≡ true → of_campaign (campaign_of s) ≡ s
unfolding campaign_of numbers
campaign_exactly s h =
    by_test (is_campaign s)
    (λ t.
    let g = and-true (eqb (length s) campaign_numbers) (leb (number_at s 4) 1) t in
    rw t (rw (flag_back (number_at s 4) g.1) (all 5 s (eqb-true (length s) campaign_numbers g.0))))
    (λ t. taken_so h (other_campaign s t))

sum_exactly : (s : List ℕ) → summing.sound (sum_of s) ≡ true → of_sum (sum_of s) ≡ s
unfolding sum_of summing.sound numbers
sum_exactly s h =
    by_test (eqb (length s) sum_numbers)
    (λ t. rw t (all 3 s (eqb-true (length s) sum_numbers t)))
    (λ t. taken_so h (rw t))

survey_exactly : (s : List ℕ) → first.sound (survey_of s) ≡ true → of_survey (survey_of s) (ramp_of s) (ramp_left s) ≡ s
unfolding survey_of numbers
survey_exactly s h =
    by_test (is_survey s)
    (λ t.
    let g = and-true (eqb (length s) survey_numbers) (survey_fits s) t in
    let r = survey_small s g.1 in
    let f = flag_back (number_at s 3) (peak_flag s 3 (reading_small s r.reading).best) in
    rw t (rw f (all 10 s (eqb-true (length s) survey_numbers g.0))))
    (λ t. taken_so h (other_survey s t))

handing_exactly : (s : List ℕ) → second.ready (handing_of s) ≡ true → of_handing (handing_of s) (handing_left s) ≡ s
unfolding handing_of numbers
handing_exactly s h =
    by_test (is_handing s)
    (λ t.
    let g = and-true (eqb (length s) handing_numbers) (handing_fits s) t in
    let r = handing_small s g.1 in
    let a = group_small s 6 r.stretches in
    let b = group_small s 13 r.chains in
    rw t (
    rw (
      flag_back (number_at s 3) (peak_flag s 3 (reading_small s r.reading).best),
      flag_back (number_at s 7) (peak_flag s 7 a.0),
      flag_back (number_at s 10) (peak_flag s 10 a.1),
      flag_back (number_at s 14) (peak_flag s 14 b.0),
      flag_back (number_at s 17) (peak_flag s 17 b.1),
    ) (all 24 s (eqb-true (length s) handing_numbers g.0))))
    (λ t. taken_so h (other_handing s t))

at_peak : (p : Top) (i : ℕ) (s : List ℕ) → number_at s i ≡ cond p.below 1 0 → number_at s (i + 1) ≡ p.size
    → number_at s (i + 2) ≡ p.time → PeakPlaces p i s
at_peak p i s a b d = record { below = a; size = b; time = d }

result_exactly : (s : List ℕ) → length s ≡ CHIM_RESULT_NUMBERS → of_result (result_of s) ≡ s
unfolding result_of numbers
result_exactly s l = rw (eq-eqb (length s) result_numbers l) (all 5 s l)

row_exactly : (s : List ℕ) → length s ≡ CHIM_PLACE_NUMBERS → place_kept (place_of s) ≡ true → of_place (place_of s) ≡ s
unfolding numbers
row_exactly s l h =
    by_test (leb (number_at s 5) 1)
    (λ t. rw (t, flag_back (number_at s 5) t) (all 6 s l))
    (λ t. taken_so h (rw t))

pub header : Header
unfolding verdict_told code_of
header =
    record {
      a_record =
          λ r.
          record {
            long = refl;
            step = refl;
            ramp = refl;
            roll_level = refl;
            decorrelation = refl;
            samples = refl;
            roll = refl;
            crossings = refl;
            largest_set = refl;
            first = refl;
            last_of_the_set = refl;
            last = refl;
            counted = refl;
            acceleration_level = refl;
            acceleration = refl;
          };
      a_result =
          λ x.
          record { long = refl; crossings = refl; counted = refl; first = refl; exposure = refl; largest_set = refl };
      a_campaign =
          λ c.
          record { long = refl; standard = refl; records = refl; failures = refl; exposure = refl; failed = refl };
      a_sum = λ s. record { long = refl; step = refl; failures = refl; samples = refl };
      bounds = λ b. record { long = refl; estimate = refl; lower = refl; upper = refl; time = refl };
      times = λ t. record { long = refl; estimated = refl; longest_accepted = refl; shortest_rejected = refl };
      first_pass =
          λ t R L.
          record {
            long = refl;
            step = refl;
            samples = refl;
            runs = refl;
            largest = at_peak t.reading.best 3 (of_survey t R L) refl refl refl;
            peaks = refl;
            sum = refl;
            ramp = refl;
            left = refl;
          };
      second_pass =
          λ h L.
          let s = of_handing h L in
          let e = h.envelope in
          record {
            long = refl;
            step = refl;
            samples = refl;
            runs = refl;
            largest = at_peak h.reading.best 3 s refl refl refl;
            stretches =
                record {
                  opened = refl;
                  last = at_peak e.stretches.last 7 s refl refl refl;
                  largest = at_peak e.stretches.best 10 s refl refl refl;
                };
            chains =
                record {
                  opened = refl;
                  last = at_peak e.chains.last 14 s refl refl refl;
                  largest = at_peak e.chains.best 17 s refl refl refl;
                };
            decorrelation = refl;
            peaks = refl;
            sum = refl;
            left = refl;
          };
      a_row = λ p. record { long = refl; owner = refl; campaign = refl };
      refusals =
          record {
            item = λ i. (refl, refl);
            sample = λ i. (refl, refl);
            acceleration = λ i. (refl, refl);
            too_long = (refl, refl);
            too_short = (refl, refl);
            campaign_full = (refl, refl);
            rows_used_up = (refl, refl);
            room = λ i. (refl, refl);
            broken_state = (refl, refl);
            situation = λ i. (refl, refl);
            line = λ i. (refl, refl);
            comma_line = λ i. (refl, refl);
            sum_full = (refl, refl);
            unequal = (refl, refl);
            no_bureau = (refl, refl);
            bureau_full = (refl, refl);
            not_its_own = (refl, refl);
            tail = (refl, refl);
            peak = λ i. (refl, refl);
            situations = (refl, refl);
            timed_samples = (refl, refl);
            low_level = λ i. (refl, refl);
            no_spread = (refl, refl);
          };
      codes =
          record {
            no_record_lem = refl;
            accept = λ upper. refl;
            reject = λ lower. refl;
            continues = λ lower upper. refl;
            letters = (refl, refl, refl);
            accepted = refl;
            rejected = refl;
            left_open = refl;
            roll = λ i. refl;
            acceleration = λ i. refl;
            sample = λ n. omega arith;
            below-zero = λ n. omega arith;
          };
      sizes = record { places = refl; situations = refl; report = refl };
      exactly =
          record {
            a_record = record_exactly;
            a_campaign = campaign_exactly;
            a_sum = sum_exactly;
            first_pass = survey_exactly;
            second_pass = handing_exactly;
            a_result = result_exactly;
            a_row = row_exactly;
          };
    }
