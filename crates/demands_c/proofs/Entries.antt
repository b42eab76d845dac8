-- Point by point what include/chimenickel.h says of its functions: read it beside the header. Of each function that may
-- refuse: what C is told is what its tests decide, in the order that stands at the function, and where none of them
-- holds it is the Rattle answer (`Tells`, in Telling: number, *carried, and every place of what was lent; a refusal
-- leaves all of it as it stood). And back: what an array stands for after a call is what the call left, so that the
-- next call finds that.
--
-- record_of, campaign_of, result_of and sum_of are the states that arrays stand for, of_record .. the numbers of a state
-- (capi's specs, Numbers; capi_sum's, Told); record_fed, campaign_entered .. are what the functions' contracts say (Told
-- of each crate). Header has the places and codes as numbers, Request9 the table of two bureaus, Pieces the peaks of a
-- record in pieces: chim_peaks_survey, chim_peaks_take, chim_peaks_begin, chim_peaks_hand_over and chim_peaks_last.
-- chim_record_first_crossing, chim_upper_row and chim_lower_row never refuse: their contracts say all of them. Assumes
-- nothing.
use mathlib.Core.Path.{◌≡◌, refl, ap, sym, ◌∙◌}
use mathlib.Core.Bool.{Bool, cond, false, not, true}
use mathlib.Core.List.{List, [], ◌∷◌, ◌++◌, foldl, map}
use Prim.Native.Nat.{ℕ, ◌+◌, ◌≤◌, ◌<◌}
use native.Mathlib.Omega.{arith}
use lib.Dec.{eqb, leb, ltb}
use lib.Ieee.{Float}
use lib.IntN.{ℤ}
use lib.ListN.{drop, length}
use borrow.Author.Tests.{eq-eqb, le-leb, le-ltb, lt-ltb, ne_eqb}
use Rattle.truth.proofs.Cases.{by_test}
use Rattle.truth.proofs.Laws.{impossible, true≢false}
use Rattle.refusal.specs.Numbers.{number_of}
use Rattle.refusal.specs.declared.Refusal.{Refusal}
use Rattle.refusal.specs.declared.Refusal.TheVariants.{BrokenState, BureauFull, CampaignFull, Item, Line, Room}
use Rattle.refusal.specs.declared.Refusal.TheVariants.{RowsUsedUp, TooLong, TooShort, Unequal}
use Rattle.sample_channels.specs.Channels.{any_bad, bad_sample, moments}
use Rattle.sample_items.specs.declared.Items.{Items}
use Rattle.sample_range.specs.Range.{first_bad}
use Rattle.sample_items.specs.Limits.{most_samples, step_in_range}
use Rattle.crossing_places.specs.Reading.{counted, counted_times}
use Rattle.record_list.specs.Answers as lists
use Rattle.record_state.specs.declared.Record.{Record}
use Rattle.record_state.specs.Answers.{opened}
use Rattle.record_state.specs.State.{sound, state_of, too_short}
use Rattle.record_step.specs.Step.{stepped}
use Rattle.record_feed.specs.Answers.{fed}
use Rattle.record_end.specs.declared.Outcome.{Outcome}
use Rattle.record_end.specs.declared.RecordResult.{RecordResult}
use Rattle.record_end.specs.Result.{ending, outcome_of}
use Rattle.record_end.specs.Result as results
use Rattle.campaign_state.specs.declared.Campaign.{Campaign}
use Rattle.campaign_state.specs.Answers as campaigns
use Rattle.campaign_state.specs.Answers.{entering, outcome_kept}
use Rattle.campaign_state.specs.State.{empty, entered, standard_in_range}
use Rattle.campaign_state.specs.State as campaigning
use Rattle.campaign_verdict.specs.declared.Rates.{Rates}
use Rattle.campaign_verdict.specs.declared.Verdict.{Verdict}
use Rattle.campaign_verdict.specs.declared.Verdict.TheVariants.{Accept, Continue, NoRecord, Reject}
use Rattle.campaign_verdict.specs.Figures.{rates_of, three, verdict_of, zero64}
use Rattle.binomial_sum.specs.declared.Sum.{Sum}
use Rattle.binomial_sum.specs.Answers as adding
use Rattle.binomial_sum.specs.State as sums
use Rattle.binomial_bounds.specs.Answers.{bounding, recorded}
use Rattle.binomial_bounds.specs.Bounds.{bounds_of}
use Rattle.binomial_bounds.specs.Bounds as spread
use Rattle.poisson.specs.Rows as quantiles
use Rattle.bureau_table.specs.declared.Ask.{Ask}
use Rattle.bureau_table.specs.declared.Ask.TheVariants.{On, Take}
use Rattle.bureau_table.specs.declared.Work.TheVariants.{Enter, GiveBack, Judge, Rate}
use Rattle.bureau_table.specs.Table.{at, jobs, lowest_free, most_jobs}
use Rattle.bureau_table.specs.Calls.{called}
use Rattle.campaign_condition.specs.Standing.{standing}
use Rattle.campaign_report.specs.Report.{report_text}
use Rattle.sheet_line.specs.declared.Sheet.{Sheet as Standing, Sheet}
use Rattle.sheet_line.specs.declared.Sheet.TheVariants.{Fresh, Open}
use Rattle.sheet_line.specs.Line.{stepping}
use Rattle.sheet_text.specs.declared.Reading.{Reading as Ending}
use Rattle.sheet_text.specs.declared.Reading.TheVariants as sheet
use Rattle.sheet_text.specs.Sheet.{after_step, meaning, reading_sheet}
use Rattle.sheet_records.specs.Ledger.{sheet_text}
use Rattle.sheet_records.specs.Records.{filled_by, records_of, resuming}
use Rattle.text.specs.Write.{laid_by}
use Rattle.decimal.specs.Lines.{lines_of}
use Rattle.comma_line.specs.Text.{samples_of, text_of}
use Rattle.comma_read.specs.Answers as intake
use Rattle.peak_groups.specs.Peaks.{handed}
use Rattle.peak_machine.specs.Step.{moment_of, size_of}
use Rattle.peak_envelope.specs.Answers as envelope
use Rattle.peak_tail.specs.Fitting.{Leaves, Summed}
use Rattle.demands.proofs.Demand1.{Decides, Test, demand_1, item_tests, list_tests, result_tests}
use Rattle.demands.proofs.Demand1.{◌gives◌, end, here, not_it}
use Rattle.demands.proofs.Request1 as request1
use Rattle.demands.proofs.Request2 as request2
use Rattle.demands.proofs.Request5.{request_5}
use Rattle.demands.proofs.Request7.{add_tests, broken_test, request_7}
use Rattle.demands.proofs.Request9.{call_tests, place_tests, request_9}
use Rattle.demands.proofs.Request11.{envelope_tests, request_11}
use Rattle.demands.proofs.Request13 as request13
use Rattle.demands.proofs.Tail.{tail_fitted, tail_tests}
use Rattle.demands.proofs.Request14.{beyond_tests, request_14}
use Rattle.peak_reach.specs.Answers as beyond
use Rattle.peak_reach.specs.Answers.{letter_for}
use Rattle.capi.specs.Numbers.{campaign_numbers, campaign_of, flag, number_at, of_campaign, of_record, of_result}
use Rattle.capi.specs.Numbers.{record_numbers, record_of, result_numbers, result_of}
use Rattle.capi.specs.Numbers.{is_campaign, is_record}
use Rattle.capi.specs.Told as telling
use Rattle.capi.specs.Told.{Told, campaign_kept, campaign_told, channel_in, record_kept, record_told, result_kept, result_told, write_told}
use Rattle.capi.proofs.States.{campaign_back, other_campaign, other_record, record_back, result_back}
use Rattle.capi_record.specs.Told.{channel_fed, channel_listed, list_channel, list_told, record_ended, record_fed}
use Rattle.capi_record.specs.Told.{record_listed, record_opened}
use Rattle.capi_campaign.specs.Told.{campaign_entered, campaign_opened, campaign_result_entered, outcome}
use Rattle.capi_verdict.specs.Told.{Judgement, Rating, campaign_censored, campaign_judged, campaign_rated, count_told}
use Rattle.capi_verdict.specs.Told.{judged_told, rated_told, verdict_told}
use Rattle.capi_verdict.specs.Told as verdict-told
use Rattle.capi_binomial.specs.Told.{bounds_numbers, bounds_told, of_bounds, of_sum, sum_added, sum_bounded, sum_kept, sum_numbers}
use Rattle.capi_binomial.specs.Told.{sum_of, sum_opened, sum_rated, sum_told}
use Rattle.capi_bureau.specs.Rows as row
use Rattle.capi_bureau.specs.Rows.{places_of, rows_left}
use Rattle.capi_bureau.specs.Told.{plain}
use Rattle.capi_bureau.specs.Told as bench-told
use Rattle.capi_condition.specs.Told.{campaigns_of, condition_judged, condition_reported, judge_told, standing_code}
use Rattle.capi_sheet.specs.Told.{sheet_column, sheet_line, sheet_read}
use Rattle.capi_sheet_records.specs.Told.{records_column, records_left, records_line, records_read, records_standard, sheet_written}
use Rattle.capi_sheet_records.specs.Told as ledgers
use Rattle.capi_comma.specs.Told.{comma_read, comma_samples, comma_written}
use Rattle.capi_comma.specs.Told as commas
use Rattle.capi_envelope.specs.Told.{envelope_found, envelope_times, found_told}
use Rattle.capi_tail.specs.Told.{FitTold, fit_told}
use Rattle.capi_reach.specs.Told.{beyond_told, letter_code, of_times, reach_told, times_numbers}
use Rattle.demands_c.specs.Header.{CHIM_EXPOSURE, CHIM_FIRST}
use Rattle.demands_c.specs.History.{made}
use Rattle.demands_c.proofs.Request9.{rows_9}
use Rattle.demands_c.proofs.Telling.{Left, Names, Tells, both_ways, left, names, refusal, some_number, taken}
use Rattle.demands_c.proofs.Telling.{tells, tested_first}
use Rattle.bureau_table.specs.declared.Reply.TheVariants.{Placed, Entered, Judged, Rated, Freed}
use Rattle.bureau_table.specs.declared.Reply.{Reply}
use Rattle.std.specs.Prelude.{Some, None, Result, Ok, Err}

-- ---- the statement
-- what C is told where one array of numbers was lent; where none was, `nothing` stands for it
abbrev pub array : Told → Left (List ℕ)
array t = left t.number t.carried t.lent

abbrev pub nothing : List ℕ
nothing = []

-- an array that has not n places is 8, before anything else
abbrev pub other_length : List ℕ → ℕ → List Test → List Test
other_length s n ts = not (eqb (length s) n) gives BrokenState ∷ ts

-- 8, 12, 2, 3
abbrev pub feed_tests : Record → List ℤ → List ℤ → List Test
feed_tests r xs ys =
    not (sound r) gives BrokenState
    ∷ (not (eqb (length xs) (length ys)) gives Unequal
    ∷ (any_bad xs ys gives bad_sample (first_bad xs) (first_bad ys)
    ∷ (ltb (most_samples r.items.step r.items.ramp) (r.n + length xs) gives TooLong
    ∷ [])))

-- what a call leaves of a record, of a campaign
abbrev pub record_left : Result Record Refusal → Record → Record
record_left (Ok t) r = t
record_left (Err f) r = r

abbrev pub campaign_left : Result Campaign Refusal → Campaign → Campaign
campaign_left (Ok d) c = d
campaign_left (Err f) c = c

-- ---- a record
pub record Records : Type 0 where
  -- chim_record_open: 8 (the array's length), 1
  pub opens :
      (items : Items) (s : List ℕ)
      → Tells (other_length s record_numbers (item_tests items [])) s 0 (of_record (state_of items []))
      (array (record_opened items s))
  pub open_stands :
      (items : Items) (s : List ℕ) → length s ≡ record_numbers
      → record_of (record_opened items s).lent ≡ record_left (opened items) (record_of s)
  -- chim_record_feed: 8, 12, 2, 3
  pub feed :
      (s : List ℕ) (xs ys : List ℤ)
      → Tells (feed_tests (record_of s) xs ys) s 0 (of_record (foldl stepped (record_of s) (moments xs ys)))
      (array (record_fed s xs ys))
  pub feed_channel : (s : List ℕ) (xs ys : List ℤ) → Names (feed_tests (record_of s) xs ys) (channel_fed s xs ys)
  pub feed_stands : (s : List ℕ) (xs ys : List ℤ) → record_of (record_fed s xs ys).lent
      ≡ record_left (fed (record_of s) xs ys) (record_of s)
  -- chim_record_end: 8 (the result's length, the record), 4; the record is read and not changed
  pub end :
      (s x : List ℕ)
      → Tells
      (other_length x result_numbers (not (sound (record_of s)) gives BrokenState ∷
      (too_short (record_of s) gives TooShort ∷ [])))
      x 0 (of_result (results.result_of (record_of s))) (array (record_ended s x))
  pub end_stands : (s x : List ℕ) (y : RecordResult) → length x ≡ result_numbers → ending (record_of s) ≡ Ok y
      → result_of (record_ended s x).lent ≡ y
  -- chim_record_list: 1, 12, 2, 3, 4, 7
  pub list :
      (items : Items) (xs ys : List ℤ) (s : List ℕ)
      → Tells (item_tests items (list_tests items xs ys (length s))) s
      (length (counted items (moments xs ys)))
      (counted_times items (moments xs ys) ++ drop (length (counted items (moments xs ys))) s)
      (array (record_listed items xs ys s))
  pub list_channel_lem :
      (items : Items) (xs ys : List ℤ) (s : List ℕ)
      → Names (item_tests items (list_tests items xs ys (length s))) (channel_listed items xs ys s)

-- ---- a campaign
-- 8 (the campaign, the result), 5, 6
abbrev pub enter_tests : Campaign → Outcome → List Test
enter_tests c o = not (campaigning.sound c) gives BrokenState ∷ result_tests c o

pub record Campaigns : Type 0 where
  -- chim_campaign_open: 8 (the array's length), 1
  pub opens :
      (q : ℕ) (s : List ℕ)
      → Tells (other_length s campaign_numbers (not (standard_in_range q) gives Item 5 ∷ [])) s 0 (of_campaign (empty q))
      (array (campaign_opened q s))
  pub open_stands : (q : ℕ) (s : List ℕ) → length s ≡ campaign_numbers → campaign_of (campaign_opened q s).lent
      ≡ campaign_left (campaigns.opened q) (campaign_of s)
  -- chim_campaign_enter: 8 (the flag, the state, the exposure), 5, 6
  pub enter :
      (s : List ℕ) (f t : ℕ)
      → Tells (not (leb f 1) gives BrokenState ∷ enter_tests (campaign_of s) (outcome f t)) s
      0 (of_campaign (entered (campaign_of s) (eqb f 1) t)) (array (campaign_entered s f t))
  pub enter_stands : (s : List ℕ) (f t : ℕ) → f ≤ 1 → campaign_of (campaign_entered s f t).lent
      ≡ campaign_left (entering (campaign_of s) (outcome f t)) (campaign_of s)
  -- chim_campaign_enter_result: 8 (the result's length, the state, the exposure), 5, 6
  pub enter_result :
      (s x : List ℕ)
      → let o = outcome_of (result_of x) in
      Tells (other_length x result_numbers (enter_tests (campaign_of s) o)) s
      0 (of_campaign (entered (campaign_of s) o.failed o.exposure)) (array (campaign_result_entered s x))
  pub enter_result_stands :
      (s x : List ℕ) → campaign_of (campaign_result_entered s x).lent
      ≡ campaign_left (entering (campaign_of s) (outcome_of (result_of x))) (campaign_of s)
  -- of a result's numbers it reads whether the first failure's place is 0, and the exposure, and no other
  pub reads_two :
      (s x y : List ℕ) → length x ≡ result_numbers → length y ≡ result_numbers
      → eqb (number_at x CHIM_FIRST) 0 ≡ eqb (number_at y CHIM_FIRST) 0
      → number_at x CHIM_EXPOSURE ≡ number_at y CHIM_EXPOSURE
      → campaign_result_entered s x ≡ campaign_result_entered s y
  -- closing in two ([4]): what ending left, entered, is what entering answers of that result
  pub in_two :
      (s x c : List ℕ) (y : RecordResult) → length x ≡ result_numbers → ending (record_of s) ≡ Ok y
      → campaign_result_entered c (record_ended s x).lent ≡ campaign_kept (entering (campaign_of c) (outcome_of y)) c

-- ---- what a campaign says: 8, and the campaign is read and not changed
-- two lent rates, *lower and *upper
pub record Two : Type 0 where
  pub lower : Float
  pub upper : Float

abbrev pub two : Float → Float → Two
two x y = record { lower = x; upper = y }

abbrev pub judged : Judgement → Left Two
judged j = left j.number j.carried (two j.lower j.upper)

abbrev pub rated : Rating → Left Rates
rated r = left r.number r.carried r.rates

abbrev pub broken : Campaign → List Test
broken c = not (campaigning.sound c) gives BrokenState ∷ []

pub record Verdicts : Type 0 where
  -- chim_campaign_censored
  pub censored :
      (s : List ℕ)
      → Tells (broken (campaign_of s)) nothing (campaigning.censored (campaign_of s)) nothing
      (left (campaign_censored s).number (campaign_censored s).carried nothing)
  -- chim_campaign_verdict; verdictTold's four cases are in Header
  pub verdict :
      (s : List ℕ) (x y : Float)
      → let v = verdict_told (verdict_of (campaign_of s)) in
      Tells (broken (campaign_of s)) (two x y) v.carried (two v.lower v.upper) (judged (campaign_judged s x y))
  -- chim_campaign_rates
  pub rates :
      (s : List ℕ) (y : Rates)
      → Tells (broken (campaign_of s)) y (flag (not (eqb (campaign_of s).records 0))) (rates_of (campaign_of s))
      (rated (campaign_rated s y))

-- ---- a sum: 8 covers an array of another length, which holds no sum
abbrev pub sum_left : Result Sum Refusal → Sum → Sum
sum_left (Ok t) s = t
sum_left (Err f) s = s

pub record Sums : Type 0 where
  -- chim_sum_open: 8 (the array's length), 1
  pub opens : (D : ℕ) (s : List ℕ) → Tells (other_length s sum_numbers (not (step_in_range D) gives Item 1 ∷ [])) s 0
      (of_sum (sums.empty D)) (array (sum_opened D s))
  pub open_stands : (D : ℕ) (s : List ℕ) → length s ≡ sum_numbers → sum_of (sum_opened D s).lent
      ≡ sum_left (adding.opened D) (sum_of s)
  -- chim_sum_add: 8 (the sum, the record), 4, 1, 11; the record is read and not changed
  pub add :
      (s r : List ℕ)
      → Tells (add_tests (sum_of s) (record_of r)) s 0
      (of_sum (sums.grown (sum_of s) (record_of r).groups (sums.timed (record_of r)))) (array (sum_added s r))
  pub add_stands : (s r : List ℕ) → sum_of (sum_added s r).lent
      ≡ sum_left (adding.adding (sum_of s) (record_of r)) (sum_of s)
  -- chim_sum_bounds: 8 (the bounds' length, the sum)
  pub bounds :
      (s out : List ℕ)
      → Tells (other_length out bounds_numbers (broken_test (sum_of s))) out (flag (recorded (sum_of s)))
      (of_bounds (bounds_of (sum_of s))) (array (sum_bounded s out))
  -- chim_sum_rates: 8
  pub rates : (s : List ℕ) (y : Rates) → Tells (broken_test (sum_of s)) y (flag (recorded (sum_of s)))
      (spread.rates_of (sum_of s)) (rated (sum_rated s y))

-- ---- a loading condition; its campaigns are read and not changed
pub record Conditions : Type 0 where
  -- chim_condition_judge: 18, 8 with the situation
  pub judge :
      (rows : List (List ℕ))
      → Tells (request13.tests (length rows) (campaigns_of rows) []) nothing
      (standing_code (standing (campaigns_of rows))) nothing (array (condition_judged rows))
  -- chim_condition_report: 18, 8 with the situation, 7; the bytes after the report stay
  pub report :
      (rows : List (List ℕ)) (out : List ℕ)
      → let text = report_text (campaigns_of rows) in
      Tells (request13.write_tests (length rows) (campaigns_of rows) (length out)) out
      (length text) (text ++ drop (length text) out) (array (condition_reported rows out))

-- ---- a job sheet
-- what a whole text ends in: the campaign, or the first refusal with its line and column
pub data Ends : Ending → Type 0 where
  cleanly : (c : Campaign) → Ends (sheet.Read c)
  stopped : (line column : ℕ) (r : Refusal) → Ends (sheet.Stopped line column r)

-- what chim_sheet_records leaves: the number, *carried and the lent records; *standard, *line and *column
pub record SheetRecords (text : List ℕ) (slice : List ℤ) (x : Left (List ℤ)) (q l k : ℕ) : Type 0 where
  pub told : left (records_read text slice).number (records_read text slice).carried (records_left text slice) ≡ x
  pub standard : records_standard text slice ≡ q
  pub line : records_line text slice ≡ l
  pub column : records_column text slice ≡ k

pub record Sheets : Type 0 where
  pub ends : (text : List ℕ) → Ends (meaning text).end
  -- chim_sheet_read: 8 (the array's length), on no line; then as the sheet ends
  pub other_length_lem :
      (text s : List ℕ) → ¬ (length s ≡ campaign_numbers)
      → (array (sheet_read text s) ≡ refusal s BrokenState) × (sheet_line text s ≡ 0) × (sheet_column text s ≡ 0)
  pub read :
      (text s : List ℕ) (c : Campaign) → length s ≡ campaign_numbers → (meaning text).end ≡ sheet.Read c
      → (array (sheet_read text s) ≡ taken 0 (of_campaign c)) × (sheet_line text s ≡ 0) × (sheet_column text s ≡ 0)
  pub refuses :
      (text s : List ℕ) (line column : ℕ) (r : Refusal) → length s ≡ campaign_numbers → (meaning text).end
      ≡ sheet.Stopped line column r
      → (array (sheet_read text s) ≡ refusal s r) × (sheet_line text s ≡ line) × (sheet_column text s ≡ column)
  pub read_stands : (text s : List ℕ) (c : Campaign) → length s ≡ campaign_numbers → (meaning text).end ≡ sheet.Read c
      → campaign_of (sheet_read text s).lent ≡ c
  -- chim_sheet_write: 1, record by record 4, 3, 5, 6, then 7; the bytes after the sheet stay
  pub write :
      (q : ℕ) (xs : List ℤ) (out : List ℕ)
      → Tells (request2.write_tests q xs (length out)) out
      (length (sheet_text q xs)) (sheet_text q xs ++ drop (length (sheet_text q xs)) out) (array (sheet_written q xs out))
  -- chim_sheet_records: the sheet's own refusals, then 7, on no line; else the records, whose other places stay, and
  -- the standard
  pub records_refused :
      (text : List ℕ) (slice : List ℤ) (line column : ℕ) (r : Refusal) → (meaning text).end ≡ sheet.Stopped line column r
      → SheetRecords text slice (refusal slice r) 0 line column
  pub records_room :
      (text : List ℕ) (slice : List ℤ) (c : Campaign) → (meaning text).end ≡ sheet.Read c → length slice < c.records
      → SheetRecords text slice (refusal slice (Room c.records)) 0 0 0
  pub records_read_lem :
      (text : List ℕ) (slice : List ℤ) (c : Campaign) → (meaning text).end ≡ sheet.Read c → c.records ≤ length slice
      → SheetRecords text slice (taken c.records (records_of text ++ drop c.records slice)) c.standard 0 0

-- ---- a comma file; what stands after the samples or the text stays
pub record Commas : Type 0 where
  -- chim_comma_read: 1, 10, 2, 7
  pub read :
      (D : ℕ) (text : List ℕ) (slice : List ℤ)
      → let lines = lines_of text in
      Tells (request1.read_tests D lines (length slice)) slice (length lines)
      (samples_of lines ++ drop (length lines) slice)
      (left (comma_read D text slice).number (comma_read D text slice).carried (comma_samples D text slice))
  -- chim_comma_write: 1, 2, 3, 7
  pub write :
      (D : ℕ) (xs : List ℤ) (out : List ℕ)
      → Tells (request1.write_tests D xs (length out)) out
      (length (text_of D xs)) (text_of D xs ++ drop (length (text_of D xs)) out) (array (comma_written D xs out))

-- ---- envelope peaks, and a tail
-- two lent slices, `sizes` and `times`
pub record Slices : Type 0 where
  pub sizes : List ℕ
  pub times : List ℕ

abbrev pub slices : List ℕ → List ℕ → Slices
slices s t = record { sizes = s; times = t }

pub record Peaks : Type 0 where
  -- chim_envelope_find: 1, 2, 3, 4, 7; what stands after the peaks stays
  pub find :
      (D R τ : ℕ) (xs : List ℤ) (sizes times : List ℕ)
      → let peaks = handed D R τ xs in
      let x = envelope_found D R τ xs sizes times in
      Tells (envelope_tests D R τ xs (length sizes) (length times)) (slices sizes times) (length peaks)
      (slices (map size_of peaks ++ drop (length peaks) sizes) (map moment_of peaks ++ drop (length peaks) times))
      (left x.number x.carried (slices x.lent (envelope_times D R τ xs sizes times)))
  -- chim_tail_fit: 16, 17, 7; what it may carry and leave without a refusal is document 02's ([12], Summed)
  pub fit :
      (peaks : List ℕ) (k : ℕ) (before : List ℕ) (n c : ℕ) (after : List ℕ) → FitTold peaks k before n c after
      → Tells (tail_tests peaks k (length before)) before c after (left n c after)
  pub fit_sum :
      (peaks : List ℕ) (k : ℕ) (before : List ℕ) (c : ℕ) (after : List ℕ) → FitTold peaks k before 0 c after
      → Summed peaks k before c after
  -- chim_extrapolate: 8 (the times' length), 1, 16, 17, 19, 20, 21
  pub extrapolate :
      (ys : List ℕ) (k c D P q : ℕ) (out : List ℕ)
      → Tells (other_length out times_numbers (beyond_tests ys k c D P q)) out
      (letter_code (letter_for q (beyond.times ys k c D P))) (of_times (beyond.times ys k c D P))
      (array (beyond_told ys k c D P q out))

-- ---- the table of two bureaus: 8 first of all, 13, then 14 or 15
-- lent rates beside the rows
pub record Beside (A : Type 0) : Type 0 where
  pub rates : A
  pub rows : List (List ℕ)

abbrev pub beside : {A : Type 0} → A → List (List ℕ) → Beside A
beside x rows = record { rates = x; rows = rows }

-- what C is told of a call's answer, and the rows that it leaves
abbrev pub told_plain : List (List ℕ) → ℕ → Ask → Left (List (List ℕ))
told_plain rows b a = let x = plain (made rows b a).answer in left x.number x.carried (made rows b a).rows

abbrev pub told_verdict : List (List ℕ) → ℕ → ℕ → Float → Float → Left (Beside Two)
told_verdict rows b i x y =
    let j = bench-told.judged (made rows b (On i Judge)).answer x y in
    left j.number j.carried (beside (two j.lower j.upper) (made rows b (On i Judge)).rows)

abbrev pub told_rates : List (List ℕ) → ℕ → ℕ → Rates → Left (Beside Rates)
told_rates rows b i y =
    let r = bench-told.rated (made rows b (On i Rate)).answer y in
    left r.number r.carried (beside r.rates (made rows b (On i Rate)).rows)

pub record Benches (rows : List (List ℕ)) (b : ℕ) : Type 0 where
  -- chim_bench_take: 8, 13, 14, 1
  pub take :
      (q : ℕ)
      → let t = places_of rows in
      Tells (call_tests t b (leb most_jobs (jobs b t) gives BureauFull ∷
      (not (standard_in_range q) gives Item 5 ∷ []))) rows
      (lowest_free t) (rows_left rows (called t b (Take q)).table) (told_plain rows b (Take q))
  -- chim_bench_enter: 8, 13, 15, 8 (the flag or the exposure), 5, 6
  pub enter :
      (i f x : ℕ)
      → let t = places_of rows in
      let o = row.outcome_of f x in
      Tells
      (place_tests t b i
      (not (outcome_kept o) gives BrokenState
      ∷ (eqb (at t i).campaign.records campaigning.most_records gives CampaignFull
      ∷ (eqb (at t i).campaign.failures quantiles.rows gives RowsUsedUp
      ∷ []))))
      rows 0 (rows_left rows (called t b (On i (Enter o))).table) (told_plain rows b (On i (Enter o)))
  -- chim_bench_give_back: 8, 13, 15
  pub give_back :
      (i : ℕ)
      → let t = places_of rows in
      Tells (place_tests t b i []) rows 0 (rows_left rows (called t b (On i GiveBack)).table)
      (told_plain rows b (On i GiveBack))
  -- chim_bench_verdict: 8, 13, 15; the rows stay
  pub verdict :
      (i : ℕ) (x y : Float)
      → let v = verdict_told (verdict_of (at (places_of rows) i).campaign) in
      Tells (place_tests (places_of rows) b i []) (beside (two x y) rows) v.carried
      (beside (two v.lower v.upper) rows) (told_verdict rows b i x y)
  -- chim_bench_rates: 8, 13, 15; the rows stay
  pub rates :
      (i : ℕ) (y : Rates)
      → let c = (at (places_of rows) i).campaign in
      Tells (place_tests (places_of rows) b i []) (beside y rows) (flag (not (eqb c.records 0)))
      (beside (rates_of c) rows) (told_rates rows b i y)

-- ---- every entry
pub record Entries : Type 0 where
  pub records : Records
  pub campaigns : Campaigns
  pub verdicts : Verdicts
  pub sums : Sums
  pub benches : (rows : List (List ℕ)) (b : ℕ) → Benches rows b
  pub conditions : Conditions
  pub sheets : Sheets
  pub commas : Commas
  pub peaks : Peaks

-- ---- the proof
-- arrays of another length
module _ {A : Type 0} (s : List ℕ) (n : ℕ) (tell : A → Told) (a : A) where
  abbrev pub kept : Told
  kept = cond (eqb (length s) n) (tell a) (record { number = 8; carried = 0; lent = s })

  pub in_array : {ts : List Test} {answer : ℕ} {after : List ℕ} → Tells ts s answer after (array (tell a))
      → Tells (other_length s n ts) s answer after (array kept)
  in_array t =
      tested_first t (not (eqb (length s) n)) BrokenState (array kept) (other (eqb (length s) n) refl)
      (fits (eqb (length s) n) refl)
    where
      other : (b : Bool) → eqb (length s) n ≡ b → not b ≡ true → array kept ≡ refusal s BrokenState
      other true e h = absurd (true≢false (sym h))
      other false e h = rw e

      fits : (b : Bool) → eqb (length s) n ≡ b → not b ≡ false → array kept ≡ array (tell a)
      fits true e h = rw e
      fits false e h = absurd (true≢false h)

-- two answers that differ only in what stands beside them
module _ (s : List ℕ) where
  tell_record : Result Record Refusal → Left (List ℕ)
  tell_record a = array (record_told a s)

  tell_campaign : Result Campaign Refusal → Left (List ℕ)
  tell_campaign a = array (campaign_told a s)

  tell_result : Result RecordResult Refusal → Left (List ℕ)
  tell_result a = array (result_told a s)

  tell_list : List ℕ → Result ℕ Refusal → Left (List ℕ)
  tell_list times a = array (list_told a (lists.written a times s))

-- an array that holds no state needs no test of its length: 8 is given all the same
module _ {A : Type 0} (s : List ℕ) (n : ℕ) (tell : A → Told) (refused : Refusal → A)
    (on-refused : (r : Refusal) → array (tell (refused r)) ≡ refusal s r) (a : A) where
  unneeded : (eqb (length s) n ≡ false → a ≡ refused BrokenState) → array (kept s n tell a) ≡ array (tell a)
  unneeded h = go (eqb (length s) n) refl
    where
      go : (b : Bool) → eqb (length s) n ≡ b → array (kept s n tell a) ≡ array (tell a)
      go true e = rw e
      go false e = rw (e, h e) (sym (on-refused BrokenState))

module _ (s : List ℕ) where
  on_record : (r : Refusal) → tell_record s (Err r) ≡ refusal s r
  unfolding tell_record record_told
  on_record r = refl

  on_campaign : (r : Refusal) → tell_campaign s (Err r) ≡ refusal s r
  unfolding tell_campaign campaign_told
  on_campaign r = refl

  on_result : (r : Refusal) → tell_result s (Err r) ≡ refusal s r
  unfolding tell_result result_told
  on_result r = refl

  on_list : (times : List ℕ) (r : Refusal) → tell_list s times (Err r) ≡ refusal s r
  unfolding tell_list list_told lists.written
  on_list times r = refl

-- an array of another length holds no record and no campaign
no_record_lem : (s : List ℕ) → eqb (length s) record_numbers ≡ false → is_record s ≡ false
no_record_lem s e = rw e

no_campaign : (s : List ℕ) → eqb (length s) campaign_numbers ≡ false → is_campaign s ≡ false
no_campaign s e = rw e

fed_other : (s : List ℕ) (xs ys : List ℤ) → eqb (length s) record_numbers ≡ false → fed (record_of s) xs ys
    ≡ Err BrokenState
unfolding fed
fed_other s xs ys e = rw (other_record s (no_record_lem s e))

entered_other : (s : List ℕ) (o : Outcome) → eqb (length s) campaign_numbers ≡ false → entering (campaign_of s) o
    ≡ Err BrokenState
unfolding entering
entered_other s o e = rw (other_campaign s (no_campaign s e))

-- what arrays stand for afterwards
left_record : (a : Result Record Refusal) (s : List ℕ) → ((t : Record) → a ≡ Ok t → sound t ≡ true)
    → record_of (record_told a s).lent ≡ record_left a (record_of s)
unfolding record_told
left_record (Ok t) s good = record_back t (good t refl)
left_record (Err f) s good = refl

left_campaign : (a : Result Campaign Refusal) (s : List ℕ) → campaign_of (campaign_told a s).lent ≡ campaign_left a (campaign_of s)
unfolding campaign_told
left_campaign (Ok d) s = campaign_back d
left_campaign (Err f) s = refl

stands_record : (a : Result Record Refusal) (s : List ℕ) → ((t : Record) → a ≡ Ok t → sound t ≡ true)
    → (eqb (length s) record_numbers ≡ false → a ≡ Err BrokenState)
    → record_of (record_kept a s).lent ≡ record_left a (record_of s)
unfolding record_kept
stands_record a s good other = by_test (eqb (length s) record_numbers) (λ e. rw e (left_record a s good))
    (λ e. rw (e, other e))

stands_campaign : (a : Result Campaign Refusal) (s : List ℕ)
    → (eqb (length s) campaign_numbers ≡ false → a ≡ Err BrokenState)
    → campaign_of (campaign_kept a s).lent ≡ campaign_left a (campaign_of s)
unfolding campaign_kept
stands_campaign a s other = by_test (eqb (length s) campaign_numbers) (λ e. rw e (left_campaign a s))
    (λ e. rw (e, other e))

-- a length is not another
not_other : {A : Type 0} {n m : ℕ} → n ≡ m → eqb n m ≡ false → A
not_other {n = n} {m} e f = absurd (true≢false (sym (eq-eqb n m e) ∙ f))

ended_array : (s x : List ℕ) (y : RecordResult) → length x ≡ result_numbers → ending (record_of s) ≡ Ok y
    → (record_ended s x).lent ≡ of_result y
unfolding result_kept result_told
ended_array s x y l e = rw (eq-eqb (length x) result_numbers l, e)

pub records : Records
unfolding record_kept record_told result_kept result_told tell_record tell_result tell_list list_told lists.written channel_in list_channel
records =
    record {
      opens =
          λ items s.
          in_array s record_numbers (λ x. record_told x s) (opened items)
          (tells (demand_1.open_record items) (tell_record s) s 0 _ _ (on_record s) refl refl);
      open_stands = λ items s l. stands_record (opened items) s (request_5.fresh items) (not_other l);
      feed =
          λ s xs ys.
          tells (demand_1.feed (record_of s) xs ys) (tell_record s) s 0 _ _ (on_record s) refl
          (unneeded s record_numbers (λ x. record_told x s) Err (on_record s) (fed (record_of s) xs ys)
          (fed_other s xs ys));
      feed_channel = λ s xs ys. names (demand_1.feed (record_of s) xs ys) channel_in (λ r. refl) refl;
      feed_stands = λ s xs ys. stands_record (fed (record_of s) xs ys) s (request_5.handed (record_of s) xs ys)
          (fed_other s xs ys);
      end =
          λ s x.
          in_array x result_numbers (λ y. result_told y x) (ending (record_of s))
          (tells (demand_1.end (record_of s)) (tell_result x) x 0 _ _ (on_result x) refl refl);
      end_stands = λ s x y l e. rw (ended_array s x y l e) (result_back y);
      list =
          λ items xs ys s.
          tells (demand_1.list items xs ys (length s)) (tell_list s (counted_times items (moments xs ys))) s _ _ _
          (on_list s (counted_times items (moments xs ys))) refl refl;
      list_channel_lem = λ items xs ys s. names (demand_1.list items xs ys (length s)) list_channel (λ r. refl) refl;
    }

-- an array that holds no result
no_result_lem : (x : List ℕ) (c : Campaign) → eqb (length x) result_numbers ≡ false → entering c (outcome_of (result_of x))
    ≡ Err BrokenState
unfolding entering result_of
no_result_lem x c e = by_test (campaigning.sound c) (λ h. rw (e, h)) (λ h. rw h)

same_outcome : {f g : Bool} {t u : ℕ} → f ≡ g → t ≡ u
    → ◌≡◌ {A = Outcome} (record { failed = f; exposure = t }) (record { failed = g; exposure = u })
same_outcome e h = cc

two_read : (x y : List ℕ) → length x ≡ result_numbers → length y ≡ result_numbers → eqb (number_at x 2) 0
    ≡ eqb (number_at y 2) 0 → number_at x 3 ≡ number_at y 3
    → outcome_of (result_of x) ≡ outcome_of (result_of y)
unfolding result_of
two_read x y l m e f = rw (eq-eqb (length x) result_numbers l, eq-eqb (length y) result_numbers m)
    (same_outcome (ap not e) f)

module _ (s : List ℕ) (o : Outcome) where
  -- entering, told without a test of its own for the array's length
  enters : Tells (enter_tests (campaign_of s) o) s 0 (of_campaign (entered (campaign_of s) o.failed o.exposure))
      (array (campaign_kept (entering (campaign_of s) o) s))
  unfolding campaign_kept campaign_told tell_campaign
  enters =
      tells (demand_1.enter (campaign_of s) o) (tell_campaign s) s 0 _ _ (on_campaign s) refl
      (unneeded s campaign_numbers (λ x. campaign_told x s) Err (on_campaign s) (entering (campaign_of s) o)
      (entered_other s o))

  enters_stands : campaign_of (campaign_kept (entering (campaign_of s) o) s).lent
      ≡ campaign_left (entering (campaign_of s) o) (campaign_of s)
  enters_stands = stands_campaign (entering (campaign_of s) o) s (entered_other s o)

-- an answer that is refused by 8 is told so, whatever the array
kept_broken : (a : Result Campaign Refusal) (s : List ℕ) → a ≡ Err BrokenState → array (campaign_kept a s)
    ≡ refusal s BrokenState
unfolding campaign_kept campaign_told
kept_broken a s e = by_test (eqb (length s) campaign_numbers) (λ h. rw (h, e)) (λ h. rw h)

-- not (not b)
turned : (b : Bool) → not b ≡ true → b ≡ false
turned true h = sym h
turned false h = refl

turned_back : (b : Bool) → not b ≡ false → b ≡ true
turned_back true h = refl
turned_back false h = sym h

pub campaigns_told : Campaigns
unfolding campaign_kept campaign_told campaign_entered tell_campaign
campaigns_told =
    record {
      opens =
          λ q s.
          in_array s campaign_numbers (λ x. campaign_told x s) (campaigns.opened q)
          (tells (demand_1.open_campaign q) (tell_campaign s) s 0 _ _ (on_campaign s) refl refl);
      open_stands = λ q s l. stands_campaign (campaigns.opened q) s (not_other l);
      enter =
          λ s f t.
          tested_first (enters s (outcome f t)) (not (leb f 1)) BrokenState _
          (λ h. rw (turned (leb f 1) h)) (λ h. rw (turned_back (leb f 1) h));
      enter_stands = λ s f t l. rw (le-leb f 1 l) (enters_stands s (outcome f t));
      enter_result =
          λ s x.
          tested_first (enters s (outcome_of (result_of x))) (not (eqb (length x) result_numbers)) BrokenState _
          (λ h. kept_broken (entering (campaign_of s) (outcome_of (result_of x))) s
          (no_result_lem x (campaign_of s) (turned _ h))) (λ h. refl);
      enter_result_stands = λ s x. enters_stands s (outcome_of (result_of x));
      reads_two = λ s x y l m e f. ap (λ (o : Outcome). campaign_kept (entering (campaign_of s) o) s)
          (two_read x y l m e f);
      in_two = λ s x c y l e. rw (ended_array s x y l e, result_back y);
    }

verdict_taken : (v : Verdict) → judged (verdict_told v)
    ≡ taken (verdict_told v).carried (two (verdict_told v).lower (verdict_told v).upper)
unfolding verdict_told
verdict_taken NoRecord = refl
verdict_taken (Accept y) = refl
verdict_taken (Reject x) = refl
verdict_taken (Continue x y) = refl

-- rates that are missing are told as 0 each
abbrev none_rated : Rates
none_rated = record { estimate = zero64; lower = zero64; upper = zero64 }

rates_taken : (none : Bool) (three y : Rates)
    → rated (rated_told (Ok (cond (not none) (Some (cond none none_rated three)) None)) y) ≡ taken (flag (not none)) (cond none none_rated three)
unfolding rated_told verdict-told.told_rates
rates_taken true three y = refl
rates_taken false three y = refl

pub verdicts_told : Verdicts
unfolding count_told judged_told rated_told
verdicts_told =
    record {
      censored =
          λ s.
          tells (demand_1.censored (campaign_of s))
          (λ a. left (count_told a).number (count_told a).carried nothing) nothing _ nothing _
          (λ r. refl) refl refl;
      verdict = λ s x y. tells (demand_1.verdict (campaign_of s)) (λ a. judged (judged_told a x y)) (two x y) _ _ _
          (λ r. refl) (verdict_taken (verdict_of (campaign_of s))) refl;
      rates = λ s y. tells (demand_1.rates (campaign_of s)) (λ a. rated (rated_told a y)) y _ _ _ (λ r. refl)
          (rates_taken (eqb (campaign_of s).records 0) (three (campaign_of s)) y) refl;
    }

-- ---- sums
sum_back : (t : Sum) → sum_of (of_sum t) ≡ t
unfolding sum_of
sum_back t = refl

left_sum : (a : Result Sum Refusal) (s : List ℕ) → sum_of (sum_told a s).lent ≡ sum_left a (sum_of s)
unfolding sum_told
left_sum (Ok t) s = sum_back t
left_sum (Err f) s = refl

stands_sum : (a : Result Sum Refusal) (s : List ℕ) → (eqb (length s) sum_numbers ≡ false → a ≡ Err BrokenState)
    → sum_of (sum_kept a s).lent ≡ sum_left a (sum_of s)
unfolding sum_kept
stands_sum a s other = by_test (eqb (length s) sum_numbers) (λ e. rw e (left_sum a s)) (λ e. rw (e, other e))

on_sum : (s : List ℕ) (r : Refusal) → array (sum_told (Err r) s) ≡ refusal s r
unfolding sum_told
on_sum s r = refl

added_other : (s : List ℕ) (r : Record) → eqb (length s) sum_numbers ≡ false → adding.adding (sum_of s) r
    ≡ Err BrokenState
unfolding adding.adding sum_of sums.sound
added_other s r e = rw e

pub sums_told : Sums
unfolding sum_kept sum_told sum_bounded bounds_told rated_told
sums_told =
    record {
      opens =
          λ D s.
          in_array s sum_numbers (λ x. sum_told x s) (adding.opened D)
          (tells (request_7.opening D) (λ x. array (sum_told x s)) s 0 _ _ (on_sum s) refl refl);
      open_stands = λ D s l. stands_sum (adding.opened D) s (not_other l);
      add =
          λ s r.
          tells (request_7.add (sum_of s) (record_of r)) (λ x. array (sum_told x s)) s 0 _ _ (on_sum s) refl
          (unneeded s sum_numbers (λ x. sum_told x s) Err (on_sum s) (adding.adding (sum_of s) (record_of r))
          (added_other s (record_of r)));
      add_stands = λ s r. stands_sum (adding.adding (sum_of s) (record_of r)) s (added_other s (record_of r));
      bounds =
          λ s out.
          in_array out bounds_numbers (λ x. bounds_told x out) (bounding (sum_of s))
          (tells (request_7.bounds (sum_of s)) (λ x. array (bounds_told x out)) out _ _ _ (λ r. refl) refl refl);
      rates = λ s y. tells (request_7.rates (sum_of s)) (λ a. rated (rated_told a y)) y _ _ _ (λ r. refl)
          (rates_taken (eqb (sum_of s).samples 0) (spread.three (sum_of s)) y) refl;
    }

-- ---- a loading condition
pub conditions_told : Conditions
unfolding judge_told write_told laid_by
conditions_told =
    record {
      judge = λ rows. tells ((request13.request_13).judge (length rows) (campaigns_of rows))
          (λ a. array (judge_told a)) nothing _ nothing _ (λ r. refl) refl refl;
      report =
          λ rows out.
          tells ((request13.request_13).write (length rows) (campaigns_of rows) out)
          (λ a. array (write_told a (laid_by a (report_text (campaigns_of rows)) out))) out _ _ _
          (λ r. refl) refl refl;
    }

-- ---- a job sheet
ends_lines : (lines : List (List ℕ)) (s : Standing) → Ends (reading_sheet false lines s).end
unfolding reading_sheet
ends_lines [] Fresh = stopped 1 0 (Line 1)
ends_lines [] (Open c) = cleanly c
ends_lines (line ∷ lines) s = go (stepping s line) (ends_lines lines)
  where
    go : (x : Result Sheet (ℕ × ℕ × Refusal)) → ((t : Standing) → Ends (reading_sheet false lines t).end)
        → Ends (after_step x (reading_sheet false lines)).end
    go (Ok t) rest = rest t
    go (Err (at, column, r)) rest = stopped at column r

ends_text : (text : List ℕ) → Ends (meaning text).end
unfolding meaning
ends_text text = ends_lines (lines_of text) Fresh

module _ (text : List ℕ) (slice : List ℤ) where
  records_refused : (line column : ℕ) (r : Refusal) → resuming text (length slice) ≡ Err (line, column, r)
      → SheetRecords text slice (refusal slice r) 0 line column
  unfolding ledgers.read_told filled_by
  records_refused line column r e = record { told = rw e; standard = rw e; line = rw e; column = rw e }

  records_read_lem : (q n : ℕ) → resuming text (length slice) ≡ Ok (q, n)
      → SheetRecords text slice (taken n (records_of text ++ drop n slice)) q 0 0
  unfolding ledgers.read_told filled_by
  records_read_lem q n e = record { told = rw e; standard = rw e; line = rw e; column = rw e }

pub sheets_told : Sheets
unfolding campaign_kept campaign_told sheet_line sheet_column write_told laid_by
sheets_told =
    record {
      ends = ends_text;
      other_length_lem = λ text s n. let e = ne_eqb (length s) campaign_numbers n in (rw e, rw e, rw e);
      read = λ text s c l e. let f = eq-eqb (length s) campaign_numbers l in (rw (f, e), rw (f, e), rw (f, e));
      refuses = λ text s line column r l e. let f = eq-eqb (length s) campaign_numbers l in
          (rw (f, e), rw (f, e), rw (f, e));
      read_stands = λ text s c l e. let f = eq-eqb (length s) campaign_numbers l in rw (f, e) (campaign_back c);
      write =
          λ q xs out.
          tells ((request2.request_2).write q xs out)
          (λ a. array (write_told a (laid_by a (sheet_text q xs) out))) out _ _ _ (λ r. refl) refl refl;
      records_refused = λ text slice line column r e. records_refused text slice line column r
          ((request2.request_2).refused_sheet text (length slice) line column r e);
      records_room =
          λ text slice c e l.
          records_refused text slice 0 0 (Room c.records)
          (((request2.request_2).clean_sheet text (length slice) c e).refuses (Room c.records)
          (here (lt-ltb (length slice) c.records l)));
      records_read_lem =
          λ text slice c e l.
          records_read_lem text slice c.standard c.records
          (((request2.request_2).clean_sheet text (length slice) c e).answers
          (not_it (le-ltb (length slice) c.records l) end));
    }

-- ---- comma files
pub commas_told : Commas
unfolding commas.read_told write_told intake.filled_by laid_by
commas_told =
    record {
      read =
          λ D text slice.
          tells ((request1.request_1).read D text (length slice))
          (λ a. left (commas.read_told a).number (commas.read_told a).carried
          (intake.filled_by a (samples_of (lines_of text)) slice)) slice _ _ _ (λ r. refl) refl refl;
      write =
          λ D xs out.
          tells ((request1.request_1).write D xs out)
          (λ a. array (write_told a (laid_by a (text_of D xs) out))) out _ _ _ (λ r. refl) refl refl;
    }

-- ---- peaks
module _ (sizes times figures moments : List ℕ) where
  tell_found : Result ℕ Refusal → Left Slices
  tell_found a =
      let x = found_told a (envelope.written a figures sizes) in
      left x.number x.carried (slices x.lent (envelope.written a moments times))

module _ (peaks : List ℕ) (k : ℕ) (before : List ℕ) (n c : ℕ) (after : List ℕ) where
  fit_refused : (a : Result ℕ Refusal) (r : Refusal) → a ≡ Err r → telling.told n c after ≡ fit_told a after
      → Leaves peaks k before a after
      → left n c after ≡ refusal before r
  fit_refused (Ok s) r e t l = impossible (cc)
  fit_refused (Err f) r e t l = let g : f ≡ r = cc in ap array t ∙ rw (l, g)

  fit_taken : (a : Result ℕ Refusal) (s : ℕ) → a ≡ Ok s → telling.told n c after ≡ fit_told a after → left n c after
      ≡ taken c after
  fit_taken (Ok u) s e t = ap (λ (m : ℕ). left m c after) (ap (λ (x : Told). x.number) t)
  fit_taken (Err f) s e t = impossible (cc)

  fits : FitTold peaks k before n c after → Tells (tail_tests peaks k (length before)) before c after (left n c after)
  fits h =
      let d = tail_fitted.order peaks k (length before) h.fits.sum in
      both_ways (tail_tests peaks k (length before)) before c after (left n c after)
      (λ r f. fit_refused h.answer r (h.fits.answers ∙ d.refuses r f) h.tells h.fits.leaves)
      (λ none. fit_taken h.answer h.fits.sum (h.fits.answers ∙ d.answers none) h.tells)

fit_sum : (peaks : List ℕ) (k : ℕ) (before : List ℕ) (c : ℕ) (after : List ℕ) (a : Result ℕ Refusal) → telling.told 0 c after
    ≡ fit_told a after → Leaves peaks k before a after
    → Summed peaks k before c after
fit_sum peaks k before c after (Ok s) t l = rw (ap (λ (x : Told). x.carried) t) l
fit_sum peaks k before c after (Err f) t l =
    let e : 0 ≡ number_of f = ap (λ (x : Told). x.number) t in
    absurd (omega (arith, some_number f))

pub peaks_told : Peaks
unfolding found_told envelope.written tell_found beyond_told reach_told
peaks_told =
    record {
      find =
          λ D R τ xs sizes times.
          tells (request_11.order D R τ xs (length sizes) (length times))
          (tell_found sizes times (map size_of (handed D R τ xs)) (map moment_of (handed D R τ xs)))
          (slices sizes times) _ _ _ (λ r. refl) refl refl;
      fit = fits;
      fit_sum = λ peaks k before c after h. fit_sum peaks k before c after h.answer h.tells h.fits.leaves;
      extrapolate =
          λ ys k c D P q out.
          in_array out times_numbers (λ x. reach_told x out) (beyond.extrapolated ys k c D P q)
          (tells (request_14.order ys k c D P q) (λ x. array (reach_told x out)) out _ _ _ (λ r. refl) refl refl);
    }

-- ---- the table of two bureaus
-- an answer told with the rows that the call left, beside what else was lent
module _ {L : Type 0} (rows : List (List ℕ)) (b : ℕ) (a : Ask) (say : Result Reply Refusal → List (List ℕ) → Left L)
    (before : L) where
  bench_tells : {ts : List Test} {proper : (Result Reply Refusal)} → Decides Err ts proper (made rows b a).answer
      → ((r : Refusal) → say (Err r) rows ≡ refusal before r)
      → (answer : ℕ) (after : L) → say proper (made rows b a).rows ≡ taken answer after
      → Tells ts before answer after (say (made rows b a).answer (made rows b a).rows)
  bench_tells {ts} d on-refused answer after on-proper =
      both_ways ts before answer after (say (made rows b a).answer (made rows b a).rows)
      (λ r f.
      let e = d.refuses r f in
      ap (λ (x : Result Reply Refusal). say x (made rows b a).rows) e
      ∙ ap (say (Err r)) ((rows_9.call rows b).refusal_leaves a r e)
      ∙ on-refused r)
      (λ n. ap (λ (x : Result Reply Refusal). say x (made rows b a).rows) (d.answers n) ∙ on-proper)

say_plain : Result Reply Refusal → List (List ℕ) → Left (List (List ℕ))
say_plain x after = left (plain x).number (plain x).carried after

say_verdict : Float → Float → Result Reply Refusal → List (List ℕ) → Left (Beside Two)
say_verdict x y a after = let j = bench-told.judged a x y in left j.number j.carried
    (beside (two j.lower j.upper) after)

say_rates : Rates → Result Reply Refusal → List (List ℕ) → Left (Beside Rates)
say_rates y a after = let r = bench-told.rated a y in left r.number r.carried (beside r.rates after)

verdict_beside : (v : Verdict) (rows : List (List ℕ)) (x y : Float)
    → say_verdict x y (Ok (Judged v)) rows
    ≡ taken (verdict_told v).carried (beside (two (verdict_told v).lower (verdict_told v).upper) rows)
unfolding say_verdict bench-told.judged verdict_told
verdict_beside NoRecord rows x y = refl
verdict_beside (Accept u) rows x y = refl
verdict_beside (Reject l) rows x y = refl
verdict_beside (Continue l u) rows x y = refl

rates_beside : (none : Bool) (three : Rates) (rows : List (List ℕ)) (y : Rates)
    → say_rates y (Ok (Rated (cond (not none) (Some (cond none none_rated three)) None))) rows
    ≡ taken (flag (not none)) (beside (cond none none_rated three) rows)
unfolding say_rates bench-told.rated verdict-told.told_rates
rates_beside true three rows y = refl
rates_beside false three rows y = refl

benches_told : (rows : List (List ℕ)) (b : ℕ) → Benches rows b
unfolding plain bench-told.judged bench-told.rated say_plain say_verdict say_rates
benches_told rows b =
    let order = (request_9.call (places_of rows) b).order in
    record {
      take = λ q. bench_tells rows b (Take q) say_plain rows (order.take q) (λ r. refl) _ _ refl;
      enter = λ i f x. bench_tells rows b (On i (Enter (row.outcome_of f x))) say_plain rows
          (order.enter i (row.outcome_of f x)) (λ r. refl) _ _ refl;
      give_back = λ i. bench_tells rows b (On i GiveBack) say_plain rows (order.give_back i) (λ r. refl) _ _ refl;
      verdict =
          λ i x y.
          bench_tells rows b (On i Judge) (say_verdict x y) (beside (two x y) rows) (order.verdict i) (λ r. refl) _ _
          (ap (say_verdict x y (Ok (Judged (verdict_of (at (places_of rows) i).campaign))))
          ((rows_9.call rows b).verdict_leaves i)
          ∙ verdict_beside (verdict_of (at (places_of rows) i).campaign) rows x y);
      rates =
          λ i y.
          let c = (at (places_of rows) i).campaign in
          bench_tells rows b (On i Rate) (say_rates y) (beside y rows) (order.rates i) (λ r. refl) _ _
          (ap (say_rates y (Ok (Rated (cond (not (eqb c.records 0)) (Some (rates_of c)) None))))
          ((rows_9.call rows b).rates_leave i)
          ∙ rates_beside (eqb c.records 0) (three c) rows y);
    }

pub entries : Entries
entries =
    record {
      records = records;
      campaigns = campaigns_told;
      verdicts = verdicts_told;
      sums = sums_told;
      benches = benches_told;
      conditions = conditions_told;
      sheets = sheets_told;
      commas = commas_told;
      peaks = peaks_told;
    }
