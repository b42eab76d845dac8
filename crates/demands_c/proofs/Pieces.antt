-- Point by point what include/chimenickel.h says of the peaks of a record in pieces, in the form of Entries: of each
-- function what its tests decide, and where none of them holds the answer of `peak_stream` in numbers; what an array
-- stands for after a call; and that a record cut anywhere, once for each pass, is answered with the peaks that
-- chim_envelope_find finds in the whole. survey_of and handing_of are the passes that arrays stand for, of_survey and
-- of_handing the numbers of a pass (capi_peaks's specs, Numbers); peaks_taken .. are what the contracts say (Told),
-- given_out and AllTaken .. calls one after the other (Calls). Request11Pieces of demands has the same for the library.
-- D is the step, R the ramp, τ the decorrelation time. Assumes nothing.
use Prim.Native.Nat.{ℕ, ◌+◌, ◌-◌, ◌≤◌}
use mathlib.Core.Path.{◌≡◌, ap, refl, sym}
use mathlib.Core.Bool.{Bool, false, not, true, ◌||◌}
use mathlib.Core.List.{List, [], ◌∷◌, ◌++◌, foldl, map}
use lib.Dec.{eqb, ltb}
use lib.IntN.{ℤ}
use lib.ListN.{drop, length}
use borrow.Author.Tests.{ltb-false}
use Rattle.truth.proofs.Cases.{by_test}
use Rattle.truth.proofs.Laws.{impossible}
use Rattle.refusal.specs.declared.Refusal.{Refusal}
use Rattle.refusal.specs.declared.Refusal.TheVariants.{BrokenState, Item, Room, Sample, TooLong, TooShort}
use Rattle.crossing_sets.specs.Parting.{together}
use Rattle.sample_range.specs.Range.{first_bad}
use Rattle.sample_items.specs.Limits.{decorrelation_in_range, most_in_range, ramp_in_range, step_in_range}
use Rattle.peak_groups.specs.Peaks.{short}
use Rattle.peak_machine.specs.Step.{moment_of, size_of}
use Rattle.peak_stream.specs.declared.Handing.{Handing}
use Rattle.peak_stream.specs.declared.Surveying.{Surveying}
use Rattle.peak_stream.specs.Hands.{Pieces, closed_by, hands_on, last_of, moved, noted, ready, waiting}
use Rattle.peak_stream.specs.Survey.{none, sound, surveyed, taken}
use Rattle.demands.proofs.Demand1.{Decides, None, Test, decide, decided, not_it, ◌gives◌}
use Rattle.capi.specs.Told.{Told}
use Rattle.capi_peaks.proofs.Cut.{InPieces, in_pieces}
use Rattle.capi_peaks.proofs.Bounds.{in_range}
use Rattle.capi_peaks.proofs.States.{hand_ok, handing_back, handing_ok, none_ok, other_handing, other_survey}
use Rattle.capi_peaks.proofs.States.{survey_back, survey_number, survey_ok, take_ok, waiting_ok}
use Rattle.capi_peaks.specs.Numbers.{handing_left, handing_numbers, handing_of, is_handing, is_survey, of_handing, of_survey}
use Rattle.capi_peaks.specs.Numbers.{ramp_left, ramp_of, survey_numbers, survey_of}
use Rattle.capi_peaks.specs.Told.{LastTold, begun_from, handed_in, handing_kept, handing_told, last_said, opened_at, peak_last}
use Rattle.capi_peaks.specs.Told.{peak_sizes, peak_times, peaks_answer, peaks_begun, peaks_closed, peaks_handed}
use Rattle.capi_peaks.specs.Told.{peaks_surveyed, peaks_taken, survey_kept, survey_told, taken_in}
use Rattle.demands_c.proofs.Entries.{array, in_array, other_length}
use Rattle.demands_c.proofs.Telling.{Left, Tells, left, refusal, tells}
use Rattle.demands_c.proofs.Telling as telling
use Rattle.peak_groups.specs.declared.Peak.{Peak}
use Rattle.std.specs.Prelude.{Option, Some, None as no_peak, Result, Ok, Err}
use Rattle.truth.proofs.Answers.{same_err}

-- ---- the statement
-- 1, the lowest of items 1 and 2
abbrev pub survey_tests : ℕ → ℕ → List Test
survey_tests D R = not (step_in_range D) gives Item 1 ∷ (not (ramp_in_range R) gives Item 2 ∷ [])

-- 8; 2, with the first bad place in the piece; 3, by the samples after the ramp, of which L are left out of this piece
abbrev pub take_tests : Surveying → ℕ → List ℤ → List Test
take_tests t L xs =
    not (sound t) gives BrokenState
    ∷ (ltb (first_bad xs) (length xs) gives Sample (first_bad xs)
    ∷ (ltb (most_in_range t.reading.step 0) (t.reading.n + length (drop L xs)) gives TooLong
    ∷ []))

-- 8; 1, for item 4; 4
abbrev pub begin_tests : Surveying → ℕ → List Test
begin_tests t τ =
    not (sound t) gives BrokenState
    ∷ (not (decorrelation_in_range τ) gives Item 4
    ∷ (ltb t.reading.n 2 gives TooShort
    ∷ []))

-- 8; 2; 3; 7, where a slice has not a place for each sample after the ramp
abbrev pub hand_tests : Handing → ℕ → List ℤ → ℕ → ℕ → List Test
hand_tests h L xs sizes times =
    let timed = length (drop L xs) in
    not (ready h) gives BrokenState
    ∷ (ltb (first_bad xs) (length xs) gives Sample (first_bad xs)
    ∷ (ltb (most_in_range h.reading.step 0) (h.reading.n + timed) gives TooLong
    ∷ ((ltb sizes timed || ltb times timed) gives Room timed
    ∷ [])))

-- what chim_peaks_hand_over is lent
pub record Lent : Type 0 where
  pub state : List ℕ
  pub sizes : List ℕ
  pub times : List ℕ

abbrev pub lent : List ℕ → List ℕ → List ℕ → Lent
lent s a b = record { state = s; sizes = a; times = b }

-- what chim_peaks_last is lent
pub record Two : Type 0 where
  pub size : ℕ
  pub time : ℕ

abbrev pub two : ℕ → ℕ → Two
two x t = record { size = x; time = t }

pub record InPiecesTold : Type 0 where
  -- chim_peaks_survey: 8 (the array's length), 1
  pub survey :
      (D R : ℕ) (s : List ℕ)
      → Tells (other_length s survey_numbers (survey_tests D R)) s 0 (of_survey (none D) R R) (array (peaks_surveyed D R s))
  pub survey_stands :
      (D R : ℕ) (s : List ℕ) → let x = peaks_surveyed D R s in
      x.number ≡ 0 → (survey_of x.lent ≡ none D) × (ramp_of x.lent ≡ R) × (ramp_left x.lent ≡ R)
  -- chim_peaks_take: 8, 2, 3
  pub take :
      (s : List ℕ) (xs : List ℤ)
      → let t = survey_of s in
      Tells (take_tests t (ramp_left s) xs) s 0
      (of_survey (foldl surveyed t (drop (ramp_left s) xs)) (ramp_of s) (ramp_left s - length xs))
      (array (peaks_taken s xs))
  pub take_stands :
      (s : List ℕ) (xs : List ℤ) → let x = peaks_taken s xs in
      x.number ≡ 0
      → (survey_of x.lent ≡ foldl surveyed (survey_of s) (drop (ramp_left s) xs)) × (ramp_of x.lent ≡ ramp_of s)
      × (ramp_left x.lent ≡ ramp_left s - length xs)
  -- chim_peaks_begin: 8 (the array's length, the first pass), 1, 4; the first pass is read and not changed
  pub begin :
      (v : List ℕ) (τ : ℕ) (s : List ℕ)
      → let t = survey_of v in
      Tells (other_length s handing_numbers (begin_tests t τ)) s 0
      (of_handing (waiting t.reading.step τ t.number t.sum) (ramp_of v)) (array (peaks_begun v τ s))
  pub begin_stands :
      (v : List ℕ) (τ : ℕ) (s : List ℕ) → let t = survey_of v in
      let x = peaks_begun v τ s in
      x.number ≡ 0
      → (handing_of x.lent ≡ waiting t.reading.step τ t.number t.sum) × (handing_left x.lent ≡ ramp_of v)
  -- chim_peaks_hand_over: 8, 2, 3, 7; what stands after the peaks stays
  pub hand_over :
      (s : List ℕ) (xs : List ℤ) (sizes times : List ℕ)
      → let h = handing_of s in
      let peaks = peaks_closed s xs in
      let x = peaks_handed s xs sizes times in
      Tells (hand_tests h (handing_left s) xs (length sizes) (length times)) (lent s sizes times) (length peaks)
      (lent (of_handing (foldl moved h (drop (handing_left s) xs)) (handing_left s - length xs))
      (map size_of peaks ++ drop (length peaks) sizes) (map moment_of peaks ++ drop (length peaks) times))
      (left x.number x.carried (lent x.lent (peak_sizes s xs sizes times) (peak_times s xs sizes times)))
  pub hand_over_stands :
      (s : List ℕ) (xs : List ℤ) (sizes times : List ℕ) → let x = peaks_handed s xs sizes times in
      x.number ≡ 0
      → (handing_of x.lent ≡ foldl moved (handing_of s) (drop (handing_left s) xs))
      × (handing_left x.lent ≡ handing_left s - length xs)
  -- chim_peaks_last: 8; last_said has 1 with a peak, 0 and zeros without one
  pub last :
      (s : List ℕ) (x t : ℕ)
      → let a = last_said (last_of (handing_of s)) in
      let y = peak_last s x t in
      Tells (not (ready (handing_of s)) gives BrokenState ∷ []) (two x t) a.carried (two a.size a.time)
      (left y.number y.carried (two y.size y.time))
  -- a record xs that chim_envelope_find does not refuse by 1, 2, 3 or 4, cut as ps in the first pass and as qs in the
  -- second, from whatever stood in the two arrays: no call is refused, and the peaks are the record's
  pub pieces :
      (n : ℕ) (sizes times : List ℕ) (a : n ≤ length sizes) (b : n ≤ length times)
      (D R τ : ℕ) (xs : List ℤ) (ps qs : List (List ℤ)) → together ps ≡ xs → together qs ≡ xs
      → step_in_range D ≡ true → ramp_in_range R ≡ true → decorrelation_in_range τ ≡ true → length xs ≤ first_bad xs
      → length xs ≤ most_in_range D R → R + 2 ≤ length xs → Pieces n qs
      → (s h : List ℕ) → length s ≡ survey_numbers → length h ≡ handing_numbers
      → InPieces n sizes times a b D R τ xs s h ps qs

-- ---- the proof
opened_decides : (D R : ℕ) → Decides Err (survey_tests D R) (Ok (none D)) (opened_at D R)
unfolding decide opened_at
opened_decides D R = decided Err (Ok (none D)) (λ r s e. cc) (λ r e. impossible (cc)) _
    (opened_at D R) refl

take_is : (t : Surveying) (L : ℕ) (xs : List ℤ)
    → taken_in t L xs ≡ decide Err (take_tests t L xs) (Ok (foldl surveyed t (drop L xs)))
unfolding decide taken_in taken
take_is t L xs = by_test (sound t) (λ e. rw e refl) (λ e. rw e refl)

take_decides : (t : Surveying) (L : ℕ) (xs : List ℤ)
    → Decides Err (take_tests t L xs) (Ok (foldl surveyed t (drop L xs))) (taken_in t L xs)
take_decides t L xs = decided Err (Ok (foldl surveyed t (drop L xs))) (λ r s e. cc)
    (λ r e. impossible (cc)) (take_tests t L xs) (taken_in t L xs) (take_is t L xs)

begin_decides : (t : Surveying) (τ : ℕ)
    → Decides Err (begin_tests t τ) (Ok (waiting t.reading.step τ t.number t.sum, 0))
    (begun_from t τ)
unfolding decide begun_from
begin_decides t τ = decided Err (Ok (waiting t.reading.step τ t.number t.sum, 0))
    (λ r s e. cc) (λ r e. impossible (cc)) _ (begun_from t τ) refl

module _ (h : Handing) (L : ℕ) (xs : List ℤ) (sizes times : ℕ) where
  abbrev gone : Result (Handing × ℕ) Refusal
  gone = Ok (foldl moved h (drop L xs), length (closed_by h (drop L xs)))

  hand_is : handed_in h L xs sizes times ≡ decide Err (hand_tests h L xs sizes times) gone
  unfolding decide handed_in hands_on
  hand_is = by_test (ready h) (λ e. rw e refl) (λ e. rw e refl)

  hand_decides : Decides Err (hand_tests h L xs sizes times) gone (handed_in h L xs sizes times)
  hand_decides = decided Err gone (λ r s e. cc) (λ r e. impossible (cc)) (hand_tests h L xs sizes times)
      (handed_in h L xs sizes times) hand_is

-- an array of another length holds no pass, and needs no test of its length
no_survey : (s : List ℕ) → eqb (length s) survey_numbers ≡ false → is_survey s ≡ false
no_survey s e = rw e

no_handing : (s : List ℕ) → eqb (length s) handing_numbers ≡ false → is_handing s ≡ false
no_handing s e = rw e

take_other : (s : List ℕ) (L : ℕ) (xs : List ℤ) → eqb (length s) survey_numbers ≡ false
    → taken_in (survey_of s) L xs ≡ Err BrokenState
unfolding taken_in
take_other s L xs e = rw (other_survey s (no_survey s e))

hand_other : (s : List ℕ) (L : ℕ) (xs : List ℤ) (sizes times : ℕ) → eqb (length s) handing_numbers ≡ false
    → handed_in (handing_of s) L xs sizes times ≡ Err BrokenState
unfolding handed_in
hand_other s L xs sizes times e = rw (other_handing s (no_handing s e))

survey_kept_lem : (a : Result Surveying Refusal) (R L : ℕ) (s : List ℕ)
    → (eqb (length s) survey_numbers ≡ false → a ≡ Err BrokenState)
    → survey_kept a R L s ≡ survey_told a R L s
unfolding survey_kept survey_told
survey_kept_lem a R L s f = by_test (eqb (length s) survey_numbers) (λ e. rw e refl) (λ e. rw (e, f e) refl)

handing_kept_lem : (a : Result (Handing × ℕ) Refusal) (L : ℕ) (s : List ℕ)
    → (eqb (length s) handing_numbers ≡ false → a ≡ Err BrokenState)
    → handing_kept a L s ≡ handing_told a L s
unfolding handing_kept handing_told
handing_kept_lem a L s f = by_test (eqb (length s) handing_numbers) (λ e. rw e refl) (λ e. rw (e, f e) refl)

-- a piece handed over
module _ (s sizes times figures moments : List ℕ) (L : ℕ) where
  tell_handed : Result (Handing × ℕ) Refusal → Left Lent
  tell_handed a =
      let x = handing_told a L s in
      left x.number x.carried (lent x.lent (noted a figures sizes) (noted a moments times))

  on_handed : (r : Refusal) → tell_handed (Err r) ≡ refusal (lent s sizes times) r
  unfolding tell_handed handing_told noted
  on_handed r = refl

-- the end
said_zero : (a : Option Peak) → (last_said a).number ≡ 0
unfolding last_said
said_zero (Some p) = refl
said_zero no_peak = refl

tell_last : LastTold → ℕ → ℕ → Result (Handing × ℕ) Refusal → Left Two
tell_last a x t (Ok (h, k)) = telling.taken a.carried (two a.size a.time)
tell_last a x t (Err f) = refusal (two x t) f

last-is : (s : List ℕ) (x t : ℕ)
    → let a = last_said (last_of (handing_of s)) in
    let y = peak_last s x t in
    left y.number y.carried (two y.size y.time)
    ≡ tell_last a x t (decide Err (not (ready (handing_of s)) gives BrokenState ∷ [])
    (Ok (handing_of s, 0)))
unfolding peak_last tell_last decide
last-is s x t =
    let a = last_said (last_of (handing_of s)) in
    by_test (ready (handing_of s))
    (λ e. rw e (ap (λ (n : ℕ). left n a.carried (two a.size a.time)) (said_zero (last_of (handing_of s)))))
    (λ e. rw e refl)

last_decides : (h : Handing)
    → let ts = not (ready h) gives BrokenState ∷ [] in
    Decides {A = Result (Handing × ℕ) Refusal} Err ts (Ok (h, 0)) (decide Err ts (Ok (h, 0)))
last_decides h = decided Err (Ok (h, 0)) (λ r s. same_err) (λ r e. impossible (cc)) _ _ refl

-- ---- each entry
tells_survey : (D R : ℕ) (s : List ℕ)
    → Tells (other_length s survey_numbers (survey_tests D R)) s 0 (of_survey (none D) R R) (array (peaks_surveyed D R s))
unfolding survey_kept survey_told
tells_survey D R s =
    in_array s survey_numbers (λ a. survey_told a R R s) (opened_at D R)
    (tells (opened_decides D R) (λ a. array (survey_told a R R s)) s 0 _ _ (λ r. refl) refl refl)

tells_take : (s : List ℕ) (xs : List ℤ)
    → let t = survey_of s in
    Tells (take_tests t (ramp_left s) xs) s 0
    (of_survey (foldl surveyed t (drop (ramp_left s) xs)) (ramp_of s) (ramp_left s - length xs)) (array (peaks_taken s xs))
unfolding survey_told
tells_take s xs =
    let L = ramp_left s in
    tells (take_decides (survey_of s) L xs) (λ a. array (survey_told a (ramp_of s) (L - length xs) s)) s 0 _ _
    (λ r. refl) refl
    (ap array (survey_kept_lem (taken_in (survey_of s) L xs) (ramp_of s) (L - length xs) s (take_other s L xs)))

tells_begin : (v : List ℕ) (τ : ℕ) (s : List ℕ)
    → let t = survey_of v in
    Tells (other_length s handing_numbers (begin_tests t τ)) s 0
    (of_handing (waiting t.reading.step τ t.number t.sum) (ramp_of v)) (array (peaks_begun v τ s))
unfolding handing_kept handing_told
tells_begin v τ s =
    in_array s handing_numbers (λ a. handing_told a (ramp_of v) s) (begun_from (survey_of v) τ)
    (tells (begin_decides (survey_of v) τ) (λ a. array (handing_told a (ramp_of v) s)) s 0 _ _ (λ r. refl) refl refl)

tells_hand_over : (s : List ℕ) (xs : List ℤ) (sizes times : List ℕ)
    → let h = handing_of s in
    let peaks = peaks_closed s xs in
    let x = peaks_handed s xs sizes times in
    Tells (hand_tests h (handing_left s) xs (length sizes) (length times)) (lent s sizes times) (length peaks)
    (lent (of_handing (foldl moved h (drop (handing_left s) xs)) (handing_left s - length xs))
    (map size_of peaks ++ drop (length peaks) sizes) (map moment_of peaks ++ drop (length peaks) times))
    (left x.number x.carried (lent x.lent (peak_sizes s xs sizes times) (peak_times s xs sizes times)))
unfolding handing_told noted tell_handed
tells_hand_over s xs sizes times =
    let L = handing_left s in
    let figures = map size_of (peaks_closed s xs) in
    let moments = map moment_of (peaks_closed s xs) in
    let a = peaks_answer s xs sizes times in
    tells (hand_decides (handing_of s) L xs (length sizes) (length times))
    (tell_handed s sizes times figures moments (L - length xs)) (lent s sizes times) _ _ _
    (on_handed s sizes times figures moments (L - length xs)) refl
    (ap (λ (x : Told). left x.number x.carried (lent x.lent (noted a figures sizes) (noted a moments times)))
    (handing_kept_lem a (L - length xs) s (hand_other s L xs (length sizes) (length times))))

-- ---- what arrays stand for afterwards
yes : (b : Bool) → not b ≡ false → b ≡ true
yes true e = refl
yes false e = sym e

array_lent : {x : Told} {n : ℕ} {s : List ℕ} → array x ≡ telling.taken n s → x.lent ≡ s
array_lent e = ap (λ (y : Left (List ℕ)). y.lent) e

survey_none : (s : List ℕ) (D R : ℕ) → None (other_length s survey_numbers (survey_tests D R))
    → (step_in_range D ≡ true) × (ramp_in_range R ≡ true)
survey_none s D R (not_it a (not_it b (not_it d e))) = (yes _ b, yes _ d)

stands_survey : (D R : ℕ) (s : List ℕ) → let x = peaks_surveyed D R s in
    x.number ≡ 0 → (survey_of x.lent ≡ none D) × (ramp_of x.lent ≡ R) × (ramp_left x.lent ≡ R)
stands_survey D R s z =
    let t = tells_survey D R s in
    let n = t.taken_only z in
    let e = array_lent (t.answers n) in
    let r = survey_none s D R n in
    rw e (survey_back (none D) R R (none_ok D R r.0 r.1), refl, refl)

take_none : (t : Surveying) (L : ℕ) (xs : List ℤ) → None (take_tests t L xs)
    → (sound t ≡ true) × (length xs ≤ first_bad xs)
    × (t.reading.n + length (drop L xs) ≤ most_in_range t.reading.step 0)
take_none t L xs (not_it a (not_it b (not_it d e))) = (yes _ a, ltb-false _ _ b, ltb-false _ _ d)

stands_take : (s : List ℕ) (xs : List ℤ) → let x = peaks_taken s xs in
    x.number ≡ 0
    → (survey_of x.lent ≡ foldl surveyed (survey_of s) (drop (ramp_left s) xs)) × (ramp_of x.lent ≡ ramp_of s)
    × (ramp_left x.lent ≡ ramp_left s - length xs)
stands_take s xs z =
    let T = tells_take s xs in
    let n = T.taken_only z in
    let e = array_lent (T.answers n) in
    let r = take_none (survey_of s) (ramp_left s) xs n in
    let ok = take_ok (survey_of s) (ramp_of s) (ramp_left s) xs (survey_ok s r.0) (in_range xs r.1) r.2 in
    rw e (survey_back _ (ramp_of s) (ramp_left s - length xs) ok, refl, refl)

begin_none : (t : Surveying) (τ : ℕ) (s : List ℕ) → None (other_length s handing_numbers (begin_tests t τ))
    → (sound t ≡ true) × (decorrelation_in_range τ ≡ true)
begin_none t τ s (not_it a (not_it b (not_it d e))) = (yes _ b, yes _ d)

stands_begin : (v : List ℕ) (τ : ℕ) (s : List ℕ) → let t = survey_of v in
    let x = peaks_begun v τ s in
    x.number ≡ 0
    → (handing_of x.lent ≡ waiting t.reading.step τ t.number t.sum) × (handing_left x.lent ≡ ramp_of v)
stands_begin v τ s z =
    let t = survey_of v in
    let T = tells_begin v τ s in
    let n = T.taken_only z in
    let e = array_lent (T.answers n) in
    let r = begin_none t τ s n in
    let k = survey_ok v r.0 in
    let ok = waiting_ok t.reading.step (ramp_of v) τ t.number t.sum k.step k.ramp r.1
    (survey_number t r.0) in
    rw e (handing_back _ (ramp_of v) ok, refl)

hand_none : (h : Handing) (L : ℕ) (xs : List ℤ) (sizes times : ℕ) → None (hand_tests h L xs sizes times)
    → (ready h ≡ true) × (length xs ≤ first_bad xs)
    × (h.reading.n + length (drop L xs) ≤ most_in_range h.reading.step 0)
    × (short sizes times (length (drop L xs)) ≡ false)
hand_none h L xs sizes times (not_it a (not_it b (not_it d (not_it e f)))) =
    (yes _ a, ltb-false _ _ b, ltb-false _ _ d, e)

stands_hand_over : (s : List ℕ) (xs : List ℤ) (sizes times : List ℕ) → let x = peaks_handed s xs sizes times in
    x.number ≡ 0
    → (handing_of x.lent ≡ foldl moved (handing_of s) (drop (handing_left s) xs))
    × (handing_left x.lent ≡ handing_left s - length xs)
stands_hand_over s xs sizes times z =
    let L = handing_left s in
    let T = tells_hand_over s xs sizes times in
    let n = T.taken_only z in
    let e = ap (λ (y : Left Lent). y.lent.state) (T.answers n) in
    let r = hand_none (handing_of s) L xs (length sizes) (length times) n in
    let ok = hand_ok sizes times (handing_of s) L xs (handing_ok s r.0) (in_range xs r.1) r.2 r.3 in
    rw e (handing_back _ (L - length xs) ok, refl)

pub in_pieces_told : InPiecesTold
unfolding tell_last
in_pieces_told =
    record {
      survey = tells_survey;
      survey_stands = stands_survey;
      take = tells_take;
      take_stands = stands_take;
      begin = tells_begin;
      begin_stands = stands_begin;
      hand_over = tells_hand_over;
      hand_over_stands = stands_hand_over;
      last =
          λ s x t.
          let a = last_said (last_of (handing_of s)) in
          tells (last_decides (handing_of s)) (tell_last a x t) (two x t) _ _ _ (λ r. refl) refl (last-is s x t);
      pieces = λ n sizes times a b. in_pieces n sizes times a b;
    }
