-- Document 02 [11] for samples that come in pieces, which a customer may cut as he likes: what is refused in which
-- order (1; 8, 3; 8, 3, 7), and that two passes over the same timed samples, answer by answer, hand out the peaks
-- that the whole record hands out; the same for a comma file, whose text and samples are cut anywhere in either
-- reading. D is the step, R the ramp, τ the decorrelation time, xs all samples. The proof only puts together what
-- `peak_stream` and `comma_peaks` have. Assumes nothing.
use Prim.Native.Nat.{ℕ, ◌+◌, ◌*◌, ◌≤◌, ◌<◌}
use mathlib.Core.Path.{◌≡◌, refl}
use mathlib.Core.Bool.{Bool, true, not, ◌&&◌, ◌||◌}
use mathlib.Core.List.{List, [], ◌∷◌, ◌++◌, foldl, map}
use lib.Dec.{eqb, leb, ltb}
use lib.IntN.{ℤ}
use lib.ListN.{length, drop}
use Rattle.truth.proofs.Laws.{impossible}
use Rattle.refusal.specs.declared.Refusal.{Refusal}
use Rattle.refusal.specs.declared.Refusal.TheVariants.{Item, Room, BrokenState, TooLong}
use Rattle.sample_items.specs.Limits.{step_in_range, decorrelation_in_range, most_in_range}
use Rattle.crossing_sets.specs.Parting.{together}
use Rattle.peak_groups.specs.Peaks.{handed, sum}
use Rattle.peak_groups.specs.Runs.{peaks}
use Rattle.peak_machine.specs.Step.{moment_of, size_of}
use Rattle.peak_stream.specs.declared.Reading.{Reading}
use Rattle.peak_stream.specs.declared.Surveying.{Surveying}
use Rattle.peak_stream.specs.declared.Handing.{Handing}
use Rattle.peak_stream.specs.Survey.{none, started, surveyed, taken, onwards, Totalled, Small}
use Rattle.peak_stream.specs.Hands.{waiting, begun, moved, closed_by, hands_on, handing_out, noted}
use Rattle.peak_stream.specs.Hands.{HandsOver, Pieces}
use Rattle.peak_stream.proofs.Pieces.{survey_anywhere, survey_too_long}
use Rattle.peak_stream.proofs.Anywhere.{passes_anywhere}
use Rattle.peak_stream.proofs.Unique.{hand_over_unique}
use Rattle.text.specs.Pieces.{joined}
use Rattle.decimal.specs.Lines.{lines_of}
use Rattle.comma_line.specs.Text.{samples_of}
use Rattle.comma_stream.specs.Follow.{held}
use Rattle.comma_stream.specs.Pieces.{nothing, passing}
use Rattle.comma_peaks.specs.Timed.{blocks, handing_blocks}
use Rattle.comma_peaks.specs.Judged.{comes_to, judging}
use Rattle.comma_peaks.proofs.Files.{file_judged}
use Rattle.comma_peaks.proofs.Peaks.{file_peaks}
use Rattle.demands.proofs.Demand1.{Decides, ◌gives◌, decide, decided}
use Rattle.std.specs.Prelude.{Result, Ok, Err}

-- ---- the statement
-- the relations of 8: no more samples than a record may have, no more runs than samples; of a first pass no more peaks
-- than samples, and no larger a sum than as many numbers of 32 bits as there are samples can have; of a second no more
-- stretches and no more chains than samples
abbrev pub reading_kept : Reading → Bool
reading_kept r = leb r.n (most_in_range r.step 0) && leb r.opened r.n

abbrev pub first_kept : Surveying → Bool
first_kept s = reading_kept s.reading && (leb s.number s.reading.n && leb s.sum (s.reading.n * 4294967295))

abbrev pub second_kept : Handing → Bool
second_kept h =
    reading_kept h.reading
    && (leb h.envelope.stretches.opened h.reading.n && leb h.envelope.chains.opened h.reading.n)

pub record Request11Pieces : Type 0 where
  -- the first pass
  pub survey : (D : ℕ) → Decides Err (not (step_in_range D) gives Item 1 ∷ []) (Ok (none D)) (started D)
  pub take : (s : Surveying) (xs : List ℤ)
      → Decides Err
      (not (first_kept s) gives BrokenState
      ∷ (ltb (most_in_range s.reading.step 0) (s.reading.n + length xs) gives TooLong
      ∷ []))
      (Ok (foldl surveyed s xs)) (taken s xs)
  -- its number and sum are those of the peaks, however the timed samples are cut
  pub totals : (D : ℕ) (ps : List (List ℤ)) → step_in_range D ≡ true → Small (together ps) → length (together ps) ≤ most_in_range D 0
      → (s : Surveying) × (onwards ps (started D) ≡ Ok s)
      × (s.number ≡ length (peaks D (together ps))) × (s.sum ≡ sum (peaks D (together ps)))
  pub too_long : (D : ℕ) (ps : List (List ℤ)) → step_in_range D ≡ true → Small (together ps) → most_in_range D 0 < length (together ps)
      → onwards ps (started D) ≡ Err TooLong
  -- the second pass
  pub begin : (D τ n s : ℕ)
      → Decides Err (not (step_in_range D) gives Item 1 ∷ (not (decorrelation_in_range τ) gives Item 4 ∷ []))
      (Ok (waiting D τ n s, 0)) (begun D τ n s)
  pub hand_over : (h : Handing) (xs : List ℤ) (sizes times : ℕ)
      → Decides Err
      (not (second_kept h) gives BrokenState
      ∷ (ltb (most_in_range h.reading.step 0) (h.reading.n + length xs) gives TooLong
      ∷ ((ltb sizes (length xs) || ltb times (length xs)) gives Room (length xs)
      ∷ [])))
      (Ok (foldl moved h xs, length (closed_by h xs))) (hands_on h xs sizes times)
  pub stays : (h : Handing) (xs : List ℤ) (sizes times s t : List ℕ) (f : Refusal)
      → HandsOver h xs sizes times (Err f) s t → (s ≡ sizes) × (t ≡ times)
  pub given : (h g : Handing) (xs : List ℤ) (sizes times s t : List ℕ) (k : ℕ) → HandsOver h xs sizes times (Ok (g, k)) s t
      → (s ≡ map size_of (closed_by h xs) ++ drop k sizes) × (t ≡ map moment_of (closed_by h xs) ++ drop k times)
  -- at most one peak for each sample of a piece
  pub few : (h : Handing) (xs : List ℤ) (sizes times s t : List ℕ) (x : Result (Handing × ℕ) Refusal) → HandsOver h xs sizes times x s t → length (closed_by h xs) ≤ length xs
  -- two passes over the same timed samples, cut as ps and as qs, hand out the record's peaks
  pub passes : (n : ℕ) (sizes times : List ℕ) → n ≤ length sizes → n ≤ length times → (D R τ : ℕ) (xs : List ℤ) (ps qs : List (List ℤ))
      → together ps ≡ drop R xs → together qs ≡ drop R xs → step_in_range D ≡ true → decorrelation_in_range τ ≡ true
      → Small (drop R xs) → length (drop R xs) ≤ most_in_range D 0 → Pieces n qs
      → (s : Surveying) × (onwards ps (started D) ≡ Ok s)
      × (handing_out (length sizes) (length times) qs (begun D τ s.number s.sum) ≡ handed D R τ xs)
  -- a comma file that comes in pieces is judged at its end, 10, 2, 3, 4, as its whole text is
  pub judged : (D : ℕ) (ps : List (List ℕ)) → step_in_range D ≡ true → (R : ℕ) → length (lines_of (joined ps)) < 18446744073709551615
      → let p = passing (nothing D) ps in judging p.stands R (not (eqb (length p.left) 0)) ≡ comes_to D R (lines_of (joined ps))
  -- and where nothing is refused, two readings of it, cut as ps and as qs, their samples in blocks bs and cs, hand
  -- out the peaks of the text
  pub file : (n : ℕ) (sizes times : List ℕ) → n ≤ length sizes → n ≤ length times → (D R τ : ℕ) (ps qs : List (List ℕ)) (bs cs : List (List ℤ))
      → joined ps ≡ joined qs → step_in_range D ≡ true → decorrelation_in_range τ ≡ true → comes_to D R (lines_of (joined ps)) ≡ (Ok (tt {0}))
      → together bs ≡ map held (passing (nothing D) ps).samples → together cs ≡ map held (passing (nothing D) qs).samples → Pieces n cs
      → handing_blocks R (length sizes) (length times) 0 cs (begun D τ (blocks R 0 (none D) bs).number (blocks R 0 (none D) bs).sum)
      ≡ handed D R τ (samples_of (lines_of (joined ps)))
  pub settled : (h : Handing) (xs : List ℤ) (sizes times : List ℕ) (x y : Result (Handing × ℕ) Refusal) (s t u v : List ℕ)
      → HandsOver h xs sizes times x s u → HandsOver h xs sizes times y t v → (x ≡ y) × (s ≡ t) × (u ≡ v)

-- ---- the proof
by_survey : (D : ℕ) → Decides Err (not (step_in_range D) gives Item 1 ∷ []) (Ok (none D)) (started D)
unfolding decide started
by_survey D = decided Err (Ok (none D)) (λ r s e. cc) (λ r e. impossible (cc)) _ (started D) refl

by_take : (s : Surveying) (xs : List ℤ)
    → Decides Err
    (not (first_kept s) gives BrokenState
    ∷ (ltb (most_in_range s.reading.step 0) (s.reading.n + length xs) gives TooLong
    ∷ []))
    (Ok (foldl surveyed s xs)) (taken s xs)
unfolding decide taken
by_take s xs = decided Err (Ok (foldl surveyed s xs)) (λ r t e. cc) (λ r e. impossible (cc)) _ (taken s xs) refl

by_begin : (D τ n s : ℕ)
    → Decides Err (not (step_in_range D) gives Item 1 ∷ (not (decorrelation_in_range τ) gives Item 4 ∷ []))
    (Ok (waiting D τ n s, 0)) (begun D τ n s)
unfolding decide begun
by_begin D τ n s =
    decided Err (Ok (waiting D τ n s, 0)) (λ r t e. cc) (λ r e. impossible (cc)) _ (begun D τ n s) refl

by_hand_over : (h : Handing) (xs : List ℤ) (sizes times : ℕ)
    → Decides Err
    (not (second_kept h) gives BrokenState
    ∷ (ltb (most_in_range h.reading.step 0) (h.reading.n + length xs) gives TooLong
    ∷ ((ltb sizes (length xs) || ltb times (length xs)) gives Room (length xs)
    ∷ [])))
    (Ok (foldl moved h xs, length (closed_by h xs))) (hands_on h xs sizes times)
unfolding decide hands_on
by_hand_over h xs sizes times =
    decided Err (Ok (foldl moved h xs, length (closed_by h xs))) (λ r t e. cc)
    (λ r e. impossible (cc)) _ (hands_on h xs sizes times) refl

by_stays : (h : Handing) (xs : List ℤ) (sizes times s t : List ℕ) (f : Refusal)
    → HandsOver h xs sizes times (Err f) s t → (s ≡ sizes) × (t ≡ times)
unfolding noted
by_stays h xs sizes times s t f p = (p.sizes_left, p.times_left)

by_given : (h g : Handing) (xs : List ℤ) (sizes times s t : List ℕ) (k : ℕ) → HandsOver h xs sizes times (Ok (g, k)) s t
    → (s ≡ map size_of (closed_by h xs) ++ drop k sizes) × (t ≡ map moment_of (closed_by h xs) ++ drop k times)
unfolding noted
by_given h g xs sizes times s t k p = (p.sizes_left, p.times_left)

pub request_11_pieces : Request11Pieces
request_11_pieces =
    record {
      survey = by_survey;
      take = by_take;
      totals = λ D ps d m l. let a = survey_anywhere D ps d m l in (a.0, a.1, a.2.number, a.2.sum);
      too_long = survey_too_long;
      begin = by_begin;
      hand_over = by_hand_over;
      stays = by_stays;
      given = by_given;
      few = λ h xs sizes times s t x p. p.few;
      passes = passes_anywhere;
      judged = file_judged;
      file = file_peaks;
      settled = hand_over_unique;
    }
