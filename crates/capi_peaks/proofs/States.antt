-- Arrays and passes: numbers that are no pass stand for one that is refused by 8; what an entry leaves in an array is
-- the pass that it answers, and the next call finds it. Assumes nothing.
use Prim.Native.Nat.{ℕ, ◌+◌, ◌-◌, ◌≤◌}
use mathlib.Core.Path.{◌≡◌, ap, refl, sym, ◌∙◌}
use mathlib.Core.Bool.{Bool, false, true, ◌||◌}
use mathlib.Core.List.{List, foldl}
use native.Mathlib.Omega.{arith}
use lib.Dec.{eqb, leb}
use lib.IntN.{ℤ}
use lib.ListN.{drop, drop_of_length-le, length}
use borrow.Author.Tests.{eq-eqb, eqb-true, le-leb, leb-true, ne_eqb}
use Rattle.truth.proofs.Cases.{by_order, by_test}
use Rattle.truth.proofs.Laws.{and-true, both_true, true≢false}
use Rattle.sample_items.proofs.Ranges.{high}
use Rattle.sample_items.specs.Limits.{decorrelation_in_range, most_in_range, ramp_in_range, step_in_range}
use Rattle.peak_groups.specs.declared.Peak.{Peak}
use Rattle.peak_groups.specs.Groups.{nothing}
use Rattle.peak_groups.specs.Peaks.{short}
use Rattle.peak_stream.proofs.Anywhere.{fresh_ready, set_fold}
use Rattle.peak_stream.proofs.Bounds.{most_few}
use Rattle.peak_stream.proofs.Coming.{ready_set, set_out}
use Rattle.peak_stream.proofs.Over.{no_refusal}
use Rattle.peak_stream.proofs.Passing.{good}
use Rattle.peak_stream.proofs.Pieces.{fits, goes, none_sound, sound_good, taken_all}
use Rattle.peak_stream.specs.declared.Handing.{Handing}
use Rattle.peak_stream.specs.declared.Reading.{Reading}
use Rattle.peak_stream.specs.declared.Surveying.{Surveying}
use Rattle.peak_stream.specs.Hands.{closed_by, moved, ready, waiting}
use Rattle.peak_stream.specs.Reading.{readable}
use Rattle.peak_stream.specs.Survey.{none, sound, surveyed}
use Rattle.capi.specs.Numbers.{flag, number_at}
use Rattle.capi.specs.Told.{told}
use Rattle.capi_peaks.specs.Numbers.{handing_fits, handing_left, handing_numbers, handing_of, is_handing, is_survey}
use Rattle.capi_peaks.specs.Numbers.{most32, of_handing, of_survey, ramp_left, ramp_of, survey_fits, survey_numbers}
use Rattle.capi_peaks.specs.Numbers.{survey_of}
use Rattle.capi_peaks.specs.Told.{handed_in, handing_kept, handing_told, peaks_handed, peaks_taken, survey_kept}
use Rattle.capi_peaks.specs.Told.{survey_told, taken_in}
use Rattle.capi_peaks.proofs.Fits.{group_small, handing_small, peak_small, reading_small, survey_small}
use Rattle.capi_peaks.proofs.Bounds.{Held, InRange, Within, handing_reads, hands_same, hands_within}
use Rattle.capi_peaks.proofs.Bounds.{not_bad, range_drop, range_small, reads, survey_reads}
use Rattle.std.specs.Prelude.{Ok}

-- ---- other numbers are refused by 8
pub other_survey : (s : List ℕ) → is_survey s ≡ false → sound (survey_of s) ≡ false
unfolding survey_of most_in_range
other_survey s e = rw e

pub other_handing : (s : List ℕ) → is_handing s ≡ false → ready (handing_of s) ≡ false
unfolding handing_of most_in_range
other_handing s e = rw e

-- ---- numbers that are written are read back
flag_is : (b : Bool) → eqb (flag b) 1 ≡ b
flag_is true = refl
flag_is false = refl

flag_small : (b : Bool) → leb (flag b) 1 ≡ true
flag_small true = refl
flag_small false = refl

peak_fits : (p : Peak) → Within p
    → (leb (flag p.below) 1 ≡ true) × (leb p.size 1000000 ≡ true) × (leb p.time 10000000 ≡ true)
peak_fits p w = (flag_small p.below, le-leb p.size 1000000 w.0, le-leb p.time 10000000 w.1)

-- while some of the ramp is left, no timed sample came
abbrev Idle : ℕ → ℕ → Type 0
Idle L n = 1 ≤ L → n ≡ 0

idle_fits : (L n : ℕ) → Idle L n → (eqb L 0 || eqb n 0) ≡ true
idle_fits L n i =
    by_order 0 L
    (λ h. rw (ne_eqb L 0 (λ e. omega arith), eq-eqb n 0 (i (omega arith))))
    (λ h. rw (eq-eqb L 0 (omega arith)))

pub record SurveyOk (t : Surveying) (R L : ℕ) : Type 0 where
  pub step : step_in_range t.reading.step ≡ true
  pub keeps : sound t ≡ true
  pub best : Within t.reading.best
  pub ramp : ramp_in_range R ≡ true
  pub left : ramp_in_range L ≡ true
  pub idle : Idle L t.reading.n

pub survey_fits_lem : (t : Surveying) (R L : ℕ) → SurveyOk t R L → survey_fits (of_survey t R L) ≡ true
survey_fits_lem t R L k =
    let r = t.reading in
    let p = peak_fits r.best k.best in
    let g = good t 0 k.keeps (omega (arith, fits t k.keeps)) in
    let m = most_few r.step in
    both_true
    (both_true k.step
    (both_true (le-leb r.n most32 (omega (arith, m, g.room)))
    (both_true (le-leb r.opened most32 (omega (arith, m, g.room, g.opened)))
    (both_true p.0 (both_true p.1 p.2)))))
    (both_true (le-leb t.number most32 (omega (arith, m, g.room, g.number)))
    (both_true k.ramp (both_true k.left (idle_fits L r.n k.idle))))

pub survey_back : (t : Surveying) (R L : ℕ) → SurveyOk t R L → survey_of (of_survey t R L) ≡ t
unfolding survey_of
survey_back t R L k = rw (survey_fits_lem t R L k, flag_is t.reading.best.below)

pub record HandingOk (h : Handing) (L : ℕ) : Type 0 where
  pub step : step_in_range h.reading.step ≡ true
  pub keeps : ready h ≡ true
  pub best : Within h.reading.best
  pub held : Held h.envelope
  pub decorrelation : decorrelation_in_range h.decorrelation ≡ true
  pub number : h.number ≤ most32
  pub left : ramp_in_range L ≡ true
  pub idle : Idle L h.reading.n

ready_room : (h : Handing) → ready h ≡ true → h.reading.n ≤ most_in_range h.reading.step 0
ready_room h e =
    let r = h.reading in
    let a = and-true (readable r) _ e in
    leb-true r.n (most_in_range r.step 0) (and-true (leb r.n (most_in_range r.step 0)) _ a.0).0

pub handing_fits_lem : (h : Handing) (L : ℕ) → HandingOk h L → handing_fits (of_handing h L) ≡ true
handing_fits_lem h L k =
    let r = h.reading in
    let e = h.envelope in
    let p = peak_fits r.best k.best in
    let a = peak_fits e.stretches.last k.held.0.0 in
    let b = peak_fits e.stretches.best k.held.0.1 in
    let c = peak_fits e.chains.last k.held.1.0 in
    let d = peak_fits e.chains.best k.held.1.1 in
    let g = set_out h 0 k.keeps (omega (arith, ready_room h k.keeps)) in
    let m = most_few r.step in
    both_true
    (both_true k.step
    (both_true (le-leb r.n most32 (omega (arith, m, g.room)))
    (both_true (le-leb r.opened most32 (omega (arith, m, g.room, g.opened)))
    (both_true p.0 (both_true p.1 p.2)))))
    (both_true
    (both_true (both_true a.0 (both_true a.1 a.2)) (both_true b.0 (both_true b.1 b.2)))
    (both_true
    (both_true (both_true c.0 (both_true c.1 c.2)) (both_true d.0 (both_true d.1 d.2)))
    (both_true k.decorrelation
    (both_true (le-leb h.number most32 k.number)
    (both_true k.left (idle_fits L r.n k.idle))))))

pub handing_back : (h : Handing) (L : ℕ) → HandingOk h L → handing_of (of_handing h L) ≡ h
unfolding handing_of
handing_back h L k =
    let e = h.envelope in
    rw (
      handing_fits_lem h L k,
      flag_is h.reading.best.below,
      flag_is e.stretches.last.below,
      flag_is e.stretches.best.below,
      flag_is e.chains.last.below,
      flag_is e.chains.best.below,
    )

pub survey_number : (t : Surveying) → sound t ≡ true → t.number ≤ most32
survey_number t e =
    let g = good t 0 e (omega (arith, fits t e)) in
    omega (arith, most_few t.reading.step, g.room, g.number)

-- ---- before the first sample
none_within : Within nothing
none_within = (omega arith, omega arith)

pub none_ok : (D R : ℕ) → step_in_range D ≡ true → ramp_in_range R ≡ true → SurveyOk (none D) R R
none_ok D R d r =
    record { step = d; keeps = none_sound D; best = none_within; ramp = r; left = r; idle = λ i. refl }

pub waiting_ok : (D R τ m z : ℕ) → step_in_range D ≡ true → ramp_in_range R ≡ true → decorrelation_in_range τ ≡ true
    → m ≤ 4294967295 → HandingOk (waiting D τ m z) R
waiting_ok D R τ m z d r t l =
    record {
      step = d;
      keeps = fresh_ready D τ m z;
      best = none_within;
      held = ((none_within, none_within), (none_within, none_within));
      decorrelation = t;
      number = l;
      left = r;
      idle = λ i. refl;
    }

-- ---- one piece more
-- what is left of the ramp after a piece
left_range : (L m : ℕ) → ramp_in_range L ≡ true → ramp_in_range (L - m) ≡ true
left_range L m e =
    both_true (le-leb 0 (L - m) (omega arith)) (le-leb (L - m) 1000000 (omega (arith, high 0 1000000 L e)))

idle_next : (L n : ℕ) (xs : List ℤ) (k : ℕ) → Idle L n → k ≡ n + length (drop L xs) → Idle (L - length xs) k
idle_next L n xs k i e h =
    let z : length (drop L xs) ≡ 0 = ap length (drop_of_length-le xs {i = L} (omega arith)) in
    omega (arith, e, z, i (omega arith))

module _ (t : Surveying) (R L : ℕ) (p : List ℤ) (k : SurveyOk t R L) (g : InRange p)
    (room : t.reading.n + length (drop L p) ≤ most_in_range t.reading.step 0) where
  abbrev timed : List ℤ
  timed = drop L p

  taken_in_lem : taken_in t L p ≡ Ok (foldl surveyed t timed)
  unfolding taken_in
  taken_in_lem = rw (k.keeps, not_bad p g) (sym (taken_all t timed k.keeps room))

  pub take_told : peaks_taken (of_survey t R L) p ≡ told 0 0 (of_survey (foldl surveyed t timed) R (L - length p))
  unfolding survey_kept survey_told
  take_told = rw (survey_back t R L k, taken_in_lem)

  pub take_grows : ((foldl surveyed t timed).reading.n ≡ t.reading.n + length timed)
      × ((foldl surveyed t timed).reading.step ≡ t.reading.step)
  take_grows =
      let q = good t 0 k.keeps (omega (arith, fits t k.keeps)) in
      let a = reads t.reading timed room q.opened (range_drop L p g) k.best in
      let e = survey_reads t timed in
      (ap (λ (r : Reading). r.n) e ∙ a.n, ap (λ (r : Reading). r.step) e ∙ a.step)

  pub take_ok : SurveyOk (foldl surveyed t timed) R (L - length p)
  take_ok =
      let s = range_small timed (range_drop L p g) in
      let q = good t 0 k.keeps (omega (arith, fits t k.keeps)) in
      let a = reads t.reading timed room q.opened (range_drop L p g) k.best in
      let e = survey_reads t timed in
      let m = goes t timed 0 s (omega (arith, k.best.0)) (good t (length timed + 0) k.keeps (omega arith)) in
      record {
        step = rw m.step k.step;
        keeps = sound_good (foldl surveyed t timed) 0 m.state;
        best = rw e a.best;
        ramp = k.ramp;
        left = left_range L (length p) k.left;
        idle = idle_next L t.reading.n p _ k.idle m.n;
      }

module _ (sizes times : List ℕ) (h : Handing) (L : ℕ) (p : List ℤ) (k : HandingOk h L) (g : InRange p)
    (room : h.reading.n + length (drop L p) ≤ most_in_range h.reading.step 0)
    (long : short (length sizes) (length times) (length (drop L p)) ≡ false) where
  abbrev after : List ℤ
  after = drop L p

  handed_in_lem : handed_in h L p (length sizes) (length times)
      ≡ Ok (foldl moved h after, length (closed_by h after))
  unfolding handed_in
  handed_in_lem = rw (k.keeps, not_bad p g) (sym (no_refusal h after sizes times k.keeps room long))

  pub hand_told : peaks_handed (of_handing h L) p sizes times
      ≡ told 0 (length (closed_by h after)) (of_handing (foldl moved h after) (L - length p))
  unfolding handing_kept handing_told
  hand_told = rw (handing_back h L k, handed_in_lem)

  pub hand_grows : ((foldl moved h after).reading.n ≡ h.reading.n + length after)
      × ((foldl moved h after).reading.step ≡ h.reading.step)
  hand_grows =
      let q = set_out h (length after + 0) k.keeps (omega arith) in
      let a = reads h.reading after room q.opened (range_drop L p g) k.best in
      let e = handing_reads h after in
      (ap (λ (r : Reading). r.n) e ∙ a.n, ap (λ (r : Reading). r.step) e ∙ a.step)

  pub hand_ok : HandingOk (foldl moved h after) (L - length p)
  hand_ok =
      let w = range_drop L p g in
      let q = set_out h (length after + 0) k.keeps (omega arith) in
      let a = reads h.reading after room q.opened w k.best in
      let e = handing_reads h after in
      let s = hands_same h after in
      record {
        step = rw (e, a.step) k.step;
        keeps = ready_set (foldl moved h after) 0 (set_fold h after 0 q);
        best = rw e a.best;
        held = hands_within h after room w k.best k.held;
        decorrelation = rw s.decorrelation k.decorrelation;
        number = omega (arith, s.number, k.number);
        left = left_range L (length p) k.left;
        idle = idle_next L h.reading.n p _ k.idle (ap (λ (r : Reading). r.n) e ∙ a.n);
      }

-- ---- an array that is taken, whoever made it: what a call leaves in it is the pass that it answers
idle_is : (L n : ℕ) → (eqb L 0 || eqb n 0) ≡ true → Idle L n
idle_is L n e h = go (eqb L 0) refl e
  where
    go : (b : Bool) → eqb L 0 ≡ b → (b || eqb n 0) ≡ true → n ≡ 0
    go true t e = let z = eqb-true L 0 t in absurd (omega arith)
    go false t e = eqb-true n 0 e

not-one : {A : Type 0} {b : Bool} → b ≡ true → b ≡ false → A
not-one h e = absurd (true≢false (sym h ∙ e))

pub survey_ok : (s : List ℕ) → sound (survey_of s) ≡ true → SurveyOk (survey_of s) (ramp_of s) (ramp_left s)
unfolding survey_of
survey_ok s h =
    by_test (is_survey s)
    (λ t.
    let q = survey_small s (and-true (eqb (length s) survey_numbers) (survey_fits s) t).1 in
    let r = reading_small s q.reading in
    let l = and-true (ramp_in_range (number_at s 9)) _ q.left in
    rw t (record {
      step = r.in_range;
      keeps = rw t at h;
      best = peak_small s 3 r.best;
      ramp = q.ramp;
      left = l.0;
      idle = idle_is (number_at s 9) (number_at s 1) l.1;
    }))
    (λ t. not-one h (other_survey s t))

pub handing_ok : (s : List ℕ) → ready (handing_of s) ≡ true → HandingOk (handing_of s) (handing_left s)
unfolding handing_of
handing_ok s h =
    by_test (is_handing s)
    (λ t.
    let q = handing_small s (and-true (eqb (length s) handing_numbers) (handing_fits s) t).1 in
    let r = reading_small s q.reading in
    let a = group_small s 6 q.stretches in
    let b = group_small s 13 q.chains in
    let l = and-true (ramp_in_range (number_at s 23)) _ q.left in
    rw t (record {
      step = r.in_range;
      keeps = rw t at h;
      best = peak_small s 3 r.best;
      held = ((peak_small s 7 a.0, peak_small s 10 a.1), (peak_small s 14 b.0, peak_small s 17 b.1));
      decorrelation = q.in_range;
      number = q.number;
      left = l.0;
      idle = idle_is (number_at s 23) (number_at s 1) l.1;
    }))
    (λ t. not-one h (other_handing s t))
