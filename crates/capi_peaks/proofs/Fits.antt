-- Numbers that are a peak, a reading or a pass fit the fields that they are read into; and a first pass that took two
-- samples has a step in range. Assumes nothing.
use Prim.Native.Nat.{ℕ, ◌+◌, ◌-◌, ◌≤◌, min}
use mathlib.Core.Path.{◌≡◌, ap, sym, ◌∙◌}
use mathlib.Core.Bool.{true}
use mathlib.Core.List.{List}
use native.Mathlib.Omega.{arith}
use lib.Dec.{leb}
use lib.IntN.{ℤ}
use lib.ListN.{drop, drop_of_length-le, length, take}
use borrow.Author.Tests.{leb-true}
use Rattle.truth.proofs.Cases.{by_order, by_test}
use Rattle.truth.proofs.Laws.{and-true}
use Rattle.sample_range.specs.Range.{sample_limit}
use Rattle.sample_items.proofs.Ranges.{high}
use Rattle.sample_items.specs.Limits.{decorrelation_in_range, longest_time, most_in_range, ramp_in_range, step_in_range}
use Rattle.peak_groups.proofs.Due.{from_place}
use Rattle.peak_stream.proofs.Pieces.{fits}
use Rattle.peak_stream.specs.declared.Surveying.{Surveying}
use Rattle.peak_stream.specs.Survey.{none, sound, started}
use Rattle.peak_stream.specs.Hands.{begun, waiting}
use Rattle.capi.specs.Numbers.{number_at}
use Rattle.capi_peaks.specs.Numbers.{group_fits, handing_fits, left_fits, most32, peak_fits, reading_fits}
use Rattle.capi_peaks.specs.Numbers.{survey_fits}
use Rattle.std.specs.Prelude.{Ok}

pub peak_small : (s : List ℕ) (i : ℕ) → peak_fits s i ≡ true
    → (number_at s (i + 1) ≤ sample_limit) × (number_at s (i + 2) ≤ longest_time)
peak_small s i e =
    let g = and-true (leb (number_at s (i + 1)) sample_limit) (leb (number_at s (i + 2)) longest_time)
    (and-true (leb (number_at s i) 1) _ e).1 in
    (leb-true (number_at s (i + 1)) sample_limit g.0, leb-true (number_at s (i + 2)) longest_time g.1)

pub peak_flag : (s : List ℕ) (i : ℕ) → peak_fits s i ≡ true → leb (number_at s i) 1 ≡ true
peak_flag s i e = (and-true (leb (number_at s i) 1) _ e).0

pub record ReadingSmall (s : List ℕ) : Type 0 where
  pub in_range : step_in_range (number_at s 0) ≡ true
  pub step : number_at s 0 ≤ 10000
  pub n : number_at s 1 ≤ most32
  pub opened : number_at s 2 ≤ most32
  pub best : peak_fits s 3 ≡ true

pub reading_small : (s : List ℕ) → reading_fits s ≡ true → ReadingSmall s
reading_small s e =
    let a = and-true (step_in_range (number_at s 0)) _ e in
    let b = and-true (leb (number_at s 1) most32) _ a.1 in
    let d = and-true (leb (number_at s 2) most32) (peak_fits s 3) b.1 in
    record {
      in_range = a.0;
      step = high 1 10000 (number_at s 0) a.0;
      n = leb-true (number_at s 1) most32 b.0;
      opened = leb-true (number_at s 2) most32 d.0;
      best = d.1;
    }

pub record SurveySmall (s : List ℕ) : Type 0 where
  pub reading : reading_fits s ≡ true
  pub number : number_at s 6 ≤ most32
  pub ramp : ramp_in_range (number_at s 8) ≡ true
  pub left : left_fits s 9 ≡ true

pub survey_small : (s : List ℕ) → survey_fits s ≡ true → SurveySmall s
survey_small s e =
    let a = and-true (reading_fits s) _ e in
    let b = and-true (leb (number_at s 6) most32) _ a.1 in
    let d = and-true (ramp_in_range (number_at s 8)) (left_fits s 9) b.1 in
    record { reading = a.0; number = leb-true (number_at s 6) most32 b.0; ramp = d.0; left = d.1 }

pub record HandingSmall (s : List ℕ) : Type 0 where
  pub reading : reading_fits s ≡ true
  pub stretches : group_fits s 6 ≡ true
  pub chains : group_fits s 13 ≡ true
  pub in_range : decorrelation_in_range (number_at s 20) ≡ true
  pub decorrelation : number_at s 20 ≤ 10000000
  pub number : number_at s 21 ≤ most32
  pub left : left_fits s 23 ≡ true

pub handing_small : (s : List ℕ) → handing_fits s ≡ true → HandingSmall s
handing_small s e =
    let a = and-true (reading_fits s) _ e in
    let b = and-true (group_fits s 6) _ a.1 in
    let d = and-true (group_fits s 13) _ b.1 in
    let f = and-true (decorrelation_in_range (number_at s 20)) _ d.1 in
    let k = and-true (leb (number_at s 21) most32) (left_fits s 23) f.1 in
    record {
      reading = a.0;
      stretches = b.0;
      chains = d.0;
      in_range = f.0;
      decorrelation = high 0 10000000 (number_at s 20) f.0;
      number = leb-true (number_at s 21) most32 k.0;
      left = k.1;
    }

pub group_small : (s : List ℕ) (i : ℕ) → group_fits s i ≡ true
    → (peak_fits s (i + 1) ≡ true) × (peak_fits s (i + 4) ≡ true)
group_small s i e = and-true (peak_fits s (i + 1)) (peak_fits s (i + 4)) e

-- ---- from the first pass to the second
most_step : (D n : ℕ) → 1 ≤ n → n ≤ most_in_range D 0 → step_in_range D ≡ true
unfolding most_in_range
most_step D n h l = by_test (step_in_range D) (λ e. e) (λ e. absurd (omega (arith, rw e at l)))

pub started_there : (D : ℕ) → step_in_range D ≡ true → started D ≡ Ok (none D)
unfolding started
started_there D e = rw e

pub begun_there : (s : Surveying) (τ : ℕ) → sound s ≡ true → decorrelation_in_range τ ≡ true → 2 ≤ s.reading.n
    → begun s.reading.step τ s.number s.sum ≡ Ok (waiting s.reading.step τ s.number s.sum, 0)
unfolding begun
begun_there s τ k t n = rw (most_step s.reading.step s.reading.n (omega arith) (fits s k), t)

-- ---- what comes after the ramp, as the code cuts it
below : (a b : ℕ) → a ≤ b → min a b ≡ a
below a b h = omega arith

above : (a b : ℕ) → b ≤ a → min a b ≡ b
above a b h = omega arith

drop_most : (a : ℕ) (xs : List ℤ) → drop (min a (length xs)) xs ≡ drop a xs
drop_most a xs =
    by_order a (length xs)
    (λ h. ap (λ (k : ℕ). drop k xs) (below a (length xs) (omega arith)))
    (λ h. ap (λ (k : ℕ). drop k xs) (above a (length xs) h) ∙ drop_of_length-le xs {i = length xs} (omega arith)
    ∙ sym (drop_of_length-le xs {i = a} h))

pub timed_is : (left : ℕ) (xs : List ℤ) (from : ℕ) → from ≡ min left (length xs)
    → take (length xs - from) (drop from xs) ≡ drop left xs
timed_is left xs from e = from_place from xs ∙ ap (λ (k : ℕ). drop k xs) e ∙ drop_most left xs
