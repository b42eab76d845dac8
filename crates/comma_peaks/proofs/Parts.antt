-- The timed part of some samples, as the code cuts it, and what a first pass makes of it. Assumes nothing.
use Rattle.std.proofs.Common.{◌≡◌, ℕ, ◌+◌, ◌-◌, ◌<◌, ◌≤◌, min, Bool, true, false, cond, List, length, take, drop, ℤ, sym, refl, ap, ◌∙◌, subst, arith, drop_of_length-le, length-take, take_all}
use mathlib.Core.List.{foldl}
use Rattle.truth.proofs.Cases.{by_test, by_order}
use Rattle.peak_groups.proofs.Due.{from_place}
use Rattle.sample_items.specs.Limits.{most_in_range}
use Rattle.peak_stream.specs.declared.Reading.{Reading}
use Rattle.peak_stream.specs.declared.Surveying.{Surveying}
use Rattle.peak_stream.specs.Survey.{sound, surveyed, taken}
use Rattle.peak_stream.proofs.Pieces.{taken_broken, taken_all, fits}
use Rattle.comma_peaks.specs.Timed.{timed_of, counting, surveying_in}
use Rattle.refusal.specs.declared.Refusal.{Refusal}
use Rattle.std.specs.Prelude.{Result}

-- no more than there are
below : (a b : ℕ) → a ≤ b → min a b ≡ a
below a b h = omega arith

above : (a b : ℕ) → b ≤ a → min a b ≡ b
above a b h = omega arith

drop_most : (a : ℕ) (xs : List ℤ) → drop (min a (length xs)) xs ≡ drop a xs
drop_most a xs =
    by_order a (length xs)
    (λ h. ap (λ (k : ℕ). drop k xs) (below a (length xs) (omega arith)))
    (λ h. ap (λ (k : ℕ). drop k xs) (above a (length xs) h) ∙ drop_of_length-le xs {i = length xs} (omega arith) ∙ sym (drop_of_length-le xs {i = a} h))

take_most : (a : ℕ) (xs : List ℤ) → take (min a (length xs)) xs ≡ take a xs
take_most a xs =
    by_order a (length xs)
    (λ h. ap (λ (k : ℕ). take k xs) (below a (length xs) (omega arith)))
    (λ h. ap (λ (k : ℕ). take k xs) (above a (length xs) h) ∙ take_all (length xs) xs (omega arith) ∙ sym (take_all a xs h))

least_fits : (a b n : ℕ) → n ≡ min a b → n ≤ b
least_fits a b n e = omega arith

module _ (R lines : ℕ) (r : Reading) (xs : List ℤ) (from n : ℕ) where
  -- from the ramp's end, as far as there is room
  pub part_is : from ≡ min (R - lines) (length xs)
      → n ≡ min (most_in_range r.step 0 - r.n) (length (take (length xs - from) (drop from xs)))
      → take n (take (length xs - from) (drop from xs)) ≡ timed_of R lines r xs
  part_is e f =
      let m = most_in_range r.step 0 - r.n in
      let p : take (length xs - from) (drop from xs) ≡ drop (R - lines) xs = from_place from xs ∙ ap (λ (k : ℕ). drop k xs) e ∙ drop_most (R - lines) xs in
      ap (λ (k : ℕ). take k (take (length xs - from) (drop from xs))) f ∙ take_most m (take (length xs - from) (drop from xs)) ∙ ap (take m) p

  pub part_long : n ≡ min (most_in_range r.step 0 - r.n) (length (take (length xs - from) (drop from xs)))
      → n ≤ length (take (length xs - from) (drop from xs))
  part_long f = least_fits (most_in_range r.step 0 - r.n) (length (take (length xs - from) (drop from xs))) n f

-- ---- a first pass with the timed part
timed_fits : (R lines : ℕ) (s : Surveying) (xs : List ℤ) → sound s ≡ true → s.reading.n + length (timed_of R lines s.reading xs) ≤ most_in_range s.reading.step 0
timed_fits R lines s xs e =
    let m = most_in_range s.reading.step 0 in
    omega (arith, fits s e, length-take (m - s.reading.n) (drop (R - lines) xs))

pub counted : (R lines : ℕ) (s : Surveying) (xs ys : List ℤ) (a : Result Surveying Refusal) → ys ≡ timed_of R lines s.reading xs → a ≡ taken s ys → surveying_in a s ≡ counting R lines s xs
unfolding counting
counted R lines s xs ys a e f =
    let t = timed_of R lines s.reading xs in
    let g : a ≡ taken s t = f ∙ ap (taken s) e in
    by_test (sound s)
    (λ h. ap (λ (x : Result Surveying Refusal). surveying_in x s) (g ∙ sym (taken_all s t h (timed_fits R lines s xs h))) ∙ sym (rw h refl))
    (λ h. ap (λ (x : Result Surveying Refusal). surveying_in x s) (g ∙ sym (taken_broken s t h)) ∙ sym (rw h refl))
