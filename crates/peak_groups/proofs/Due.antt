-- All runs, found one after the other: what is due from place k on is the peak of the run that starts there, and what
-- is due after it; of the last run nothing is. What is due after the zeros and the first run are all peaks. Assumes
-- nothing.
use Prim.Native.Nat.{ℕ, suc, ◌+◌, ◌-◌, ◌*◌, ◌≤◌, ◌<◌}
use mathlib.Core.Path.{◌≡◌, refl, sym, ap, ◌∙◌, subst}
use mathlib.Core.Bool.{Bool, true, false, cond}
use mathlib.Core.List.{List, [], ◌∷◌, map, foldl, drop_last}
use native.Mathlib.Omega.{arith}
use lib.ListN.{length, take, drop, drop_of_length-le, length-drop}
use lib.Seq.{drop-drop, take_all}
use lib.Dec.{eqb}
use lib.IntN.{ℤ, nat_abs}
use Rattle.truth.proofs.Cases.{by_order}
use Rattle.peak_groups.specs.declared.Peak.{Peak}
use Rattle.crossing_sets.specs.Groups.{groups}
use Rattle.peak_groups.specs.Groups.{inner, larger, largest, tops}
use Rattle.peak_groups.specs.declared.Run.{Run}
use Rattle.peak_groups.specs.Runs.{side, point, points, started, same_side, peaks, zeros, first, figures, first_run, peak_at, second}
use Rattle.peak_groups.specs.Step.{opened}
use Rattle.peak_groups.proofs.Ahead.{ahead, apart, inside, first_ahead}

-- the runs of xs, from t ms on
abbrev all : ℕ → ℕ → List ℤ → List Peak
all D t xs = tops same_side (points D false t xs)

-- the first of them and the others
record Next (D t : ℕ) (xs : List ℤ) (r : Run) : Type 0 where
  is : all D t xs ≡ peak_at D t r ∷ all D (t + r.length * D) (drop r.length xs)
  some : 1 ≤ r.length
  fits : r.length ≤ length xs
  inner : r.place < r.length

next : (D t : ℕ) (x : ℤ) (xs : List ℤ) → Next D t (x ∷ xs) (ahead (opened x) xs)
unfolding points tops largest
next D t x xs =
    let a = apart D t (side false x) 1 (point false t x) xs refl in
    let r = ahead (opened x) xs in
    let n = length a.group in
    let l : r.length ≡ suc n = a.long (opened x) refl refl ∙ (omega arith) in
    let u : t + D ≡ t + 1 * D = omega arith in
    let p : peak_at D t r ≡ foldl larger (point false t x) a.group = a.peak (opened x) refl refl ∙
    ap (λ (v : ℕ). foldl larger (record { below = side false x; size = nat_abs x; time = v }) a.group)
    (omega arith) in
    let e : all D t (x ∷ xs) ≡ foldl larger (point false t x) a.group ∷ map largest a.later =
    ap (λ (v : ℕ). tops same_side (point false t x ∷ points D (side false x) v xs)) u ∙ ap (map largest) a.is in
    record {
      is = rw (p, l) (e ∙ ap (λ (g : List (List Peak)). foldl larger (point false t x) a.group ∷ map largest g)
          (a.rest ∙ ap (λ (v : ℕ). groups same_side (points D false (t + v * D) (drop n xs))) (omega arith)));
      some = omega arith;
      fits = omega (arith, a.fits);
      inner = inside (opened x) xs (omega arith);
    }

-- the same of the definition
step : (D t : ℕ) (xs : List ℤ) → 0 < length xs → Next D t xs (first_run xs)
step D t [] h = absurd (omega (arith, h))
step D t (x ∷ xs) h = subst (Next D t (x ∷ xs)) (first_ahead x xs) (next D t x xs)

-- what comes after the first run
others : (D t : ℕ) (xs : List ℤ) → drop 1 (all D t xs) ≡ all D (t + (first_run xs).length * D) (drop (first_run xs).length xs)
unfolding points tops groups figures first
others D t [] = refl
others D t (x ∷ xs) = ap (drop 1) (step D t (x ∷ xs) (omega arith)).is

pub run_fits : (xs : List ℤ) → (first_run xs).length ≤ length xs
unfolding points groups figures first
run_fits [] = omega arith
run_fits (x ∷ xs) = (step 1 0 (x ∷ xs) (omega arith)).fits

-- it has a sample, and its peak is in it
pub run_holds : (xs : List ℤ) → 0 < length xs → (1 ≤ (first_run xs).length) × ((first_run xs).place < (first_run xs).length)
run_holds xs h = let n = step 1 0 xs h in (n.some, n.inner)

-- the open run is not the last before it
not_end : (D t : ℕ) (xs : List ℤ) (p : Peak) → 0 < length xs → drop_last (p ∷ all D t xs) ≡ p ∷ drop_last (all D t xs)
not_end D t xs p h = rw (step D t xs h).is

-- ---- the peaks from place k on
abbrev pub due : ℕ → ℕ → List ℤ → List Peak
due D k xs = drop_last (all D (k * D) (drop k xs))

module _ (D k : ℕ) (xs : List ℤ) where
  abbrev r : Run
  r = first_run (drop k xs)

  pub due_next : k + r.length < length xs → due D k xs ≡ peak_at D (k * D) r ∷ due D (k + r.length) xs
  due_next h =
      let l = length-drop k xs in
      let n = step D (k * D) (drop k xs) (omega arith) in
      let d = drop-drop r.length k xs in
      let t : k * D + r.length * D ≡ (k + r.length) * D = omega arith in
      ap drop_last n.is
      ∙ ap (λ (ys : List ℤ). drop_last (peak_at D (k * D) r ∷ all D (k * D + r.length * D) ys)) d
      ∙ ap (λ (v : ℕ). drop_last (peak_at D (k * D) r ∷ all D v (drop (k + r.length) xs))) t
      ∙ not_end D ((k + r.length) * D) (drop (k + r.length) xs) (peak_at D (k * D) r) (omega (arith, length-drop (k + r.length) xs))

  pub due_last : length xs ≤ k + r.length → due D k xs ≡ []
  unfolding points tops groups
  due_last h = by_order k (length xs) some none
    where
      some : k < length xs → due D k xs ≡ []
      some m =
          let l = length-drop k xs in
          let n = step D (k * D) (drop k xs) (omega arith) in
          ap drop_last n.is ∙ ap (λ (ys : List ℤ). drop_last (peak_at D (k * D) r ∷ all D (k * D + r.length * D) ys)) (drop_of_length-le (drop k xs) {i = r.length} (omega arith))

      none : length xs ≤ k → due D k xs ≡ []
      none m = ap (λ (ys : List ℤ). drop_last (all D (k * D) ys)) (drop_of_length-le xs {i = k} m)

-- ---- from the second run on
zeros_started : (D t : ℕ) (xs : List ℤ) → started (points D false t xs) ≡ points D false (t + zeros xs * D) (drop (zeros xs) xs)
unfolding points started zeros
zeros_started D t [] = refl
zeros_started D t (x ∷ xs) = go (eqb (nat_abs x) 0) refl (zeros_started D (t + D) xs)
  where
    go : (b : Bool) → eqb (nat_abs x) 0 ≡ b → started (points D false (t + D) xs) ≡ points D false (t + D + zeros xs
        * D) (drop (zeros xs) xs) → started (points D false t (x ∷ xs)) ≡ points D false (t + zeros (x ∷ xs) * D)
        (drop (zeros (x ∷ xs)) (x ∷ xs))
    go true e i = let u : t + D + zeros xs * D ≡ t + suc (zeros xs) * D = omega arith in rw e (i ∙ ap (λ (v : ℕ). points D false v (drop (zeros xs) xs)) u)
    go false e i =
        let u : t ≡ t + 0 * D = omega arith in
        let z : zeros (x ∷ xs) ≡ 0 = rw e in
        let w : started (points D false t (x ∷ xs)) ≡ points D false t (x ∷ xs) = rw e in
        w ∙ ap (λ (v : ℕ). points D false v (x ∷ xs)) u ∙ ap (λ (n : ℕ). points D false (t + n * D) (drop n (x ∷ xs))) (sym z)

pub zeros_fit : (xs : List ℤ) → zeros xs ≤ length xs
unfolding zeros
zeros_fit [] = omega arith
zeros_fit (x ∷ xs) = go (eqb (nat_abs x) 0) (zeros_fit xs)
  where
    go : (b : Bool) → zeros xs ≤ length xs → cond b (suc (zeros xs)) 0 ≤ suc (length xs)
    go true h = omega arith
    go false h = omega arith

pub due_first : (D : ℕ) (xs : List ℤ) → due D (second xs) xs ≡ peaks D xs
unfolding peaks
due_first D xs =
    let z = zeros xs in
    let l = (first_run (drop z xs)).length in
    let u : 0 + z * D + l * D ≡ (z + l) * D = omega arith in
    sym (ap (λ (ps : List Peak). inner (tops same_side ps)) (zeros_started D 0 xs)
    ∙ ap drop_last (others D (0 + z * D) (drop z xs))
    ∙ ap (λ (ys : List ℤ). drop_last (all D (0 + z * D + l * D) ys)) (drop-drop l z xs)
    ∙ ap (λ (v : ℕ). drop_last (all D v (drop (z + l) xs))) u)

-- a slice from place k on holds the samples from there on
pub from_place : (k : ℕ) (xs : List ℤ) → take (length xs - k) (drop k xs) ≡ drop k xs
from_place k xs = take_all (length xs - k) (drop k xs) (omega (arith, length-drop k xs))

-- the second run starts within the samples, or where they end
pub second_fits : (xs : List ℤ) → second xs ≤ length xs
second_fits xs = omega (arith, zeros_fit xs, run_fits (drop (zeros xs) xs), length-drop (zeros xs) xs)

-- ---- a walk from run to run: r starts at place k
module _ (xs : List ℤ) (k : ℕ) (r : Run) (e : r ≡ first_run (drop k xs)) where
  pub walk_fits : k ≤ length xs → k + r.length ≤ length xs
  walk_fits l = omega (arith, ap (λ (s : Run). s.length) e, run_fits (drop k xs), length-drop k xs)

  pub walk_holds : k + r.length < length xs → (1 ≤ r.length) × (r.place < r.length)
  walk_holds l = subst (λ (s : Run). (1 ≤ s.length) × (s.place < s.length)) (sym e) (run_holds (drop k xs) (omega (arith, length-drop k xs)))

  pub walk-next : k + r.length < length xs → (D : ℕ) → due D k xs ≡ peak_at D (k * D) r ∷ due D (k + r.length) xs
  walk-next l D = subst (λ (s : Run). due D k xs ≡ peak_at D (k * D) s ∷ due D (k + s.length) xs) (sym e) (due_next D k xs (omega (arith, ap (λ (s : Run). s.length) e)))

  pub walk_ends : length xs ≤ k + r.length → (D : ℕ) → due D k xs ≡ []
  walk_ends l D = due_last D k xs (omega (arith, ap (λ (s : Run). s.length) e))
