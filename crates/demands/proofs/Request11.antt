-- Document 02 [11], what a customer who looks for envelope peaks may rely on: 1, 2, 3, 4, 7 are judged in this order,
-- items 3 and 6 are never named, and a refusal leaves both slices as they stood; where none is given, both start with
-- the peaks handed out and the rest stays. And of the definitions: there is one way to part a list into groups of
-- neighbours that join; a run starts with a sample that is not zero and has none of the other sign; a peak is kept
-- exactly if it is the first largest of a high stretch with a peak that is not high on both sides; what is handed out
-- is more than the decorrelation time apart. The proof only puts together what `peak_groups`, `peak_groups` and
-- `peak_envelope` have. Assumes nothing.
use mathlib.Core.Path.{◌≡◌, refl}
use mathlib.Core.Bool.{Bool, true, false, cond, not, ◌||◌}
use mathlib.Core.List.{List, [], ◌∷◌, ◌++◌, map}
use native.Mathlib.Omega.{arith}
use Prim.Native.Nat.{ℕ, ◌+◌, ◌≤◌}
use lib.Dec.{eqb, ltb}
use lib.IntN.{ℤ}
use lib.ListN.{length, drop}
use Rattle.truth.proofs.Laws.{impossible}
use Rattle.refusal.specs.declared.Refusal.{Refusal}
use Rattle.refusal.specs.declared.Refusal.TheVariants.{Item, Room, Sample, TooLong, TooShort}
use Rattle.sample_items.specs.Limits.{item_outside, step_in_range, ramp_in_range, decorrelation_in_range, most_samples}
use Rattle.sample_range.specs.Range.{first_bad}
use Rattle.crossing_places.specs.Reading.{too_few}
use Rattle.peak_groups.specs.declared.Peak.{Peak}
use Rattle.crossing_sets.specs.Groups.{groups}
use Rattle.peak_groups.specs.Groups.{inner, largest, tops}
use Rattle.crossing_sets.specs.Parting.{Parting}
use Rattle.peak_groups.specs.Largest.{All, In, Spaced, Top, Tops}
use Rattle.peak_groups.proofs.Meant.{top_unique, tops_top}
use Rattle.peak_groups.specs.OneSign.{EachOneSign, IsPoints, WithoutZeros}
use Rattle.peak_groups.specs.Runs.{peaks, points, same_side, started}
use Rattle.peak_groups.proofs.OneSign.{read, runs_one_sign, without_zeros}
use Rattle.crossing_sets.proofs.Parting.{groups_only, groups_part}
use Rattle.peak_groups.specs.Peaks.{close, handed, high, kept, sum}
use Rattle.peak_groups.specs.Meaning.{Stands}
use Rattle.peak_groups.proofs.Stretches.{standing_stands, stands_standing}
use Rattle.peak_groups.proofs.Apart.{handed_apart}
use Rattle.peak_machine.specs.Step.{moment_of, size_of}
use Rattle.peak_envelope.specs.Answers.{FindsTo, found, item_asked, placed, written}
use Rattle.peak_envelope.proofs.Unique.{find_unique}
use Rattle.demands.proofs.Demand1.{Decides, Test, ◌gives◌, decide, decided}
use Rattle.std.specs.Prelude.{Result, Ok, Err}

-- ---- the statement
abbrev pub envelope_tests : ℕ → ℕ → ℕ → List ℤ → ℕ → ℕ → List Test
envelope_tests D R τ xs sizes times =
    not (eqb (item_asked D R τ) 0) gives Item (item_asked D R τ)
    ∷ (ltb (first_bad xs) (length xs) gives Sample (first_bad xs)
    ∷ (ltb (most_samples D R) (length xs) gives TooLong
    ∷ (too_few R (length xs) gives TooShort
    ∷ ((ltb sizes (length (handed D R τ xs)) || ltb times (length (handed D R τ xs))) gives Room (length (handed D R τ xs))
    ∷ []))))

-- p is the first largest of a high stretch of l with a peak that is not high on both sides
abbrev pub Highest : List Peak → Peak → Type 0
Highest l p = (g : List Peak) × Stands (high (length l) (sum l)) l g × Top p g

-- the runs of one sign of the timed samples xs
abbrev pub runs_of : ℕ → List ℤ → List (List Peak)
runs_of D xs = groups same_side (started (points D false 0 xs))

pub record Request11 : Type 0 where
  pub order : (D R τ : ℕ) (xs : List ℤ) (sizes times : ℕ) → Decides Err (envelope_tests D R τ xs sizes times) (Ok (length (handed D R τ xs))) (found D R τ xs sizes times)
  pub no_level : (D R τ : ℕ) → ¬ (item_asked D R τ ≡ 3) × ¬ (item_asked D R τ ≡ 6)
  pub stays : (D R τ : ℕ) (xs : List ℤ) (sizes times s t : List ℕ) (f : Refusal) → FindsTo D R τ xs sizes times (Err f) s t → (s ≡ sizes) × (t ≡ times)
  pub given : (D R τ : ℕ) (xs : List ℤ) (sizes times s t : List ℕ) (k : ℕ) → FindsTo D R τ xs sizes times (Ok k) s t
      → (s ≡ map size_of (handed D R τ xs) ++ drop k sizes) × (t ≡ map moment_of (handed D R τ xs) ++ drop k times)
  -- the samples as they are read: magnitude, time and sign, a zero with the sign before it; at the start it is in no
  -- run
  pub read : (D : ℕ) (xs : List ℤ) → IsPoints D false 0 xs (points D false 0 xs)
  pub zeros : (D : ℕ) (xs : List ℤ) → WithoutZeros (points D false 0 xs) (started (points D false 0 xs))
  -- a run starts with a sample that is not zero and has none of the other sign
  pub one_sign : (D : ℕ) (xs : List ℤ) → EachOneSign (runs_of D xs)
  -- its peak is its largest magnitude, at the first sample that has it; the first run's and the last run's are dropped
  pub run_peaks : (D : ℕ) (xs : List ℤ) → (ps : List Peak) × Tops ps (runs_of D xs) × (peaks D xs ≡ inner ps)
  -- what is handed out is the largest of each chain of kept peaks, the first on a tie; there is one
  pub chained : (D R τ : ℕ) (xs : List ℤ) → Tops (handed D R τ xs) (groups (close τ) (kept (peaks D (drop R xs))))
  pub one_top : (p q : Peak) (g : List Peak) → Top p g → Top q g → p ≡ q
  pub parted : (joins : Peak → Peak → Bool) (l : List Peak) → Parting joins l (groups joins l) × ((gs : List (List Peak)) → Parting joins l gs → gs ≡ groups joins l)
  pub highest : (l : List Peak) → All (Highest l) (kept l)
  pub all_kept : (l : List Peak) (p : Peak) (g : List Peak) → Stands (high (length l) (sum l)) l (p ∷ g) → In (largest (p ∷ g)) (kept l)
  pub apart : (D R τ : ℕ) (xs : List ℤ) → 1 ≤ D → Spaced (τ + 1) 0 (handed D R τ xs)
  pub settled : (D R τ : ℕ) (xs : List ℤ) (sizes times : List ℕ) (x y : Result ℕ Refusal) (s t u v : List ℕ) → FindsTo D R
      τ xs sizes times x s u → FindsTo D R τ xs sizes times y t v → (x ≡ y) × (s ≡ t) × (u ≡ v)

-- ---- the proof
level_in_range : (D R τ : ℕ) → ¬ (item_asked D R τ ≡ 3) × ¬ (item_asked D R τ ≡ 6)
unfolding item_outside
level_in_range D R τ = (other 3 (omega arith) (λ e. omega (arith, e)), other 6 (omega arith) (λ e. omega (arith, e)))
  where
    go : (k : ℕ) → 3 ≤ k → ¬ (k ≡ 4) → (a b d : Bool) → ¬ (cond (not a) 1 (cond (not b) 2 (cond (not d) 4 0)) ≡ k)
    go k l n false b d e = absurd (omega (arith, e))
    go k l n true false d e = absurd (omega (arith, e))
    go k l n true true false e = n (omega (arith, e))
    go k l n true true true e = absurd (omega (arith, e))

    other : (k : ℕ) → 3 ≤ k → ¬ (k ≡ 4) → ¬ (item_asked D R τ ≡ k)
    other k l n = go k l n (step_in_range D) (ramp_in_range R) (decorrelation_in_range τ)

pub request_11 : Request11
unfolding decide found placed written peaks
request_11 =
    record {
      order = λ D R τ xs sizes times. decided Err (Ok (length (handed D R τ xs))) (λ r s e. cc) (λ r e. impossible (cc)) (envelope_tests D R τ xs sizes times) (found D R τ xs sizes times) refl;
      no_level = level_in_range;
      stays = λ D R τ xs sizes times s t f p. (p.sizes_left, p.times_left);
      given = λ D R τ xs sizes times s t k p. (p.sizes_left, p.times_left);
      read = λ D xs. read D false 0 xs;
      zeros = λ D xs. without_zeros (points D false 0 xs);
      one_sign = runs_one_sign;
      run_peaks = λ D xs. (tops same_side (started (points D false 0 xs)), tops_top same_side (started (points D false 0 xs)), refl);
      chained = λ D R τ xs. tops_top (close τ) (kept (peaks D (drop R xs)));
      one_top = top_unique;
      parted = λ joins l. (groups_part joins l, groups_only joins l);
      highest = λ l. standing_stands (length l) (sum l) l;
      all_kept = λ l p g h. stands_standing (length l) (sum l) l p g h;
      apart = handed_apart;
      settled = find_unique;
    }
