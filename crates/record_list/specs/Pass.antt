-- What a pass over the timed samples finds: D is the step, a the levels, τ the decorrelation time, xs the roll and ys
-- the acceleration. Assumes nothing.
use Rattle.std.specs.Prelude.{ℕ, ◌≡◌, true, false, ℤ, length, Option, Some, None}
use mathlib.Core.List.{List, foldl}
use Rattle.sample_channels.specs.declared.Levels.{Levels}
use Rattle.sample_channels.specs.Channels.{moments, any_bad}
use Rattle.record_list.specs.Walk.{start, noting, noted}

-- the timed samples, noted into a slice: how many failures are counted, and the slice afterwards; or that a sample is
-- bad
abbrev pub Passes : ℕ → Levels → ℕ → List ℤ → List ℤ → List ℕ → Option ℕ → List ℕ → Type 0
Passes D a τ xs ys before (Some n) after =
    (any_bad xs ys ≡ false) × (n ≡ (foldl (noted D a τ) (noting start before) (moments xs ys)).walk.count) × (after ≡ (foldl (noted D a τ) (noting start before) (moments xs ys)).times)
Passes D a τ xs ys before None after = any_bad xs ys ≡ true

-- they were noted so into the slice `kept`
pub record Heard (D : ℕ) (a : Levels) (τ : ℕ) (xs ys : List ℤ) (r : Option ℕ) (kept : List ℕ) : Type 0 where
  pub before : List ℕ
  pub same : length before ≡ length kept
  pub passes : Passes D a τ xs ys before r kept
