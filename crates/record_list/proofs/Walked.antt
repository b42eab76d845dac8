-- A walk over all timed samples: it counts the counted times and leaves them in the slice, and half as many as samples
-- are the most. Assumes nothing.
use Prim.Native.Nat.{ℕ, suc, ◌+◌, ◌*◌, ◌≤◌}
use mathlib.Core.Path.{◌≡◌, ◌∙◌}
use mathlib.Core.Bool.{Bool, true, false, cond, not, ◌&&◌}
use mathlib.Core.List.{List, [], ◌∷◌, foldl, ◌++◌}
use native.Mathlib.Nat.{zero-add}
use native.Mathlib.Omega.{arith}
use lib.ListN.{length, drop}
use lib.Seq.{sets, sets-eq}
use Rattle.sample_channels.specs.declared.Levels.{Levels}
use Rattle.sample_channels.specs.declared.Moment.{Moment}
use Rattle.sample_channels.specs.Channels.{above}
use Rattle.crossing_places.specs.Reading.{counted_times, unramped}
use Rattle.record_list.specs.Walk.{start, starts, stepped, Noting, noting, noted}
use Rattle.record_list.proofs.Noting.{heard}

-- put one by one from the slice's start on
sets_front : (ts before : List ℕ) → length ts ≤ length before → sets before 0 ts ≡ ts ++ drop (length ts) before
sets_front ts before l = sets-eq ts before 0 (omega arith) ∙ rw zero-add

module _ (D : ℕ) (a : Levels) (τ : ℕ) (xs : List Moment) (ts : List ℕ) where
  pub walked_count : (foldl (noted D a τ) (noting start ts) xs).walk.count ≡ length (counted_times (unramped D a τ) xs)
  walked_count = (heard D a τ xs ts).counted ∙ zero-add _

  -- into a slice with room for them
  pub walked_times : length (counted_times (unramped D a τ) xs) ≤ length ts → (foldl (noted D a τ) (noting start ts)
      xs).times ≡ counted_times (unramped D a τ) xs ++ drop (length (counted_times (unramped D a τ) xs)) ts
  walked_times l = (heard D a τ xs ts).slice ∙ sets_front (counted_times (unramped D a τ) xs) ts l

-- at most half of the samples are counted: just before each stands one at most the level
half_step : (b up d : Bool) (c n : ℕ) → 2 * c + cond b 1 0 ≤ n → 2 * cond ((b && up) && d) (c + 1) c + cond (not up) 1 0 ≤ suc n
half_step true true true c n l = omega arith
half_step true true false c n l = omega arith
half_step true false d c n l = omega arith
half_step false true d c n l = omega arith
half_step false false d c n l = omega arith

module _ (D : ℕ) (a : Levels) (τ : ℕ) where
  half_walked : (s : Noting) (xs : List Moment) (n : ℕ) → 2 * s.walk.count + cond s.walk.below 1 0 ≤ n → 2 * (foldl (noted D a τ) s xs).walk.count ≤ n + length xs
  unfolding noted stepped
  half_walked s [] n l = omega arith
  half_walked s (x ∷ xs) n l =
      let i = half_walked (noted D a τ s x) xs (suc n) (half_step s.walk.below (above a x) (starts s.walk) s.walk.count n l) in
      omega (arith, i)

  pub half_counted : (xs : List Moment) → 2 * length (counted_times (unramped D a τ) xs) ≤ length xs
  half_counted xs = omega (arith, half_walked (noting start []) xs 0 (omega arith), walked_count D a τ xs [])
