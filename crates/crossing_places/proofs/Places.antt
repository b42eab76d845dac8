-- The crossings' places are in order, so that the walk over them finds a largest set; and times of places apart are
-- apart. Assumes nothing.
use Prim.Native.Nat.{ℕ, zero, suc, ◌+◌, ◌-◌, ◌≤◌}
use mathlib.Core.Bool.{Bool, true, false, cond}
use mathlib.Core.List.{List, [], ◌∷◌, map}
use native.Mathlib.Nat.{mul-le-mul_right}
use native.Mathlib.Omega.{arith}
use Rattle.crossing_sets.specs.Choice.{After, Apart}
use Rattle.crossing_sets.proofs.Rising.{From, Rising}
use Rattle.crossing_places.specs.Reading.{time_at, passing}

module _ (D R : ℕ) where
  later_time : {i j : ℕ} → i ≤ j → time_at D R i ≤ time_at D R j
  later_time {i} {j} h = mul-le-mul_right {m = i - R} {n = j - R} D (omega arith)

  from_passing : (f : ℕ → Bool) (x k n : ℕ) → x ≤ k → From (time_at D R) x (passing f k n)
  unfolding passing
  from_passing f x k zero h = tt
  from_passing f x k (suc n) h = go (f k) (from_passing f x (k + 1) n (omega arith))
    where
      go : (b : Bool) → From (time_at D R) x (passing f (k + 1) n) → From (time_at D R) x (cond b (k ∷ passing f (k + 1) n) (passing f (k + 1) n))
      go true i = (later_time h, i)
      go false i = i

  pub rising_passing : (f : ℕ → Bool) (k n : ℕ) → Rising (time_at D R) (passing f k n)
  unfolding passing
  rising_passing f k zero = tt
  rising_passing f k (suc n) = go (f k) (rising_passing f (k + 1) n)
    where
      go : (b : Bool) → Rising (time_at D R) (passing f (k + 1) n) → Rising (time_at D R) (cond b (k ∷ passing f (k + 1) n) (passing f (k + 1) n))
      go true i = (from_passing f k (k + 1) n (omega arith), i)
      go false i = i

-- a time is its own moment
abbrev pub itself : ℕ → ℕ
itself t = t

module _ (time : ℕ → ℕ) (τ : ℕ) where
  after_times : (x : ℕ) (l : List ℕ) → After time τ x l → After itself τ (time x) (map time l)
  after_times x [] a = tt
  after_times x (y ∷ l) a = (a.0, after_times x l a.1)

  pub apart_times : (l : List ℕ) → Apart time τ l → Apart itself τ (map time l)
  apart_times [] a = tt
  apart_times (x ∷ l) a = (after_times x l a.0, apart_times l a.1)
