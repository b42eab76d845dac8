-- Document 02 [11], its sentences of runs. D is the step; a sample is read as a `Peak`: its magnitude, its time in ms
-- after the ramp, and whether it is below zero. Assumes nothing.
use Rattle.std.specs.Prelude.{ℕ, suc, ◌+◌, ◌*◌, Bool, false, cond, not, List, [], ◌∷◌, length, drop, eqb, ℤ, pos, nat_abs}
use Rattle.std.specs.Int.Signed.{lt_z}
use Rattle.peak_groups.specs.declared.Peak.{Peak}
use Rattle.crossing_sets.specs.Groups.{groups}
use Rattle.peak_groups.specs.Groups.{inner, largest, tops}
use Rattle.peak_groups.specs.declared.Run.{Run}

-- two tests agree
abbrev pub same : Bool → Bool → Bool
same a b = cond a b (not b)

-- the side of a sample: a zero is on that of the run before it, s
abbrev pub side : Bool → ℤ → Bool
side s x = cond (eqb (nat_abs x) 0) s (lt_z x (pos 0))

-- the sample x at t ms, after a run on the side s
abbrev pub point : Bool → ℕ → ℤ → Peak
point s t x = record { size = nat_abs x; time = t; below = side s x }

-- samples from t ms on, D ms apart
unfoldable pub points : ℕ → Bool → ℕ → List ℤ → List Peak
points D s t [] = []
points D s t (x ∷ xs) = point s t x ∷ points D (side s x) (t + D) xs

-- zeros at the start belong to no run
unfoldable pub started : List Peak → List Peak
started [] = []
started (p ∷ l) = cond (eqb p.size 0) (started l) (p ∷ l)

-- a run is of one sign
abbrev pub same_side : Peak → Peak → Bool
same_side p q = same p.below q.below

-- the peaks of the timed samples: the largest magnitude of each run, at the first sample that has it, without the first
-- and the last run's
unfoldable pub peaks : ℕ → List ℤ → List Peak
peaks D timed = inner (tops same_side (started (points D false 0 timed)))

-- how many zeros stand at the start
unfoldable pub zeros : List ℤ → ℕ
zeros [] = 0
zeros (x ∷ xs) = cond (eqb (nat_abs x) 0) (suc (zeros xs)) 0

-- the first of several groups, or none
unfoldable pub first : {A : Type 0} → List (List A) → List A
first [] = []
first (g ∷ gs) = g

-- a run's figures, of its samples at places for times
unfoldable pub figures : List Peak → Run
figures g = record { below = (largest g).below; length = length g; place = (largest g).time; size = (largest g).size }

-- the first run's
abbrev pub first_run : List ℤ → Run
first_run xs = figures (first (groups same_side (points 1 false 0 xs)))

-- the peak of a run whose first sample stands at t ms
abbrev pub peak_at : ℕ → ℕ → Run → Peak
peak_at D t r = record { below = r.below; size = r.size; time = t + r.place * D }

-- where the second run starts: past the zeros and the first run
abbrev pub second : List ℤ → ℕ
second xs = zeros xs + (first_run (drop (zeros xs) xs)).length
