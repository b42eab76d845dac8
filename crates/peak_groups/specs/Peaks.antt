-- Document 02 [11], its sentences of peaks: which are high, which are kept, and which are handed out. D is the step, R
-- the ramp, τ the decorrelation time, xs all samples. Assumes nothing.
use Rattle.std.specs.Prelude.{ℕ, ◌+◌, ◌*◌, Bool, ◌||◌, List, [], ◌∷◌, length, drop, ltb, leb, ℤ}
use Rattle.peak_groups.specs.declared.Peak.{Peak}
use Rattle.peak_groups.specs.Groups.{inner, those, tops}
use Rattle.peak_groups.specs.Runs.{same, peaks}

-- the magnitudes added up
unfoldable pub sum : List Peak → ℕ
sum [] = 0
sum (p ∷ l) = p.size + sum l

-- above the mean of n peaks with the sum s, in whole numbers
abbrev pub high : ℕ → ℕ → Peak → Bool
high n s p = ltb s (p.size * n)

-- a stretch is of peaks that are all high or all not
abbrev pub alike : ℕ → ℕ → Peak → Peak → Bool
alike n s p q = same (high n s p) (high n s q)

-- of n peaks with the sum s, the largest of each high stretch that has a peak which is not high on both sides: the
-- first and the last stretch have not
abbrev pub standing : ℕ → ℕ → List Peak → List Peak
standing n s l = those (high n s) (inner (tops (alike n s) l))

-- among all peaks, whose own number and sum say which are high
abbrev pub kept : List Peak → List Peak
kept l = standing (length l) (sum l) l

-- the gap from p to the next, q, is not more than τ
abbrev pub close : ℕ → Peak → Peak → Bool
close τ p q = leb q.time (p.time + τ)

-- what is handed out: the largest of each chain. The timed samples are those numbered R and above
abbrev pub handed : ℕ → ℕ → ℕ → List ℤ → List Peak
handed D R τ xs = tops (close τ) (kept (peaks D (drop R xs)))

-- k peaks do not fit one of two slices of so many places
abbrev pub short : ℕ → ℕ → ℕ → Bool
short sizes times k = ltb sizes k || ltb times k
