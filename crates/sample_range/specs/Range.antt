-- Document 01, "Numbers a job may carry": a sample, and what refusal 2 names. Assumes nothing.
use Rattle.std.specs.Prelude.{ℕ, suc, Bool, cond, List, [], ◌∷◌, leb, ℤ, nat_abs}

-- the greatest magnitude of a sample
abbrev pub sample_limit : ℕ
sample_limit = 1000000

-- a sample is from -1,000,000 to 1,000,000
abbrev pub sample_in_range : ℤ → Bool
sample_in_range x = leb (nat_abs x) sample_limit

-- the place of the first sample outside its range; the length where there is none
unfoldable pub first_bad : List ℤ → ℕ
first_bad [] = 0
first_bad (x ∷ xs) = cond (sample_in_range x) (suc (first_bad xs)) 0
