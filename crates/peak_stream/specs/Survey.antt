-- The first pass: the number and the sum of the peaks, for samples handed over in pieces. Assumes nothing.
use Rattle.std.specs.Prelude.{ℕ, ◌+◌, ◌*◌, ◌≤◌, ◌≡◌, Bool, cond, not, ◌&&◌, length, ltb, leb, ℤ, nat_abs, Result, Ok, Err}
use mathlib.Core.List.{List, [], ◌∷◌, foldl}
use Rattle.refusal.specs.declared.Refusal.TheVariants.{Item, TooLong, BrokenState}
use Rattle.sample_items.specs.Limits.{step_in_range, most_in_range}
use Rattle.peak_groups.specs.Runs.{peaks}
use Rattle.peak_groups.specs.Peaks.{sum}
use Rattle.peak_stream.specs.declared.Surveying.{Surveying}
use Rattle.peak_stream.specs.Reading.{fresh, read, closes, readable}
use Rattle.refusal.specs.declared.Refusal.{Refusal}

-- no samples yet
abbrev pub none : ℕ → Surveying
none D = record { reading = fresh D; number = 0; sum = 0 }

-- or 1, for item 1
unfoldable pub started : ℕ → Result Surveying Refusal
started D = cond (not (step_in_range D)) (Err (Item 1)) (Ok (none D))

-- one sample more
unfoldable pub surveyed : Surveying → ℤ → Surveying
surveyed s x =
    let r = s.reading in
    let next = read r x in
    record { reading = next; number = s.number + cond (closes r next) 1 0; sum = s.sum + cond (closes r next) r.best.size 0 }

-- the relations of refusal 8
abbrev pub sound : Surveying → Bool
sound s = readable s.reading && (leb s.number s.reading.n && leb s.sum (s.reading.n * 4294967295))

-- so many samples more are more than a record may have
abbrev pub too_many : Surveying → ℕ → Bool
too_many s k = ltb (most_in_range s.reading.step 0) (s.reading.n + k)

-- 8, 3, or the state with a piece more
unfoldable pub taken : Surveying → List ℤ → Result Surveying Refusal
taken s xs =
    cond (not (sound s)) (Err BrokenState)
    (cond (too_many s (length xs)) (Err TooLong)
    (Ok (foldl surveyed s xs)))

-- piece after piece, until one is refused
unfoldable pub onwards : List (List ℤ) → Result Surveying Refusal → Result Surveying Refusal
onwards [] a = a
onwards (p ∷ ps) (Ok s) = onwards ps (taken s p)
onwards (p ∷ ps) (Err f) = Err f

-- the totals of the peaks of the samples xs
pub record Totalled (D : ℕ) (xs : List ℤ) (s : Surveying) : Type 0 where
  pub number : s.number ≡ length (peaks D xs)
  pub sum : s.sum ≡ Rattle.peak_groups.specs.Peaks.sum (peaks D xs)

-- samples of 32 bits: no magnitude is larger than a u32 can be
abbrev pub Small : List ℤ → Type 0
Small [] = Unit {0}
Small (x ∷ xs) = (nat_abs x ≤ 4294967295) × Small xs
