-- Document 02 [12], "Fit the tail": what the entry answers, in the request's order of refusals, and what it leaves in
-- the second slice. Assumes nothing.
use Rattle.std.specs.Prelude.{◌≡◌, Bool, cond, ◌&&◌, ◌||◌, List, [], ◌∷◌, ◌++◌, ℕ, suc, leb, ltb, drop, length, Result, Ok, Err}
use Rattle.refusal.specs.declared.Refusal.TheVariants.{Tail, Peak, Room}
use Rattle.sorting.specs.Sorting.{Sorted}
use Rattle.peak_tail.specs.Hill.{HillSum, hill_sum}
use Rattle.refusal.specs.declared.Refusal.{Refusal}

-- the longest list of peaks
abbrev pub longest_list : ℕ
longest_list = 4096

-- 16: a list of n peaks is too long, or k is outside 2 to n
abbrev pub tail_outside : ℕ → ℕ → Bool
tail_outside n k = ltb longest_list n || (ltb k 2 || ltb n k)

-- a peak is from 1 to 1,000,000
abbrev pub peak_in_range : ℕ → Bool
peak_in_range y = leb 1 y && leb y 1000000

-- 17: the place of the first peak that is not; the length where there is none
unfoldable pub first_bad : List ℕ → ℕ
first_bad [] = 0
first_bad (y ∷ ys) = cond (peak_in_range y) (suc (first_bad ys)) 0

-- the answer, 16, 17, 7 or a sum, into a slice of so many places
unfoldable pub fitted : List ℕ → ℕ → ℕ → ℕ → Result ℕ Refusal
fitted peaks k places sum =
    cond (tail_outside (length peaks) k) (Err Tail)
    (cond (ltb (first_bad peaks) (length peaks)) (Err (Peak (first_bad peaks)))
    (cond (ltb places (length peaks)) (Err (Room (length peaks)))
    (Ok sum)))

-- what a sum comes with: the slice starts with the peaks sorted downwards and its rest stays, and the sum is theirs
pub record Summed (peaks : List ℕ) (k : ℕ) (before : List ℕ) (sum : ℕ) (after : List ℕ) : Type 0 where
  pub ys : List ℕ
  pub sorted : Sorted peaks ys
  pub leaves : after ≡ ys ++ drop (length peaks) before
  pub sums : HillSum ys k sum

-- the slice afterwards: on a refusal it is as it stood
abbrev pub Leaves : List ℕ → ℕ → List ℕ → Result ℕ Refusal → List ℕ → Type 0
Leaves peaks k before (Ok s) after = Summed peaks k before s after
Leaves peaks k before (Err f) after = after ≡ before

-- what fitting comes to: its answer, and the slice's whole later contents
pub record FitsTo (peaks : List ℕ) (k : ℕ) (before : List ℕ) (answer : Result ℕ Refusal) (after : List ℕ) : Type 0 where
  pub sum : ℕ
  pub answers : answer ≡ fitted peaks k (length before) sum
  pub leaves : Leaves peaks k before answer after

-- the Hill sum of any list and any k, 0 where 16 is due
unfoldable pub hill_within : List ℕ → ℕ → ℕ
hill_within ys k = cond (tail_outside (length ys) k) 0 (hill_sum ys k)
