-- The first bad peak of a list, as the search goes on; and that where no peak is bad none is 0, sorted or not. Assumes
-- nothing.
use mathlib.Core.Path.{◌≡◌, refl}
use mathlib.Core.Bool.{Bool, true, false, cond}
use mathlib.Core.List.{List, [], ◌∷◌}
use Prim.Native.Nat.{ℕ, zero, suc, ◌+◌, ◌≤◌, ◌<◌}
use native.Mathlib.Numerals.{add-one}
use native.Mathlib.Omega.{arith}
use borrow.Author.Tests.{ne_eqb}
use lib.ListN.{drop, get_or, length}
use lib.Seq.{drop-cons}
use Rattle.sorting.specs.Sorting.{count}
use Rattle.std.specs.List.{prefix_len}
use Rattle.peak_tail.specs.Fitting.{first_bad, peak_in_range}

-- the first bad place is the number of the peaks before it
pub counted : (ys : List ℕ) → first_bad ys ≡ prefix_len peak_in_range ys
unfolding first_bad
counted [] = refl
counted (y ∷ ys) = rw (counted ys) (go (peak_in_range y))
  where
    go : (b : Bool) → cond b (suc (prefix_len peak_in_range ys)) 0 ≡ cond b (1 + prefix_len peak_in_range ys) 0
    go true = omega arith
    go false = refl

-- where no peak is bad, none is 0
pub none_zero : (p : List ℕ) → length p ≤ first_bad p → count 0 p ≡ 0
unfolding first_bad count
none_zero [] h = refl
none_zero (zero ∷ p) h = absurd (omega arith)
none_zero (suc y ∷ p) h = rw (ne_eqb 0 (suc y) (λ e. omega arith)) (omega (arith, none_zero p (go (peak_in_range (suc y)) h)))
  where
    go : (b : Bool) → suc (length p) ≤ cond b (suc (first_bad p)) 0 → length p ≤ first_bad p
    go true l = omega arith
    go false l = absurd (omega arith)

-- a list without a 0 has none at a place
pub some_at : (ys : List ℕ) → count 0 ys ≡ 0 → (i : ℕ) → i < length ys → 1 ≤ get_or ys i 0
unfolding count
some_at [] e i h = absurd (omega arith)
some_at (zero ∷ ys) e i h = absurd (omega arith)
some_at (suc y ∷ ys) e zero h = omega arith
some_at (suc y ∷ ys) e (suc i) h = some_at ys (omega arith) i (omega arith)
