-- Arrays and sums: what was written into an array is read back from it, and an array of another length holds no sound
-- sum. Assumes nothing.
use Prim.Native.Nat.{ℕ}
use mathlib.Core.Path.{◌≡◌, refl}
use mathlib.Core.Bool.{false}
use mathlib.Core.List.{List}
use borrow.Author.Tests.{eq-eqb}
use lib.Dec.{eqb}
use lib.ListN.{length}
use Rattle.binomial_sum.specs.State.{sound}
use Rattle.binomial_sum.specs.declared.Sum.{Sum}
use Rattle.capi_binomial.specs.Told.{of_sum, sum_kept, sum_numbers, sum_of, sum_told}
use Rattle.refusal.specs.declared.Refusal.{Refusal}
use Rattle.std.specs.Prelude.{Result, Ok}

pub other_sum : (s : List ℕ) → eqb (length s) sum_numbers ≡ false → sound (sum_of s) ≡ false
unfolding sum_of sound
other_sum s e = rw e

pub sum_back : (s : Sum) → sum_of (of_sum s) ≡ s
unfolding sum_of
sum_back s = refl

-- so what an entry leaves in an array is the sum that it answers
pub sum_left : (a : Result Sum Refusal) (s : List ℕ) (t : Sum) → length s ≡ sum_numbers → a ≡ Ok t → sum_of (sum_kept a s).lent ≡ t
unfolding sum_kept sum_told
sum_left a s t l e = rw (eq-eqb (length s) sum_numbers l, e) (sum_back t)
