-- What the tests of `fit` come to, in the request's order, and the slice between copying and sorting. Assumes nothing.
use mathlib.Core.Path.{◌≡◌, refl}
use mathlib.Core.Bool.{true, false, ◌||◌}
use mathlib.Core.List.{List, ◌++◌}
use Prim.Native.Nat.{ℕ, ◌≤◌, ◌<◌}
use borrow.Author.Tests.{le-ltb, lt-ltb, ltb-false}
use lib.Dec.{ltb}
use lib.ListN.{drop, length, take}
use lib.Seq.{drop-append_seam, take-append_seam}
use Rattle.truth.proofs.Laws.{neither}
use Rattle.refusal.specs.declared.Refusal.TheVariants.{Tail, Peak, Room}
use Rattle.peak_tail.specs.Fitting.{FitsTo, Summed, first_bad, fitted, longest_list, tail_outside}
use Rattle.std.specs.Prelude.{Ok, Err}

module _ (peaks : List ℕ) (k : ℕ) (before : List ℕ) where
  pub refuses_tail : tail_outside (length peaks) k ≡ true → FitsTo peaks k before (Err Tail) before
  unfolding fitted
  refuses_tail t = record { sum = 0; answers = rw t; leaves = refl }

  module _ (t : tail_outside (length peaks) k ≡ false) where
    pub refuses_peak : first_bad peaks < length peaks → FitsTo peaks k before (Err (Peak (first_bad peaks))) before
    unfolding fitted
    refuses_peak h = record { sum = 0; answers = rw (t, lt-ltb _ _ h); leaves = refl }

    module _ (good : length peaks ≤ first_bad peaks) where
      pub refuses_room : length before < length peaks → FitsTo peaks k before (Err (Room (length peaks))) before
      unfolding fitted
      refuses_room h = record { sum = 0; answers = rw (t, le-ltb _ _ good, lt-ltb _ _ h); leaves = refl }

      pub sums_up : length peaks ≤ length before → {s : ℕ} {after : List ℕ} → Summed peaks k before s after → FitsTo peaks k before (Ok s) after
      unfolding fitted
      sums_up h {s} x = record { sum = s; answers = rw (t, le-ltb _ _ good, le-ltb _ _ h); leaves = x }

-- what is left once 16 is passed
pub inside : (n k : ℕ) → tail_outside n k ≡ false → (n ≤ longest_list) × (2 ≤ k) × (k ≤ n)
inside n k e =
    let (long, rest) = neither (ltb longest_list n) (ltb k 2 || ltb n k) e in
    let (low, high) = neither (ltb k 2) (ltb n k) rest in
    (ltb-false _ _ long, ltb-false _ _ low, ltb-false _ _ high)

-- the copy before it is sorted: the peaks, and the rest as it stood
module _ (peaks before copied : List ℕ) (e : copied ≡ peaks ++ drop (length peaks) before) where
  pub copied_start : take (length peaks) copied ≡ peaks
  copied_start = rw e (take-append_seam peaks _)

  pub copied_rest : drop (length peaks) copied ≡ drop (length peaks) before
  copied_rest = rw e (drop-append_seam peaks _)
