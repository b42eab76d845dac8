-- Document 02 [12], what a customer who fits a tail may rely on: 16, 17, 7 are judged in this order and a refusal
-- leaves the second slice as it stood; where none is given, the slice starts with the peaks sorted downwards, each as
-- often as it was there, and the sum is that of a figure for each value over Y(k): never above the exact one and at
-- most 1 below, 0 for equal values. So it is at most k - 1 below the exact sum. All is settled, and a greater ratio
-- has no smaller figure. The proof only puts together what `logarithm` and `peak_tail` have. Assumes nothing.
use mathlib.Core.Path.{◌≡◌, refl}
use mathlib.Core.List.{List, [], ◌∷◌}
use Prim.Native.Nat.{ℕ, zero, suc, ◌+◌, ◌-◌, ◌*◌, ◌^◌, ◌≤◌, ◌<◌}
use native.Mathlib.Nat.{le_trans}
use native.Mathlib.Omega.{arith}
use lib.Dec.{lit≤, ltb}
use lib.ListN.{get_or, length}
use Rattle.truth.proofs.Laws.{impossible}
use Rattle.refusal.specs.declared.Refusal.{Refusal}
use Rattle.refusal.specs.declared.Refusal.TheVariants.{Peak, Room, Tail}
use Rattle.logarithm.specs.Logarithm.{ExactFigure, Logarithm, Near}
use Rattle.logarithm.specs.Ours.{doublings, our_figure, squarings}
use Rattle.logarithm.proofs.Monotone.{log2_grows}
use Rattle.logarithm.proofs.Unique.{exact_unique}
use Rattle.sorting.specs.Sorting.{Downwards}
use Rattle.sorting.proofs.Unique.{sort_unique}
use Rattle.peak_tail.specs.Fitting.{FitsTo, Summed, first_bad, fitted, tail_outside}
use Rattle.peak_tail.specs.Hill.{ExactSum, HillSum, figures, kth}
use Rattle.peak_tail.proofs.Slack.{exact_sum, hill_slack}
use Rattle.peak_tail.proofs.Summing.{sum_of_figures}
use Rattle.peak_tail.proofs.Unique.{fit_unique}
use Rattle.demands.proofs.Demand1.{Decides, Test, ◌gives◌, decide, decided}
use Rattle.std.specs.Prelude.{Result, Ok, Err}

abbrev pub tail_tests : List ℕ → ℕ → ℕ → List Test
tail_tests peaks k places =
    tail_outside (length peaks) k gives Tail
    ∷ (ltb (first_bad peaks) (length peaks) gives Peak (first_bad peaks)
    ∷ (ltb places (length peaks) gives Room (length peaks)
    ∷ []))

abbrev two_and_ones : List ℕ
two_and_ones = 2 ∷ (1 ∷ (1 ∷ (1 ∷ [])))

pub record TailFitted : Type 0 where
  pub order : (peaks : List ℕ) (k places sum : ℕ) → Decides Err (tail_tests peaks k places) (Ok sum) (fitted peaks k places sum)
  pub kept : (peaks : List ℕ) (k : ℕ) (before after : List ℕ) (r : Refusal) → FitsTo peaks k before (Err r) after → after ≡ before
  pub summed : (peaks : List ℕ) (k : ℕ) (before after : List ℕ) (s : ℕ) → FitsTo peaks k before (Ok s) after → Summed peaks k before s after
  -- a figure of a ratio of at least 1, in the request's words; and the sum of k of them, which has an exact one
  pub figure : (a b r m : ℕ) → Near a b r → ExactFigure a b m → (r ≤ m) × (m ≤ r + 1) × (a ≡ b → r ≡ 0)
  pub exact : (ys : List ℕ) (k s : ℕ) → HillSum ys k s → (e : ℕ) × ExactSum ys (kth ys k) k e
  pub slack : (ys : List ℕ) (k s e : ℕ) → HillSum ys k s → ExactSum ys (kth ys k) k e → (s ≤ e) × (e ≤ s + (k - 1))
  -- peaks 2, 1, 1, 1 with k = 4 have one logarithm that is not 0
  pub twice : (before after : List ℕ) (s : ℕ) → FitsTo two_and_ones 4 before (Ok s) after → s ≡ 65536
  -- a ratio that is no smaller has no smaller figure
  pub grows : (a b c d r q : ℕ) → Logarithm a b r → Logarithm c d q → a < 2 ^ 32 → c < 2 ^ 32 → 1 ≤ b → 1 ≤ d
      → a * d ≤ c * b → r ≤ q
  pub settled : (peaks : List ℕ) (k : ℕ) (before : List ℕ) (x y : Result ℕ Refusal) (s t : List ℕ)
      → FitsTo peaks k before x s → FitsTo peaks k before y t → (x ≡ y) × (s ≡ t)

-- ---- the proof
figure : (a b r m : ℕ) → Near a b r → ExactFigure a b m → (r ≤ m) × (m ≤ r + 1) × (a ≡ b → r ≡ 0)
figure a b r m n x =
    let e = exact_unique n.is_exact x in
    (omega (arith, n.never_above), omega (arith, n.one_below), n.equal)

low : (i : ℕ) → i < 4 → 1 ≤ get_or two_and_ones i 0
low zero h = lit≤ tt
low (suc zero) h = lit≤ tt
low (suc (suc zero)) h = lit≤ tt
low (suc (suc (suc zero))) h = lit≤ tt
low (suc (suc (suc (suc i)))) h = absurd (omega arith)

high : (j : ℕ) → j < 4 → 1 ≤ j → get_or two_and_ones j 0 ≤ 1
high zero h l = absurd (omega arith)
high (suc zero) h l = lit≤ tt
high (suc (suc zero)) h l = lit≤ tt
high (suc (suc (suc zero))) h l = lit≤ tt
high (suc (suc (suc (suc j)))) h l = absurd (omega arith)

down : Downwards two_and_ones
down i j l h = le_trans (high j h (omega arith)) (low i (omega arith))

twice : (before after : List ℕ) (s : ℕ) → FitsTo two_and_ones 4 before (Ok s) after → s ≡ 65536
unfolding figures our_figure doublings squarings
twice before after s f =
    let x = f.leaves in
    let e = sort_unique two_and_ones x.ys two_and_ones x.sorted (record { downwards = down; same = λ _. refl }) in
    sum_of_figures (rw e at x.sums)

pub tail_fitted : TailFitted
unfolding decide fitted
tail_fitted =
    record {
      order = λ peaks k places sum. decided Err (Ok sum) (λ r s e. cc) (λ r e. impossible (cc)) (tail_tests peaks k places) (fitted peaks k places sum) refl;
      kept = λ peaks k before after r p. p.leaves;
      summed = λ peaks k before after s p. p.leaves;
      figure = figure;
      exact = λ ys k s a. exact_sum a;
      slack = λ ys k s e a b. hill_slack a b;
      twice = twice;
      grows = log2_grows;
      settled = fit_unique;
    }
