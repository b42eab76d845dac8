-- The sum after i turns is that of i figures, and a sum of near ones where the values lie downwards over a Y(k) that is
-- not 0. The last figure, of Y(k) / Y(k), is 0 exactly and is not computed. Assumes nothing.
use mathlib.Core.Path.{◌≡◌, refl, sym}
use mathlib.Core.List.{List}
use Prim.Native.Nat.{ℕ, zero, suc, ◌+◌, ◌-◌, ◌*◌, ◌^◌, ◌≤◌, ◌<◌, zero-le}
use native.Mathlib.Nat.{add-zero, le_refl}
use native.Mathlib.Numerals.{add-one}
use native.Mathlib.Omega.{arith}
use lib.ListN.{get_or, length}
use Rattle.logarithm.specs.Logarithm.{Logarithm, units}
use Rattle.logarithm.specs.Ours.{our_figure}
use Rattle.logarithm.proofs.Figure.{equal_near}
use Rattle.logarithm.proofs.Whole.{is_ours, none_within, our_logarithm}
use Rattle.sorting.specs.Sorting.{Downwards}
use Rattle.peak_tail.specs.Hill.{NearSum, figures, kth, plus, start}
use Rattle.peak_tail.specs.Steps.{SumOfFirst}

pub record Part (ys : List ℕ) (k i r : ℕ) : Type 0 where
  pub sums : Downwards ys → 1 ≤ kth ys k → NearSum ys (kth ys k) i r
  pub is : r ≡ figures ys (kth ys k) i
  pub bound : r ≤ i * (32 * units)
  pub among : i ≤ k - 1

pub starts : (ys : List ℕ) (k : ℕ) → Part ys k 0 0
unfolding figures
starts ys k = record { sums = λ _ _. start; is = refl; bound = zero-le; among = zero-le }

one_more : (ys : List ℕ) (y i r m : ℕ) → r ≡ figures ys y i → m ≡ our_figure (get_or ys i 0) y → r + m ≡ figures ys y (suc i)
unfolding figures
one_more ys y i r m e d = rw (e, d)

module _ (ys : List ℕ) (k i r : ℕ) (s : Part ys k i r) (fits : k ≤ length ys) where
  pub goes_on : (m : ℕ) → i < k - 1 → Logarithm (get_or ys i 0) (kth ys k) m → Part ys k (i + 1) (r + m)
  goes_on m h l =
      record {
        sums = λ down some. rw add-one (plus (s.sums down some) (l.near some (down i (k - 1) h (omega arith))));
        is = rw add-one (one_more ys (kth ys k) i r m s.is (is_ours _ _ m l));
        bound = omega (arith, s.bound, l.bound);
        among = omega arith;
      }

  pub ends : 1 ≤ k → k - 1 ≤ i → SumOfFirst ys k r
  ends h e =
      let last : i ≡ k - 1 = omega (arith, s.among) in
      let whole : suc (k - 1) ≡ k = omega arith in
      record {
        figures = rw (whole, add-zero) at (one_more ys (kth ys k) (k - 1) r 0 (rw last at s.is) (sym (none_within (kth ys k) (kth ys k) (le_refl _))));
        sums = λ down some.
            rw (whole, add-zero) at (plus (rw last at (s.sums down some)) (equal_near (kth ys k) (kth ys k) some refl));
      }

-- the figures as the definition has them are near, for values of 32 bits that are no less than y
pub near_sum : (ys : List ℕ) (y n : ℕ) → 1 ≤ y → ((i : ℕ) → i < n → (y ≤ get_or ys i 0) × (get_or ys i 0 < 2 ^ 32)) → NearSum ys y n (figures ys y n)
unfolding figures
near_sum ys y zero some all = start
near_sum ys y (suc n) some all =
    let (high, fits) = all n (le_refl _) in
    plus (near_sum ys y n some (λ i h. all i (omega arith))) ((our_logarithm (get_or ys n 0) y fits).near some high)

-- a sum of near figures is that of our figures
pub sum_of_figures : {ys : List ℕ} {y n s : ℕ} → NearSum ys y n s → s ≡ figures ys y n
unfolding figures
sum_of_figures start = refl
sum_of_figures (plus a f) = let e = sum_of_figures a in let d = f.ours in cc

-- each is below 32 whole units of the logarithm
pub figures_most : (ys : List ℕ) (y n : ℕ) → ((i : ℕ) → i < n → get_or ys i 0 < 2 ^ 32) → figures ys y n ≤ n * (32 * units)
unfolding figures
figures_most ys y zero all = zero-le
figures_most ys y (suc n) all =
    omega (arith, figures_most ys y n (λ i h. all i (omega arith)), (our_logarithm (get_or ys n 0) y (all n (le_refl _))).bound)
