-- How far our sum is from the exact one: never above, and below by at most 1 for each value that is not Y(k), so by
-- at most k - 1 over the first k, the last of which is Y(k). Assumes nothing.
use mathlib.Core.Path.{◌≡◌, ap}
use mathlib.Core.List.{List}
use Prim.Native.Nat.{ℕ, zero, suc, ◌+◌, ◌-◌, ◌≤◌, zero-le}
use native.Mathlib.Omega.{arith}
use lib.ListN.{get_or}
use Rattle.logarithm.specs.Logarithm.{ExactFigure, Near}
use Rattle.logarithm.proofs.Figure.{equal_exact}
use Rattle.logarithm.proofs.Unique.{exact_unique}
use Rattle.peak_tail.specs.Hill.{ExactSum, HillSum, NearSum, kth, more, none, plus, start}

-- our figures are of values that have an exact one
pub exact_sum : {ys : List ℕ} {y n s : ℕ} → NearSum ys y n s → (e : ℕ) × ExactSum ys y n e
exact_sum start = (0, none)
exact_sum (plus a f) = let (e, x) = exact_sum a in (e + f.exact, more x f.is_exact)

pub near_exact : {ys : List ℕ} {y n s e : ℕ} → NearSum ys y n s → ExactSum ys y n e → (s ≤ e) × (e ≤ s + n)
near_exact start none = (zero-le, zero-le)
near_exact (plus a f) (more b g) =
    let (low, high) = near_exact a b in
    let e = exact_unique f.is_exact g in
    (omega (arith, f.never_above), omega (arith, f.one_below))

-- nothing over 0 has an exact figure: every number would be reached
over_some : (y m : ℕ) → ExactFigure y y m → 1 ≤ y
over_some zero m x = absurd (omega (arith, x.greatest (suc m) (omega arith)))
over_some (suc y) m x = omega arith

-- a value that is y has no slack
equal_none : {a y r m : ℕ} → a ≡ y → Near a y r → ExactFigure a y m → r ≡ m
equal_none {y = y} {m = m} e f g =
    let h = rw e at g in
    let x = exact_unique h (equal_exact y (over_some y m h)) in
    omega (arith, f.equal e)

pub hill_slack : {ys : List ℕ} {k s e : ℕ} → HillSum ys k s → ExactSum ys (kth ys k) k e → (s ≤ e) × (e ≤ s + (k - 1))
hill_slack start none = (zero-le, zero-le)
hill_slack {ys = ys} (plus {n = n} a f) (more b g) =
    let last : n ≡ suc n - 1 = omega arith in
    let (low, high) = near_exact a b in
    let e = equal_none (ap (λ (i : ℕ). get_or ys i 0) last) f g in
    (omega arith, omega arith)
