-- What fitting answers and what it leaves in the slice are settled: there is one way to sort, and one figure of a
-- ratio. Assumes nothing.
use mathlib.Core.Path.{◌≡◌, refl, ap, sym, ◌∙◌}
use mathlib.Core.Bool.{Bool, true, false, cond}
use mathlib.Core.List.{List}
use Prim.Native.Nat.{ℕ}
use lib.Dec.{ltb}
use lib.ListN.{length}
use Rattle.truth.proofs.Laws.{impossible}
use Rattle.refusal.specs.declared.Refusal.{Refusal}
use Rattle.logarithm.proofs.Unique.{near_unique}
use Rattle.sorting.proofs.Unique.{sort_unique}
use Rattle.peak_tail.specs.Hill.{NearSum, plus, start}
use Rattle.peak_tail.specs.Fitting.{FitsTo, first_bad, fitted, hill_within, tail_outside}
use Rattle.std.specs.Prelude.{Result, Ok, Err}

pub sum_unique : {ys : List ℕ} {y n s t : ℕ} → NearSum ys y n s → NearSum ys y n t → s ≡ t
sum_unique start start = refl
sum_unique (plus a f) (plus b g) = let e = sum_unique a b in let d = near_unique f g in cc

-- the functions over plain lists equate their answers with a definition
pub tail_outside_unique : (n k : ℕ) (a b : Bool) → a ≡ tail_outside n k → b ≡ tail_outside n k → a ≡ b
tail_outside_unique n k a b p q = p ∙ sym q

pub hill_sum_unique : (ys : List ℕ) (k r s : ℕ) → r ≡ hill_within ys k → s ≡ hill_within ys k → r ≡ s
hill_sum_unique ys k r s p q = p ∙ sym q

-- whether fitting refuses, and how, does not hang on the sum
refusal_settled : (a b c : Bool) (f g h r : Refusal) (s t : ℕ)
    → cond a (Err f) (cond b (Err g) (cond c (Err h) (Ok s))) ≡ Err r
    → cond a (Err f) (cond b (Err g) (cond c (Err h) (Ok t))) ≡ Err r
refusal_settled true b c f g h r s t e = e
refusal_settled false true c f g h r s t e = e
refusal_settled false false true f g h r s t e = e
refusal_settled false false false f g h r s t e = impossible (cc)

module _ (peaks : List ℕ) (k : ℕ) (before : List ℕ) where
  settled : (r : Refusal) (s t : ℕ) → fitted peaks k (length before) s ≡ Err r → fitted peaks k (length before) t ≡ Err r
  unfolding fitted
  settled r s t e = refusal_settled (tail_outside (length peaks) k) (ltb (first_bad peaks) (length peaks)) (ltb (length before) (length peaks)) _ _ _ r s t e

  pub fit_unique : (x y : Result ℕ Refusal) (s t : List ℕ) → FitsTo peaks k before x s → FitsTo peaks k before y t → (x ≡ y) × (s ≡ t)
  fit_unique (Err f) (Err g) s t p q =
      let e : f ≡ g = cc (q.answers, settled f p.sum q.sum (sym p.answers)) in
      (ap Err e, p.leaves ∙ sym q.leaves)
  fit_unique (Err f) (Ok n) s t p q =
      impossible (cc (q.answers, settled f p.sum q.sum (sym p.answers)))
  fit_unique (Ok m) (Err g) s t p q =
      impossible (cc (p.answers, settled g q.sum p.sum (sym q.answers)))
  fit_unique (Ok m) (Ok n) s t p q =
      let x = p.leaves in
      let y = q.leaves in
      let e : x.ys ≡ y.ys = sort_unique peaks x.ys y.ys x.sorted y.sorted in
      (ap Ok (sum_unique (rw e at x.sums) y.sums), x.leaves ∙ rw e (sym y.leaves))
