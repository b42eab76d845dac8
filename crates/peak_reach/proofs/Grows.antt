-- How our three times move: they grow with the level's logarithm and with the time, and fall as the Hill sum grows; of
-- a time that is none, 0, nothing shorter is said. The half-width of the count grows with the samples, so that the
-- longest accepted standard grows with them where it is the same. Assumes nothing.
use mathlib.Core.Path.{◌≡◌, refl, sym, ◌∙◌}
use mathlib.Core.Bool.{Bool, true, false, ◌||◌}
use mathlib.Core.List.{List}
use Prim.Native.Nat.{ℕ, zero, suc, ◌+◌, ◌-◌, ◌*◌, ◌≤◌, ◌<◌, zero-le}
use native.Mathlib.Nat.{le_of_mul-le-mul_right, le_refl, le_trans, mul-le-mul, mul-le-mul_left, mul-le-mul_right}
use native.Mathlib.Nat.{mul-pos}
use native.Mathlib.Omega.{arith}
use borrow.Author.Tests.{eq-eqb, eqb-true, leb-false, lt-leb}
use lib.Dec.{eqb, leb}
use lib.ListN.{get_or}
use Rattle.truth.proofs.Cases.{by_test}
use Rattle.truth.proofs.Laws.{true≢false}
use Rattle.poisson.specs.Rows.{million}
use Rattle.logarithm.specs.Ours.{our_figure}
use Rattle.logarithm.proofs.Monotone.{figure_grows}
use Rattle.exponential.specs.Exponential.{past, units}
use Rattle.exponential.specs.Ours.{down_times, up_times}
use Rattle.exponential.proofs.Order.{our_down_grows, our_up_grows}
use Rattle.root.proofs.HalfWidth.{half_width_lem}
use Rattle.peak_tail.specs.Hill.{figures}
use Rattle.peak_reach.specs.Figures.{count_width, exponent_down, exponent_up, full_level, longest_by, longest_within}
use Rattle.peak_reach.specs.Figures.{no_lower_end, rejected_by, shortest_above}
use Rattle.peak_reach.proofs.Standards.{after_grows, divided_falls, divided_grows, divided_up_falls}
use Rattle.peak_reach.proofs.Standards.{divided_up_grows}
use Rattle.peak_reach.proofs.Standards.{within_falls, within_grows}

-- ---- the longest
module _ (kg kg' H H' w n r r' less : ℕ) (level : kg ≤ kg') (sum : H' ≤ H) (some : 1 ≤ H') (time : r ≤ r') (counts : 1 ≤ n)
    (small : exponent_down kg' H' w < past) where
  exponent_grows : exponent_down kg H w ≤ exponent_down kg' H' w
  exponent_grows =
      let l : 1 ≤ million + w = omega arith in
      let d : 1 ≤ H' * (million + w) = mul-pos some l in
      le_trans
      (divided_falls (units * (million * kg)) (H' * (million + w)) (H * (million + w)) d (mul-le-mul_right (million + w) sum))
      (divided_grows (units * (million * kg)) (units * (million * kg')) (H' * (million + w)) d
      (mul-le-mul_left units (mul-le-mul_left million level)))

  pub longest_grows : longest_by kg H w n r less ≤ longest_by kg' H' w n r' less
  unfolding longest_by
  longest_grows =
      within_grows (r * down_times (exponent_down kg H w) - less) (r' * down_times (exponent_down kg' H' w) - less) n counts
      (omega (
        arith,
        mul-le-mul time (our_down_grows (exponent_down kg H w) (exponent_down kg' H' w) exponent_grows small),
      ))

-- ---- the shortest, 0 for none
module _ (kg kg' S S' w n n' r r' : ℕ) (level : kg ≤ kg') (sum : S' ≤ S) (some : 1 ≤ S') (shape : w < million) (time : r ≤ r')
    (counts : n' ≤ n) (few : 1 ≤ n') where
  up_grows : exponent_up kg S w ≤ exponent_up kg' S' w
  up_grows =
      let l : 1 ≤ million - w = omega arith in
      let d : 1 ≤ S' * (million - w) = mul-pos some l in
      le_trans
      (divided_up_falls (units * (million * kg)) (S' * (million - w)) (S * (million - w)) d (mul-le-mul_right (million - w) sum))
      (divided_up_grows (units * (million * kg)) (units * (million * kg')) (S' * (million - w)) d
      (mul-le-mul_left units (mul-le-mul_left million level)))

  products_grow : exponent_up kg' S' w < past
      → longest_within (r * up_times (exponent_up kg S w)) n ≤ longest_within (r' * up_times (exponent_up kg' S' w)) n'
  products_grow small =
      le_trans
      (within_falls (r * up_times (exponent_up kg S w)) n' n few counts)
      (within_grows (r * up_times (exponent_up kg S w)) (r' * up_times (exponent_up kg' S' w)) n' few
      (mul-le-mul time (our_up_grows (exponent_up kg S w) (exponent_up kg' S' w) up_grows small)))

  pub shortest_grows : 1 ≤ shortest_above kg' S' w n' r'
      → (1 ≤ shortest_above kg S w n r) × (shortest_above kg S w n r ≤ shortest_above kg' S' w n' r')
  unfolding shortest_above
  shortest_grows =
      by_test (leb past (exponent_up kg' S' w))
      (λ b. rw b (λ l. absurd (omega arith)))
      (λ b.
      let small = leb-false past (exponent_up kg' S' w) b in
      rw (b, lt-leb past (exponent_up kg S w) (le_trans (omega (arith, up_grows)) small))
      (after_grows (longest_within (r * up_times (exponent_up kg S w)) n) (longest_within (r' * up_times (exponent_up kg' S' w)) n') (products_grow small)))

module _ (k G G' S S' h h' w r r' : ℕ) (level : G ≤ G') (sum : S' ≤ S) (some : 1 ≤ S') (time : r ≤ r') (width : h ≤ h') where
  ends : no_lower_end k h' w ≡ false → (w < million) × (h' < 1000 * k)
  ends e = go (leb million w) (leb (1000 * k) h') refl refl e
    where
      go : (a b : Bool) → leb million w ≡ a → leb (1000 * k) h' ≡ b → (a || b) ≡ false → (w < million) × (h' < 1000 * k)
      go true b x y z = absurd (true≢false z)
      go false true x y z = absurd (true≢false z)
      go false false x y z = (leb-false million w x, leb-false (1000 * k) h' y)

  pub rejected_grows : 1 ≤ rejected_by k G' S' h' w r'
      → (1 ≤ rejected_by k G S h w r) × (rejected_by k G S h w r ≤ rejected_by k G' S' h' w r')
  unfolding rejected_by
  rejected_grows =
      by_test (no_lower_end k h' w)
      (λ b. rw b (λ l. absurd (omega arith)))
      (λ b.
      let (shape, count) = ends b in
      rw (b, lt-leb million w shape, lt-leb (1000 * k) h (le_trans (omega arith) count))
      (shortest_grows (k * G) (k * G') S S' w (1000 * k - h) (1000 * k - h') r r' (mul-le-mul_left k level) sum some shape time
      (omega arith) (omega arith)))

-- ---- what they are found from
pub level_grows : (u c c' : ℕ) → 1 ≤ u → c ≤ c' → c' ≤ 1000000 → our_figure c u ≤ our_figure c' u
level_grows u c c' some l most = figure_grows c u c' u some some (omega arith) (omega arith) (mul-le-mul_right u l)

pub full_level_grows : (u c c' : ℕ) → 1 ≤ u → u ≤ c → c ≤ c' → c' ≤ 1000000 → full_level u c ≤ full_level u c'
full_level_grows u c c' some above l most =
    by_test (eqb c u)
    (λ a. rw a zero-le)
    (λ a.
    by_test (eqb c' u)
    (λ b. let e : c ≡ u = omega (arith, eqb-true c' u b) in absurd (true≢false (sym (eq-eqb c u e) ∙ a)))
    (λ b. rw (a, b) (omega (arith, level_grows u c c' some l most))))

-- higher values have greater figures
pub figures_grow : (ys zs : List ℕ) (y n : ℕ) → 1 ≤ y → ((i : ℕ) → i < n → (get_or ys i 0 ≤ get_or zs i 0) × (get_or zs i 0 ≤ 1000000))
    → figures ys y n ≤ figures zs y n
unfolding figures
figures_grow ys zs y zero some all = le_refl 0
figures_grow ys zs y (suc n) some all =
    let (l, m) = all n (le_refl _) in
    omega (
      arith,
      figures_grow ys zs y n some (λ i h. all i (omega arith)),
      figure_grows (get_or ys n 0) y (get_or zs n 0) y some some (omega arith) (omega arith) (mul-le-mul_right y l),
    )

-- the half-width grows with the samples: (P - k) / P does
pub width_grows : (k P Q : ℕ) → 1 ≤ k → k ≤ P → P ≤ Q → count_width k P ≤ count_width k Q
width_grows k P Q one some l =
    let h = count_width k Q in
    let f = 2236 * 2236 * k in
    let pos : 1 ≤ Q = omega arith in
    let share : (P - k) * Q ≤ (Q - k) * P = shares (P - k) (Q - k) (omega arith) (omega arith) in
    (half_width_lem 2236 k P).least h
    (le_of_mul-le-mul_right {k = Q}
    (omega (arith, mul-le-mul_left f share, mul-le-mul_right P (half_width_lem 2236 k Q).enough))
    pos)
  where
    shares : (a b : ℕ) → P ≡ a + k → Q ≡ b + k → a * Q ≤ b * P
    shares a b e d = rw (e, d) (let m : a ≤ b = omega arith in omega (arith, mul-le-mul_right k m))
