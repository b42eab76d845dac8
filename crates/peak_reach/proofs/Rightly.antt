-- The three times of our figures are right by the definitions that have none: each letter that they show is one by
-- those, each that those show with the spare is found, and they are in order. Assumes nothing.
use mathlib.Core.Path.{◌≡◌, refl}
use mathlib.Core.Logic.{◌⊎◌, inl, inr, ⊎_elim}
use mathlib.Core.List.{List}
use Prim.Native.Nat.{ℕ, ◌+◌, ◌-◌, ◌*◌, ◌^◌, ◌≤◌, ◌<◌}
use native.Mathlib.Nat.{div-lt_iff_lt-mul, le_of_mul-le-mul_right, le_refl, lt_of_mul-lt-mul_right, mul-le-mul_left}
use native.Mathlib.Nat.{mul-le-mul_right, mul-pos}
use native.Mathlib.Omega.{arith}
use borrow.Author.Tests.{eq-eqb, eqb-true, leb-false, leb-true, ltb-false, ltb-true}
use lib.Dec.{eqb, leb, lit<, ltb}
use lib.Pow.{pow_pos}
use Rattle.truth.proofs.Cases.{by_order, by_test}
use Rattle.poisson.specs.Rows.{million}
use Rattle.logarithm.specs.Logarithm as logarithm
use Rattle.logarithm.specs.Ours.{our_figure}
use Rattle.logarithm.proofs.Whole.{our_logarithm}
use Rattle.exponential.specs.Exponential.{one, past, units}
use Rattle.exponential.specs.Ours.{down_times, our_down, up_times}
use Rattle.exponential.proofs.Figures.{down_is, up_is}
use Rattle.exponential.proofs.Order.{our_down_below_up, our_down_grows}
use Rattle.root.proofs.First.{least_root_lem}
use Rattle.root.proofs.HalfWidth.{width_most}
use Rattle.peak_tail.specs.Hill.{HillSum, kth}
use Rattle.peak_reach.specs.Answers.{RightBy}
use Rattle.peak_reach.specs.Figures.{count_width, exponent_down, exponent_up, full_level, full_sum, longest_by}
use Rattle.peak_reach.specs.Figures.{longest_standard}
use Rattle.peak_reach.specs.Figures.{longest_within, rejected_by, shape_width, shortest_above, times_by}
use Rattle.peak_reach.specs.Reach.{AcceptedWell, RejectedWell}
use Rattle.peak_reach.specs.Steps.{Ready}
use Rattle.peak_reach.proofs.Hill.{level_high, level_low}
use Rattle.peak_reach.proofs.Letters.{accept_only_if, estimate_only_if, reject_only_if}
use Rattle.peak_reach.proofs.Rejecting.{count_below, not_far, reject_whenever}
use Rattle.peak_reach.proofs.Standards.{After, Most, after_none, after_some, divided_falls, down_high, down_low}
use Rattle.peak_reach.proofs.Standards.{most_within, up_high, up_low}
use Rattle.peak_reach.proofs.Whenever.{accept_whenever}

-- ---- the half-widths are small
pub count_most : (k P : ℕ) → k ≤ 4096 → count_width k P ≤ 223600
count_most k P few = width_most 2236 k P (omega arith)

pub shape_most : (k : ℕ) → 1 ≤ k → shape_width k ≤ 2236000
shape_most k some = (least_root_lem (2236000 * 2236000) k some).least 2236000 (omega arith)

-- ---- the level's logarithm, with all that it may lack
module _ (u c g : ℕ) (log : logarithm.Logarithm c u g) (some_peak : 1 ≤ u) (above : u ≤ c) (is : g ≡ our_figure c u) where
  pub level_near : full_level u c ≤ g + 2
  level_near = rw is (by_test (eqb c u) (λ t. rw t (omega arith)) (λ t. rw t (le_refl _)))

  pub level_least : g ≤ full_level u c
  level_least =
      by_test (eqb c u)
      (λ t. rw t (omega (arith, (log.near some_peak above).equal (eqb-true c u t))))
      (λ t. rw (t, is) (omega arith))

  pub level_wide : c ^ logarithm.units ≤ 2 ^ full_level u c * u ^ logarithm.units
  level_wide =
      by_test (eqb c u)
      (λ t. rw (t, eqb-true c u t) (omega arith))
      (λ t. rw (t, ← is) (level_high c u g log some_peak above))

pub level_none : (u c : ℕ) → c ≡ u → full_level u c ≡ 0
level_none u c e = rw (eq-eqb c u e)

-- ---- the shortest standard: what it is, and what it says that there is none
pub record Refuted (k G sum h w r q : ℕ) : Type 0 where
  pub shape : w < million
  pub count : h < 1000 * k
  pub small : exponent_up (k * G) sum w < past
  pub after : After (r * up_times (exponent_up (k * G) sum w)) (1000 * k - h) q

some-none : (q : ℕ) → 1 ≤ q → q ≡ 0 → ⊥
some-none q l e = omega arith

module _ (k G sum h w r : ℕ) where
  abbrev X⁻ : ℕ
  X⁻ = exponent_up (k * G) sum w

  -- past 64, or every standard is too short
  abbrev pub NoneFound : Type 0
  NoneFound = (past ≤ X⁻) ⊎ ((p : ℕ) → p ≤ longest_standard → r * up_times X⁻ < p * (1000 * k - h) * one → ⊥)

  refuted_at : w < million → h < 1000 * k
      → (1 ≤ shortest_above (k * G) sum w (1000 * k - h) r → Refuted k G sum h w r (shortest_above (k * G) sum w (1000 * k - h) r))
      × (shortest_above (k * G) sum w (1000 * k - h) r ≡ 0 → NoneFound)
  unfolding shortest_above
  refuted_at shape count =
      let n = 1000 * k - h in
      let v = r * up_times X⁻ in
      let some : 1 ≤ n = omega arith in
      by_test (leb past X⁻)
      (λ b. rw b (λ l. absurd (omega arith), λ _. inl (leb-true past X⁻ b)))
      (λ b.
      by_test (ltb (longest_within v n) longest_standard)
      (λ t.
      rw (b, t) (
        λ _. record { shape = shape; count = count; small = leb-false past X⁻ b; after = after_some v n some (ltb-true _ _ t) },
        λ z. absurd (omega arith),
      ))
      (λ t. rw (b, t) (λ l. absurd (omega arith), λ _. inr (after_none v n some (ltb-false _ _ t)))))

  pub refuted : (1 ≤ rejected_by k G sum h w r → Refuted k G sum h w r (rejected_by k G sum h w r))
      × (rejected_by k G sum h w r ≡ 0 → w < million → h < 1000 * k → NoneFound)
  unfolding rejected_by
  refuted =
      by_test (leb million w)
      (λ a. rw a (λ l. absurd (omega arith), λ _ shape count. absurd (omega (arith, leb-true million w a))))
      (λ a.
      by_test (leb (1000 * k) h)
      (λ b. rw (a, b) (λ l. absurd (omega arith), λ _ shape count. absurd (omega (arith, leb-true (1000 * k) h b))))
      (λ b.
      let (f, z) = refuted_at (leb-false million w a) (leb-false (1000 * k) h b) in
      rw (a, b) (f, λ e _ _. z e)))

-- ---- the three times of peaks whose Hill sum is ours
module _ (ys : List ℕ) (k c sum D P : ℕ) (hill : HillSum ys k sum) (a : Ready (kth ys k) c k sum D P) where
  abbrev u : ℕ
  u = kth ys k

  abbrev g : ℕ
  g = our_figure c u

  abbrev G : ℕ
  G = full_level u c

  abbrev h : ℕ
  h = count_width k P

  abbrev w : ℕ
  w = shape_width k

  abbrev r : ℕ
  r = 1000 * (P * D)

  abbrev H : ℕ
  H = full_sum k sum

  abbrev X : ℕ
  X = exponent_down (k * g) H w

  abbrev X₀ : ℕ
  X₀ = exponent_down (k * g) H 0

  log : logarithm.Logarithm c u g
  log = our_logarithm c u (omega (arith, a.level_most))

  some : 1 ≤ k
  some = omega (arith, a.two)

  some_sum : 1 ≤ H
  some_sum = omega (arith, a.spread)

  divisor : (v : ℕ) → 1 ≤ H * (million + v)
  divisor v = let l : 1 ≤ million + v = omega arith in mul-pos some_sum l

  level : 2 ^ g * u ^ logarithm.units ≤ c ^ logarithm.units
  level = level_low c u g log a.some_peak a.above

  -- the exponents are below 64
  small₀ : X₀ < past
  small₀ = (div-lt_iff_lt-mul (divisor 0)).1 (omega (arith, a.small))

  less : X ≤ X₀
  less =
      let l : million + 0 ≤ million + w = omega arith in
      divided_falls (units * (million * (k * g))) (H * (million + 0)) (H * (million + w)) (divisor 0) (mul-le-mul_left H l)

  small : X < past
  small = omega (arith, less, small₀)

  pub exponents_small : (X₀ < past) × (X < past)
  exponents_small = (small₀, small)

  some_time : 1 ≤ r
  some_time = let p : 1 ≤ P = omega (arith, a.two, a.samples_some) in omega (arith, mul-pos p a.step-some)

  time_enough : 1000 * k - h ≤ r
  time_enough = let l : P ≤ P * D = omega (arith, mul-le-mul_left P a.step-some) in omega (arith, a.samples_some)

  figure_some : (Y : ℕ) → Y < past → 1 ≤ down_times Y
  figure_some Y l =
      let f : 1 ≤ (our_down Y).mantissa = omega (arith, (down_is Y).full l) in
      mul-pos f (pow_pos (our_down Y).shift)

  some_product : 1 ≤ r * down_times X
  some_product = mul-pos some_time (figure_some X small)

  -- the longest that is reached, and the longest below
  abbrev E : ℕ
  E = longest_by (k * g) H 0 (1000 * k) r 0

  abbrev A : ℕ
  A = longest_by (k * g) H w (1000 * k + h) r 1

  abbrev B : ℕ
  B = rejected_by k G sum h w r

  most_E : Most (r * down_times X₀ - 0) (1000 * k) E
  unfolding longest_by
  most_E = most_within (r * down_times X₀ - 0) (1000 * k) (omega (arith, some))

  most_A : Most (r * down_times X - 1) (1000 * k + h) A
  unfolding longest_by
  most_A = most_within (r * down_times X - 1) (1000 * k + h) (omega (arith, some))

  first : A ≤ E
  first =
      most_E.longest A most_A.bound
      (omega (arith, most_A.reached, mul-le-mul_left r (our_down_grows X X₀ less small₀)))

  below_up : X₀ * (H * million) ≤ units * (million * (k * g))
  below_up = omega (arith, down_low (units * (million * (k * g))) (H * (million + 0)) (divisor 0))

  module _ (f : Refuted k G sum h w r B) where
    lower : ℕ
    lower = sum * (million - w)

    some_lower : 1 ≤ sum * (million - w)
    some_lower = let l : 1 ≤ million - w = omega (arith, f.shape) in mul-pos a.spread l

    abbrev Y : ℕ
    Y = exponent_up (k * G) sum w

    up : units * (million * (k * G)) ≤ Y * (sum * (million - w))
    up = up_low (units * (million * (k * G))) (sum * (million - w)) some_lower

    not_above : X₀ ≤ Y
    not_above =
        let narrow : million - w ≤ million = omega arith in
        let fuller : sum ≤ H = omega arith in
        le_of_mul-le-mul_right {k = H * million}
        (omega (
          arith,
          below_up,
          up,
          mul-le-mul_left (units * million * k) (level_least u c g log a.some_peak a.above refl),
          mul-le-mul_left (Y * sum) narrow,
          mul-le-mul_left (Y * million) fuller,
        ))
        (mul-pos some_sum (lit< tt))

    last : E < B
    last =
        let fewer : 1000 * k - h ≤ 1000 * k = omega arith in
        lt_of_mul-lt-mul_right (1000 * k * one)
        (omega (
          arith,
          most_E.reached,
          f.after.long,
          mul-le-mul_left r (our_down_below_up X₀ Y not_above f.small),
          mul-le-mul_left (B * one) fewer,
        ))

  module _ (q : ℕ) (most : q ≤ longest_standard) (well : RejectedWell ys k c P D h w q) where
    near : G ≤ g + 2
    near = level_near u c g log a.some_peak a.above refl

    below_count : h < 1000 * k
    below_count =
        count_below ys k c P D sum g h w q G hill log a.two a.some_peak a.above a.spread near (level_none u c) well

    some_low : 1 ≤ sum * (million - w)
    some_low = let l : 1 ≤ million - w = omega (arith, well.some_shape) in mul-pos a.spread l

    found : r * up_times (exponent_up (k * G) sum w) < q * (1000 * k - h) * one
    found =
        reject_whenever ys k c P D sum g h w q G hill log a.two a.some_peak a.above a.spread near (level_none u c) well
        (exponent_up (k * G) sum w) _ _
        (up_high (units * (million * (k * G))) (sum * (million - w)) some_low)
        (up_is (exponent_up (k * G) sum w))

    far_off : past ≤ exponent_up (k * G) sum w → ⊥
    far_off l =
        not_far ys k c P D sum g h w q G hill log a.two a.some_peak a.above a.spread near (level_none u c) well
        most time_enough some_time
        (omega (
          arith,
          up_high (units * (million * (k * G))) (sum * (million - w)) some_low,
          mul-le-mul_right (sum * (million - w)) l,
        ))

    nearest : (1 ≤ B) × (B ≤ q)
    nearest =
        by_order 0 B
        (λ l. (l, ((refuted k G sum h w r).0 l).after.shortest q found))
        (λ l.
        absurd (⊎_elim far_off (λ none. none q most found)
        ((refuted k G sum h w r).1 (omega arith) well.some_shape below_count)))

  accepted_near : (q : ℕ) → q ≤ longest_standard → AcceptedWell ys k c P D h w q → q ≤ A
  accepted_near q most well =
      most_A.longest q most
      (omega (
        arith,
        some_product,
        accept_whenever ys k c P D sum g h w q hill log a.two a.some_peak a.above well X
            (down_high (units * (million * (k * g))) (H * (million + w)) (divisor w))
            _ _ small (down_is X),
      ))

  estimate_near : (q : ℕ) → q ≤ longest_standard → AcceptedWell ys k c P D 0 0 q → q ≤ E
  estimate_near q most well =
      most_E.longest q most
      (omega (
        arith,
        accept_whenever ys k c P D sum g 0 0 q hill log a.two a.some_peak a.above well X₀
            (down_high (units * (million * (k * g))) (H * (million + 0)) (divisor 0))
            _ _ small₀ (down_is X₀),
      ))

  pub right : RightBy ys k c P D h w (times_by u c k sum h w r)
  right =
      record {
        estimate =
            estimate_only_if ys k c P D sum 0 0 E X₀ hill some g level
            (down_low (units * (million * (k * g))) (H * (million + 0)) (divisor 0))
            (omega (arith, most_E.reached));
        estimate_near = estimate_near;
        accepted =
            accept_only_if ys k c P D sum h w A X hill some g level
            (down_low (units * (million * (k * g))) (H * (million + w)) (divisor w))
            (omega (arith, some_product, most_A.reached));
        accepted_near = accepted_near;
        rejected = λ l.
            let f = (refuted k G sum h w r).0 l in
            reject_only_if ys k c P D sum h w B (exponent_up (k * G) sum w) hill some G
            (level_wide u c g log a.some_peak a.above refl) f.shape f.small (up f) f.after.long;
        rejected_near = nearest;
        first = first;
        last = λ l. last ((refuted k G sum h w r).0 l);
      }
