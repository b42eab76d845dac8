-- What the private steps find is what the definitions of our figures say. Assumes nothing.
use mathlib.Core.Path.{◌≡◌, ap, sym}
use mathlib.Core.Bool.{true, false, cond}
use Prim.Native.Nat.{ℕ, ◌+◌, ◌-◌, ◌*◌, ◌/◌, ◌^◌, ◌≤◌, ◌<◌}
use native.Mathlib.Nat.{le-div_iff_mul-le, le_of_mul-le-mul_right, mul-le-mul, mul-le-mul_left, mul-pos}
use native.Mathlib.Omega.{arith}
use borrow.Author.Tests.{le-leb, leb-false, lt-leb, lt-ltb}
use lib.Dec.{eqb, leb, lit≤}
use Rattle.truth.proofs.Cases.{by_test}
use Rattle.truth.proofs.Laws.{neither}
use Rattle.logarithm.specs.Ours.{our_figure}
use Rattle.logarithm.proofs.Whole.{our_logarithm}
use Rattle.exponential.specs.declared.Power.{Power}
use Rattle.exponential.specs.Exponential.{past, units}
use Rattle.exponential.specs.Ours.{our_down, our_up}
use Rattle.root.specs.HalfWidth.{width_within}
use Rattle.root.proofs.HalfWidth.{width_within_lem}
use Rattle.peak_reach.specs.declared.Times.{Times}
use Rattle.peak_reach.specs.Figures.{count_width, exponent_up, lesser, longest_by, longest_standard}
use Rattle.peak_reach.specs.Figures.{no_lower_end, rejected_by, shape_width, shortest_above, shortest_after, times_of}
use Rattle.peak_reach.specs.Steps.{Division, Given, Ready, Within}
use Rattle.peak_reach.proofs.Rightly.{count_most, shape_most}
use Rattle.peak_reach.proofs.Standards.{settles, up_is, up_low, whole_is}

-- ---- the longest standard
module _ (kg sum w n r : ℕ) (g : Given kg sum w n r) where
  pub upper_most : sum * (1000000 + w) ≤ 8589942784 * 3236000
  upper_most = let l : 1000000 + w ≤ 3236000 = omega (arith, g.shape) in mul-le-mul g.most l

  pub upper_some : 1 ≤ sum * (1000000 + w)
  upper_some = let l : 1 ≤ 1000000 + w = omega arith in mul-pos g.some l

  pub upper_few : kg < 64 * sum → 1000000 * kg < 64 * (sum * (1000000 + w))
  upper_few few = let l : 1000000 ≤ 1000000 + w = omega arith in omega (arith, mul-le-mul_left sum l)

  pub longest_is : (less x rest f : ℕ) (p : Power) → Division 20 (1000000 * kg) (sum * (1000000 + w)) x rest → p ≡ our_down x
      → Within (r * (p.mantissa * 2 ^ p.shift) - less) f → lesser longest_standard (f / n) ≡ longest_by kg sum w n r less
  unfolding longest_by
  longest_is less x rest f p v d b =
      rw (← whole_is (1000000 * kg) (sum * (1000000 + w)) x rest upper_some v, ← d)
      (settles (r * (p.mantissa * 2 ^ p.shift) - less) n g.counts f g.few b)

  -- ---- the shortest
  pub lower_most : sum * (1000000 - w) ≤ 8589942784 * 1000000
  lower_most = let l : 1000000 - w ≤ 1000000 = omega arith in mul-le-mul g.most l

  module _ (shape : w < 1000000) where
    pub lower_some : 1 ≤ sum * (1000000 - w)
    lower_some = let l : 1 ≤ 1000000 - w = omega arith in mul-pos g.some l

    pub shortest_past : past ≤ exponent_up kg sum w → 0 ≡ shortest_above kg sum w n r
    unfolding shortest_above
    shortest_past h = rw (le-leb past (exponent_up kg sum w) h)

    pub shortest_far : 64 ≤ 1000000 * kg / (sum * (1000000 - w)) → 0 ≡ shortest_above kg sum w n r
    shortest_far h =
        shortest_past
        (le_of_mul-le-mul_right {k = sum * (1000000 - w)}
        (omega (
          arith,
          up_low (units * (1000000 * kg)) (sum * (1000000 - w)) lower_some,
          (le-div_iff_mul-le {k = sum * (1000000 - w)} {x = 64} {y = 1000000 * kg} lower_some).0 h,
        ))
        lower_some)

    module _ (x rest z : ℕ) (v : Division 20 (1000000 * kg) (sum * (1000000 - w)) x rest) (e : z ≡ cond (eqb rest 0) 0 1) where
      exponent_is : x + z ≡ exponent_up kg sum w
      exponent_is = rw e (up_is (1000000 * kg) (sum * (1000000 - w)) x rest lower_some v)

      pub shortest_none : past ≤ x + z → 0 ≡ shortest_above kg sum w n r
      shortest_none h = shortest_past (rw exponent_is at h)

      pub small_one : z ≤ 1
      small_one = rw e (by_test (eqb rest 0) (λ t. rw t (omega arith)) (λ t. rw t (omega arith)))

      module _ (small : x + z < past) (p : Power) (d : p ≡ our_up (x + z)) (f : ℕ) (b : Within (r * (p.mantissa * 2 ^ p.shift) - 0) f) where
        after : shortest_above kg sum w n r ≡ shortest_after (lesser longest_standard (f / n))
        unfolding shortest_above
        after =
            let same : r * (p.mantissa * 2 ^ p.shift) - 0 ≡ r * (p.mantissa * 2 ^ p.shift) = omega arith in
            rw (← exponent_is, lt-leb past (x + z) small, ← d)
            (ap shortest_after (sym (settles (r * (p.mantissa * 2 ^ p.shift)) n g.counts f g.few (rw same at b))))

        pub shortest_too_long : longest_standard ≤ f / n → 0 ≡ shortest_above kg sum w n r
        shortest_too_long h = rw (after, le-leb longest_standard (f / n) h)

        pub shortest_is : f / n < longest_standard → f / n + 1 ≡ shortest_above kg sum w n r
        shortest_is h = rw (after, lt-leb longest_standard (f / n) h, lt-ltb (f / n) longest_standard h)

-- ---- what the steps are handed
module _ (u c k sum D P g : ℕ) (a : Ready u c k sum D P) (is : g ≡ our_figure c u) where
  pub level_bound : g < 2097152
  level_bound = rw is (our_logarithm c u (omega (arith, a.level_most))).bound

  pub level_small : k * g ≤ 8589946880
  level_small = let l : g ≤ 2097152 = omega (arith, level_bound) in omega (arith, mul-le-mul a.few l)

  pub time_some : 1 ≤ 1000 * (P * D)
  time_some = let p : 1 ≤ P = omega (arith, a.two, a.samples_some) in omega (arith, mul-pos p a.step-some)

  pub time_most : P * D ≤ 1000000000000
  time_most = omega (arith, mul-le-mul a.samples_most a.step_most)

  pub width_is : width_within 2236 k P ≡ count_width k P
  width_is =
      width_within_lem 2236 k P
      (record { factor = lit≤ tt; failures = omega (arith, a.few); among = a.samples_some; samples = a.samples_most })

  pub small_count : (h : ℕ) → h ≡ width_within 2236 k P → h ≤ 223600
  small_count h e = rw (e, width_is) (count_most k P a.few)

  pub small_shape : (w : ℕ) → w ≡ shape_width k → w ≤ 2236000
  small_shape w e = rw e (shape_most k (omega (arith, a.two)))

  pub given : (h w : ℕ) → h ≤ 223600 → w ≤ 2236000 → Given (k * g) (sum + 2 * (k - 1)) w (1000 * k + h) (1000 * (P * D))
  given h w count shape =
      record {
        level = level_small;
        some = omega (arith, a.spread);
        most = omega (arith, a.sum_most, a.few);
        shape = shape;
        counts = omega (arith, a.two);
        few = omega (arith, a.few);
        time = time_some;
      }

  pub given_estimate : Given (k * g) (sum + 2 * (k - 1)) 0 (1000 * k) (1000 * (P * D))
  given_estimate =
      record {
        level = level_small;
        some = omega (arith, a.spread);
        most = omega (arith, a.sum_most, a.few);
        shape = omega arith;
        counts = omega (arith, a.two);
        few = omega (arith, a.few);
        time = time_some;
      }

  pub small : k * g < 64 * (sum + 2 * (k - 1))
  small = rw is a.small

  pub level_most : (G : ℕ) → G ≡ cond (eqb c u) 0 (g + 2) → G ≤ 2097155
  level_most G e = rw e (by_test (eqb c u) (λ t. rw t (omega arith)) (λ t. rw t (omega (arith, level_bound))))

  pub three_is : (h w G E A B : ℕ) → h ≡ width_within 2236 k P → w ≡ shape_width k → G ≡ cond (eqb c u) 0 (g + 2)
      → E ≡ longest_by (k * g) (sum + 2 * (k - 1)) 0 (1000 * k) (1000 * (P * D)) 0
      → A ≡ longest_by (k * g) (sum + 2 * (k - 1)) w (1000 * k + h) (1000 * (P * D)) 1
      → B ≡ rejected_by k G sum h w (1000 * (P * D))
      → ◌≡◌ {A = Times} (record { estimate = E; accepted = A; rejected = B }) (times_of u c k sum D P)
  three_is h w G E A B eh ew eG eE eA eB = rw (eE, eA, eB, eG, ew, eh, width_is, is)

module _ (k level sum h w r : ℕ) where
  pub rejected_none : no_lower_end k h w ≡ true → 0 ≡ rejected_by k level sum h w r
  unfolding rejected_by
  rejected_none e = rw e

  module _ (e : no_lower_end k h w ≡ false) where
    pub shape_below : w < 1000000
    shape_below = leb-false 1000000 w (neither (leb 1000000 w) (leb (1000 * k) h) e).0

    pub count_below : h < 1000 * k
    count_below = leb-false (1000 * k) h (neither (leb 1000000 w) (leb (1000 * k) h) e).1

    pub rejected_is : (q : ℕ) → q ≡ shortest_above (k * level) sum w (1000 * k - h) r → q ≡ rejected_by k level sum h w r
    unfolding rejected_by
    rejected_is q d = rw e d

    pub given_rejected : 2 ≤ k → k ≤ 4096 → level ≤ 2097155 → 1 ≤ sum → sum ≤ 8589934592 → w ≤ 2236000 → 1 ≤ r
        → Given (k * level) sum w (1000 * k - h) r
    given_rejected two few low spread most shape time =
        record {
          level = omega (arith, mul-le-mul few low);
          some = spread;
          most = omega arith;
          shape = shape;
          counts = omega (arith, count_below);
          few = omega arith;
          time = time;
        }
