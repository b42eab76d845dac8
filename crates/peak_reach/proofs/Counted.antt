-- At the k-th peak itself, c = u, the times are the counted ones: the exponents are 0, and our figures of e ^ 0 are 1
-- exactly. Assumes nothing.
use mathlib.Core.Path.{◌≡◌, refl, sym}
use mathlib.Core.Logic.{⊎_elim}
use Prim.Native.Nat.{ℕ, ◌+◌, ◌-◌, ◌*◌, ◌/◌, ◌≤◌, ◌<◌}
use native.Mathlib.Nat.{le_refl, mul-lt-mul_of_pos_right, mul-pos}
use native.Mathlib.Omega.{arith}
use lib.Dec.{lit<}
use Rattle.truth.proofs.Cases.{by_order}
use Rattle.poisson.specs.Rows.{million}
use Rattle.logarithm.specs.Ours.{our_figure}
use Rattle.logarithm.proofs.Whole.{none_within}
use Rattle.exponential.specs.Exponential.{one, past, units}
use Rattle.exponential.specs.Ours.{down_times, our_down, our_up, rows_down, rows_up, up_times}
use Rattle.peak_reach.specs.Answers.{CountedTimes}
use Rattle.peak_reach.specs.Figures.{exponent_down, exponent_up, full_sum, longest_by, longest_standard, rejected_by}
use Rattle.peak_reach.specs.Figures.{times_by}
use Rattle.peak_reach.proofs.Rightly.{Refuted, level_none, refuted}
use Rattle.peak_reach.proofs.Standards.{Most, least_up, most_within, only_down}

down_one : down_times 0 ≡ one
unfolding our_down rows_down
down_one = refl

up_one : up_times 0 ≡ one
unfolding our_up rows_up
up_one = refl

nothing_over : (N d : ℕ) → 1 ≤ d → N ≡ 0 → N / d ≡ 0
nothing_over N d some e = sym (only_down N d some 0 (omega arith) (omega arith))

module _ (k H w : ℕ) (some : 1 ≤ H) where
  pub no_exponent : exponent_down (k * 0) H w ≡ 0
  no_exponent =
      let l : 1 ≤ million + w = omega arith in
      nothing_over (units * (million * (k * 0))) (H * (million + w)) (mul-pos some l) (omega arith)

  pub no_exponent_up : w < million → exponent_up (k * 0) H w ≡ 0
  no_exponent_up shape =
      let l : 1 ≤ million - w = omega arith in
      let h = least_up (units * (million * (k * 0))) (H * (million - w)) 0 (mul-pos some l) (omega arith) in
      omega arith

most_counted : (k H w n r less : ℕ) → 1 ≤ H → 1 ≤ n → Most (r * one - less) n (longest_by (k * 0) H w n r less)
unfolding longest_by
most_counted k H w n r less some counts = rw (no_exponent k H w some, down_one) (most_within (r * one - less) n counts)

module _ (u k S h w r : ℕ) (two : 2 ≤ k) (spread : 1 ≤ S) (time : 1 ≤ r) where
  figure_none : our_figure u u ≡ 0
  figure_none = none_within u u (le_refl u)

  some_sum : 1 ≤ full_sum k S
  some_sum = omega arith

  E-most : Most (r * one - 0) (1000 * k) (times_by u u k S h w r).estimate
  E-most = rw figure_none (most_counted k (full_sum k S) 0 (1000 * k) r 0 some_sum (omega arith))

  A-most : Most (r * one - 1) (1000 * k + h) (times_by u u k S h w r).accepted
  A-most = rw figure_none (most_counted k (full_sum k S) w (1000 * k + h) r 1 some_sum (omega arith))

  found : 1 ≤ (times_by u u k S h w r).rejected → Refuted k 0 S h w r (rejected_by k 0 S h w r)
  found l = (refuted k 0 S h w r).0 (rw (level_none u u refl) at l)

  shortest : w < million → h < 1000 * k → (q : ℕ) → q ≤ longest_standard → r < q * (1000 * k - h)
      → (1 ≤ (times_by u u k S h w r).rejected) × ((times_by u u k S h w r).rejected ≤ q)
  shortest shape count q most l =
      let X = no_exponent_up k S w spread shape in
      let long : r * up_times (exponent_up (k * 0) S w) < q * (1000 * k - h) * one =
      rw (X, up_one) (mul-lt-mul_of_pos_right l (lit< tt))
      in
      let B = rejected_by k 0 S h w r in
      rw (level_none u u refl)
      (by_order 0 B
      (λ some. (some, ((refuted k 0 S h w r).0 some).after.shortest q long))
      (λ none.
      absurd (⊎_elim
      (λ far. let z : past ≤ 0 = rw X at far in omega arith)
      (λ f. f q most long)
      ((refuted k 0 S h w r).1 (omega arith) shape count))))

  pub counted : CountedTimes k h w r (times_by u u k S h w r)
  counted =
      record {
        estimate_within = omega (arith, E-most.reached);
        estimate_longest = λ q most l. E-most.longest q most (omega arith);
        accepted_below = omega (arith, A-most.reached);
        accepted_longest = λ q most l. A-most.longest q most (omega arith);
        rejected_above = λ l.
            let f = found l in
            rw (level_none u u refl)
            (omega (arith, rw (no_exponent_up k S w spread f.shape, up_one) at f.after.long));
        rejected_shortest = shortest;
      }
